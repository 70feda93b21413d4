-- The names of joined parts, and how deep parts are.
use Rattle.std.proofs.Common.{◌≡◌, ℕ, ◌+◌, ◌≤◌, max, List, [], ◌∷◌, ◌++◌, refl, sym, ap, ◌∙◌, arith}
use Rattle.cic_names.specs.declared.name.GlobalId.{GlobalId}
use Rattle.cic_terms.specs.Tree.{Tree, Binders, many, Children, no_child, child, join}
use Rattle.cic_terms.specs.Sizes.{depth_tree, depth_children}
use Rattle.cic_terms.specs.Denotes.{tree, terms, body_parts, domain_count}
use Rattle.cic_terms.specs.declared.term.FixBody.{FixBody}
use Rattle.cic_terms.proofs.Children.{depth_join}
use Rattle.section_terms.specs.Names.{names_in, names_in_parts}

pub names_assoc : (as_ bs cs : List GlobalId) → (as_ ++ bs) ++ cs ≡ as_ ++ (bs ++ cs)
names_assoc [] bs cs = refl
names_assoc (a ∷ as_) bs cs = ap (λ (zs : List GlobalId). a ∷ zs) (names_assoc as_ bs cs)

pub names_end : (as_ : List GlobalId) → as_ ++ [] ≡ as_
names_end [] = refl
names_end (a ∷ as_) = ap (λ (zs : List GlobalId). a ∷ zs) (names_end as_)

pub names_joined : (a b : Children) → names_in_parts (join a b) ≡ names_in_parts a ++ names_in_parts b
names_joined no_child b = refl
names_joined (child n t ks) b = ap (λ (zs : List GlobalId). names_in t ++ zs) (names_joined ks b) ∙ sym (names_assoc (names_in t) (names_in_parts ks) (names_in_parts b))

-- One more part
pub note_more : (names names' whole : List GlobalId) (b : Binders) (t : Tree) (now rest : Children) →
    names ++ names_in_parts now ≡ whole → now ≡ child b t rest → names' ≡ names ++ names_in t → names' ++ names_in_parts rest ≡ whole
note_more names names' whole b t now rest h e f =
    ap (λ (zs : List GlobalId). zs ++ names_in_parts rest) f ∙ names_assoc names (names_in t) (names_in_parts rest)
    ∙ sym (ap (λ (ks : Children). names ++ names_in_parts ks) e) ∙ h

pub note_joined : (names names' whole own : List GlobalId) (one now rest : Children) →
    names ++ names_in_parts now ≡ whole → now ≡ join one rest → names' ≡ names ++ own → own ≡ names_in_parts one → names' ++ names_in_parts rest ≡ whole
note_joined names names' whole own one now rest h e f g =
    ap (λ (zs : List GlobalId). zs ++ names_in_parts rest) (f ∙ ap (λ (zs : List GlobalId). names ++ zs) g)
    ∙ names_assoc names (names_in_parts one) (names_in_parts rest)
    ∙ ap (λ (zs : List GlobalId). names ++ zs) (sym (names_joined one rest))
    ∙ sym (ap (λ (ks : Children). names ++ names_in_parts ks) e) ∙ h

pub note_end : (names whole : List GlobalId) (now : Children) → now ≡ no_child → names ++ names_in_parts now ≡ whole → names ≡ whole
note_end names whole now e h = sym (names_end names) ∙ sym (ap (λ (ks : Children). names ++ names_in_parts ks) e) ∙ h

-- A part is no deeper than all.
pub part_depth : (b : Binders) (t : Tree) (now rest : Children) → now ≡ child b t rest → (depth_tree t ≤ depth_children now) × (depth_children rest ≤ depth_children now)
part_depth b t now rest e =
    let d : depth_children now ≡ max (depth_tree t) (depth_children rest) = ap depth_children e in
    (omega (arith, d), omega (arith, d))

pub joined_depth : (one now rest : Children) → now ≡ join one rest → (depth_children one ≤ depth_children now) × (depth_children rest ≤ depth_children now)
joined_depth one now rest e =
    let d : depth_children now ≡ max (depth_children one) (depth_children rest) = ap depth_children e ∙ depth_join one rest in
    (omega (arith, d), omega (arith, d))

-- The names and the depth of a function do not depend on how many functions there are.
abbrev behind : ℕ → FixBody → Children
behind m b = child (many (domain_count b)) (tree b.codomain) (child (many (m + domain_count b)) (tree b.body) no_child)

pub body_names_any : (m : ℕ) (b : FixBody) → names_in_parts (body_parts 0 b) ≡ names_in_parts (body_parts m b)
body_names_any m b = names_joined (terms b.domains) (behind 0 b) ∙ sym (names_joined (terms b.domains) (behind m b))

pub body_depth_any : (m : ℕ) (b : FixBody) → depth_children (body_parts 0 b) ≡ depth_children (body_parts m b)
body_depth_any m b = depth_join (terms b.domains) (behind 0 b) ∙ sym (depth_join (terms b.domains) (behind m b))

pub body_noted : (names one two three : List GlobalId) (m : ℕ) (b : FixBody) → one ≡ names ++ names_in_parts (terms b.domains) → two ≡ one ++ names_in (tree b.codomain) → three ≡ two ++ names_in (tree b.body) →
    three ≡ names ++ names_in_parts (body_parts m b)
body_noted names one two three m b e f g =
    let T : List GlobalId = names_in_parts (terms b.domains) in
    let C : List GlobalId = names_in (tree b.codomain) in
    let B : List GlobalId = names_in (tree b.body) in
    g ∙ ap (λ (zs : List GlobalId). zs ++ B) (f ∙ ap (λ (zs : List GlobalId). zs ++ C) e)
    ∙ ap (λ (zs : List GlobalId). zs ++ B) (names_assoc names T C) ∙ names_assoc names (T ++ C) B
    ∙ ap (λ (zs : List GlobalId). names ++ zs) (names_assoc T C B ∙ ap (λ (zs : List GlobalId). T ++ (C ++ zs)) (sym (names_end B)) ∙ sym (names_joined (terms b.domains) (behind m b)))

-- The parts of a function are no deeper than all of them.
pub body_depths : (b : FixBody) →
    (depth_children (terms b.domains) ≤ depth_children (body_parts 0 b)) × (depth_tree (tree b.codomain) ≤ depth_children (body_parts 0 b)) × (depth_tree (tree b.body) ≤ depth_children (body_parts 0 b))
body_depths b =
    let d : depth_children (body_parts 0 b) ≡ max (depth_children (terms b.domains)) (max (depth_tree (tree b.codomain)) (max (depth_tree (tree b.body)) 0)) = depth_join (terms b.domains) (behind 0 b) in
    (omega (arith, d), omega (arith, d), omega (arith, d))
