-- Functions are the same where their shapes and their parts are.
use Rattle.std.proofs.Common.{◌≡◌, ◌≢◌, ◌↔◌, IsTrue, Bool, false, true≢false, ℕ, suc, List, ◌∷◌, length, refl, sym, ap, ◌∙◌, subst}
use Rattle.cic_terms.specs.Tree.{Children, no_child, child, join, Shape, sort}
use Rattle.cic_names.specs.declared.level.Sort.{Sort}
use Rattle.cic_names.specs.declared.level.Sort.TheVariants.{Prop, Set, Typ}
use Rattle.cic_names.specs.contracts.level.SortPartialEq.TheImpl as sorts
use Rattle.cic_names.proofs.Equality.{sort_equal_decides}
use Rattle.cic_terms.specs.declared.term.Term.{Term, Sort as SortTerm}
use Rattle.cic_terms.specs.Denotes.{tree, tree_sort, branches, terms, body_list, shape_list, body_parts, shape, domain_count}
use Rattle.cic_terms.specs.calls.Answer.{SameParts, SameBodies}
use Rattle.cic_terms.specs.declared.term.FixBody.{FixBody}
use Rattle.cic_terms.specs.declared.term.Branches.{Branches, out-Branches}
use Rattle.cic_terms.specs.declared.term.Terms.{Terms}
use Rattle.cic_terms.specs.declared.term.FixBodies.{FixBodies, out-FixBodies}
use Rattle.cic_terms.proofs.Children.{count_children}
use Rattle.cic_terms.proofs.Rows.{branches-out, bodies-out, shapes-out, length_shapes, count_terms_list, count_branch_list, terms_count, parts_are}

pub join_same : (a a' b b' : Children) → count_children a ≡ count_children a' → join a b ≡ join a' b' → (a ≡ a') × (b ≡ b')
unfolding count_children
join_same no_child no_child b b' e h = (refl, h)
join_same no_child (child n t ks) b b' e h = absurd (cc)
join_same (child n t ks) no_child b b' e h = absurd (cc)
join_same (child n t ks) (child n' t' ks') b b' e h =
    let k : join ks b ≡ join ks' b' = cc in
    let p = join_same ks ks' b b' (cc) k in
    let q = p.0 in
    (cc, p.1)

pub shape_same : (a b : FixBody) → SameParts a b → shape a ≡ shape b
shape_same a b s =
    let d = terms_count a.domains _ (domain_count b) s.domains (count_terms_list 0 b.domains.items.items) in
    let k = s.k in cc

pub parts_same : (all : ℕ) (a b : FixBody) → SameParts a b → body_parts all a ≡ body_parts all b
parts_same all a b s =
    parts_are all _ _ _ _ _ _ _ _ s.domains (terms_count a.domains _ (domain_count b) s.domains (count_terms_list 0 b.domains.items.items)) s.codomain s.body

count_join : (a a' b b' : Children) → count_children a ≡ count_children a' → count_children b ≡ count_children b' → count_children (join a b) ≡ count_children (join a' b')
unfolding count_children
count_join no_child no_child b b' e f = f
count_join no_child (child n t ks) b b' e f = absurd (cc)
count_join (child n t ks) no_child b b' e f = absurd (cc)
count_join (child n t ks) (child n' t' ks') b b' e f = ap suc (count_join ks ks' b b' (cc) f)

count_parts : (all : ℕ) (a b : FixBody) → domain_count a ≡ domain_count b → count_children (body_parts all a) ≡ count_children (body_parts all b)
unfolding count_children
count_parts all a b n = count_join _ _ _ _ (count_terms_list 0 a.domains.items.items ∙ n ∙ sym (count_terms_list 0 b.domains.items.items)) refl

same_parts : (all : ℕ) (a b : FixBody) (r r' : Children) → shape a ≡ shape b → join (body_parts all a) r ≡ join (body_parts all b) r' → SameParts a b × (r ≡ r')
same_parts all a b r r' e h =
    let n = ap (λ (s : Shape). s.domains) e in
    let p = join_same (body_parts all a) (body_parts all b) r r' (count_parts all a b n) h in
    let q = join_same (terms a.domains) (terms b.domains) _ _ (count_terms_list 0 a.domains.items.items ∙ n ∙ sym (count_terms_list 0 b.domains.items.items)) p.0 in
    let t = q.1 in
    (record { k = ap (λ (s : Shape). s.k) e; domains = q.0; codomain = cc; body = cc }, p.1)

-- as far as the lists go
pub record SameLists (n : ℕ) (xs ys : List FixBody) : Type 0 where
  pub shapes : shape_list xs ≡ shape_list ys
  pub parts : body_list n xs ≡ body_list n ys

pub same_cons : (n : ℕ) (a b : FixBody) (xs ys xs' ys' : List FixBody) → xs' ≡ a ∷ xs → ys' ≡ b ∷ ys → SameParts a b → SameLists n xs' ys' ↔ SameLists n xs ys
same_cons n a b xs ys xs' ys' e f s = rw (e, f) (
  λ h.
      let p = same_parts n a b (body_list n xs) (body_list n ys) (shape_same a b s) h.parts in
      let t = h.shapes in
      record { shapes = cc; parts = p.1 },
  λ h.
      let t = h.shapes in
      let u = h.parts in
      let v = shape_same a b s in
      let w = parts_same n a b s in
      record { shapes = cc; parts = cc },
)

pub same_head : (n : ℕ) (a b : FixBody) (xs ys xs' ys' : List FixBody) → xs' ≡ a ∷ xs → ys' ≡ b ∷ ys → SameLists n xs' ys' → SameParts a b
same_head n a b xs ys xs' ys' e f h =
    let k : SameLists n (a ∷ xs) (b ∷ ys) = subst (λ z. SameLists n (a ∷ xs) z) f (subst (λ z. SameLists n z ys') e h) in
    let t = k.shapes in
    (same_parts n a b (body_list n xs) (body_list n ys) (cc) k.parts).0

pub same_whole : (a b : FixBodies) → length (out-FixBodies a).items.items ≡ length (out-FixBodies b).items.items →
    SameLists (length (out-FixBodies a).items.items) (out-FixBodies a).items.items (out-FixBodies b).items.items ↔ SameBodies a b
same_whole a b n =
    let xs = (out-FixBodies a).items.items in
    let ys = (out-FixBodies b).items.items in
    let m : body_list (length xs) ys ≡ body_list (length ys) ys = ap (λ z. body_list z ys) n in (
      λ h. record { shapes = shapes-out a ∙ h.shapes ∙ sym (shapes-out b); parts = bodies-out a ∙ h.parts ∙ m ∙ sym (bodies-out b) },
      λ h. record { shapes = sym (shapes-out a) ∙ h.shapes ∙ shapes-out b; parts = sym (bodies-out a) ∙ h.parts ∙ bodies-out b ∙ sym m },
    )

pub same_bodies_length : (a b : FixBodies) → SameBodies a b → length (out-FixBodies a).items.items ≡ length (out-FixBodies b).items.items
same_bodies_length a b s =
    sym (length_shapes (out-FixBodies a).items.items) ∙ ap length (sym (shapes-out a) ∙ s.shapes ∙ shapes-out b) ∙ length_shapes (out-FixBodies b).items.items

pub branches_length : (a b : Branches) → branches a ≡ branches b → length (out-Branches a).items.items ≡ length (out-Branches b).items.items
branches_length a b e =
    sym (count_branch_list (out-Branches a).items.items) ∙ ap count_children (sym (branches-out a) ∙ e ∙ branches-out b) ∙ count_branch_list (out-Branches b).items.items

pub trees_length : (a b : Terms) → terms a ≡ terms b → length a.items.items ≡ length b.items.items
trees_length a b e = sym (count_terms_list 0 a.items.items) ∙ ap count_children e ∙ count_terms_list 0 b.items.items

-- lists that differ in length differ
pub differ : (p q m n : ℕ) (S : Type 0) → m ≢ n → p ≡ m → q ≡ n → (S → p ≡ q) → IsTrue false ↔ S
differ p q m n S h e f same = (λ z. absurd (true≢false (sym z)), λ z. absurd (h (sym e ∙ same z ∙ f)))

sort_is : (s u : Sort) → sort (tree_sort s) ≡ sort (tree_sort u) → s ≡ u
sort_is Prop Prop h = refl
sort_is Set Set h = refl
sort_is (Typ a) (Typ b) h = cc
sort_is Prop Set h = absurd (cc)
sort_is Prop (Typ b) h = absurd (cc)
sort_is Set Prop h = absurd (cc)
sort_is Set (Typ b) h = absurd (cc)
sort_is (Typ a) Prop h = absurd (cc)
sort_is (Typ a) Set h = absurd (cc)

-- Two sorts, as terms.
pub sorts_same : (a b : Term) (s u : Sort) (r : Bool) → a ≡ SortTerm s → b ≡ SortTerm u → r ≡ sorts.eq-value.it s u → IsTrue r ↔ (tree a ≡ tree b)
sorts_same a b s u r e f h = rw (e, f, h) (
  λ k. ap (λ z. sort (tree_sort z)) ((sort_equal_decides s u).0 k),
  λ k. (sort_equal_decides s u).1 (sort_is s u k),
)
