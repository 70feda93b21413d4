-- The parts of a `Vec` of terms are those of the list of its items.
use Rattle.std.proofs.Common.{◌≡◌, ℕ, suc, ◌+◌, List, [], ◌∷◌, ◌++◌, length, refl, sym, ap, ◌∙◌, arith}
use Rattle.cic_terms.specs.Tree.{Tree, Children, no_child, child, many, join, Shape}
use Rattle.cic_terms.specs.calls.Walk.{map_tree, map_children}
use Rattle.cic_terms.specs.Sizes.{Fits, ChildrenFit}
use Rattle.cic_terms.specs.Denotes.{tree, branches, bodies, shapes, branch_row, term_row, body_row, shape_row, count_terms, count_bodies, terms, branch_list, term_list, body_list, shape_list, body_parts, shape}
use Rattle.cic_terms.proofs.Children.{join_leaf, join_assoc, map_join, fits_join, join_fits, count_children}
use Rattle.cic_terms.specs.declared.term.Term.{Term}
use Rattle.cic_terms.specs.declared.term.Branch.{Branch}
use Rattle.cic_terms.specs.declared.term.Terms.{Terms}
use Rattle.cic_terms.specs.declared.term.FixBody.{FixBody}
use Rattle.cic_terms.specs.declared.term.Branches.{Branches, Branches-F, Branches', out-Branches, roll-Branches, out-roll-Branches, outs-Branches', Row_of-Branch, end_of-Branch, more_of-Branch, items-the_row-Branch, items_shown-the_row-Branch-0}
use Rattle.cic_terms.specs.declared.term.FixBodies.{FixBodies, FixBodies-F, FixBodies', out-FixBodies, roll-FixBodies, out-roll-FixBodies, outs-FixBodies', Row_of-FixBody, end_of-FixBody, more_of-FixBody, items-the_row-FixBody, items_shown-the_row-FixBody-2, Row_of-Term, end_of-Term, more_of-Term, items-the_row-Term, items_shown-the_row-Term-1}

branch_row-list : (n : _) (row : Row_of-Branch n) → branch_row row ≡ branch_list (items-the_row-Branch n row)
branch_row-list n end_of-Branch = refl
branch_row-list n (more_of-Branch k t rest) = ap (child (many k) (tree t)) (branch_row-list _ rest)

term_row-list : (above : ℕ) (n : _) (row : Row_of-Term n) → term_row above row ≡ term_list above (items-the_row-Term n row)
term_row-list above n end_of-Term = refl
term_row-list above n (more_of-Term t rest) = ap (child (many above) (tree t)) (term_row-list (above + 1) _ rest)

count_terms-length : (n : _) (row : Row_of-Term n) → count_terms row ≡ length (items-the_row-Term n row)
count_terms-length n end_of-Term = refl
count_terms-length n (more_of-Term t rest) = ap suc (count_terms-length _ rest)

count_bodies-length : (n : _) (row : Row_of-FixBody n) → count_bodies row ≡ length (items-the_row-FixBody n row)
count_bodies-length n end_of-FixBody = refl
count_bodies-length n (more_of-FixBody k x ds c b rest) = ap suc (count_bodies-length _ rest)

body_step : (a a' : Children) (n n' all : ℕ) (c b : Tree) (r r' : Children) → a ≡ a' → n ≡ n' → r ≡ r' →
    join a (child (many n) c (child (many (all + n)) b r)) ≡ join (join a' (child (many n') c (child (many (all + n')) b no_child))) r'
body_step a a' n n' all c b r r' e f g = rw (e, f, g) (sym (join_assoc a' (child (many n') c (child (many (all + n')) b no_child)) r'))

body_row-list : (all : ℕ) (n : _) (row : Row_of-FixBody n) → body_row all row ≡ body_list all (items-the_row-FixBody n row)
body_row-list all n end_of-FixBody = refl
body_row-list all n (more_of-FixBody k x ds c b rest) =
    body_step _ _ _ _ all (tree c) (tree b) _ _ (term_row-list 0 _ ds ∙ ap (term_list 0) (sym (items_shown-the_row-Term-1 x ds)))
    (count_terms-length _ ds ∙ ap length (sym (items_shown-the_row-Term-1 x ds))) (body_row-list all _ rest)

shape_row-list : (n : _) (row : Row_of-FixBody n) → shape_row row ≡ shape_list (items-the_row-FixBody n row)
shape_row-list n end_of-FixBody = refl
shape_row-list n (more_of-FixBody k x ds c b rest) =
    let e = count_terms-length _ ds ∙ ap length (sym (items_shown-the_row-Term-1 x ds)) in
    let others = shape_row-list _ rest in
    cc

all_list : List FixBody → Children
all_list bs = body_list (length bs) bs

pub branches-out : (bs : Branches) → branches bs ≡ branch_list (out-Branches bs).items.items
branches-out (Branches' x row) =
    branch_row-list _ row ∙ ap branch_list (sym (items_shown-the_row-Branch-0 x row)) ∙ ap (λ r. branch_list r.items.items) (sym (outs-Branches' x row))

bodies-all : (bs : FixBodies) → bodies bs ≡ all_list (out-FixBodies bs).items.items
unfolding all_list
bodies-all (FixBodies' x row) =
    body_row-list (count_bodies row) _ row ∙ ap (λ n. body_list n (items-the_row-FixBody _ row)) (count_bodies-length _ row)
    ∙ ap all_list (sym (items_shown-the_row-FixBody-2 x row)) ∙ ap (λ r. all_list r.items.items) (sym (outs-FixBodies' x row))

pub bodies-out : (bs : FixBodies) → bodies bs ≡ body_list (length (out-FixBodies bs).items.items) (out-FixBodies bs).items.items
unfolding all_list
bodies-out bs = bodies-all bs

pub shapes-out : (bs : FixBodies) → shapes bs ≡ shape_list (out-FixBodies bs).items.items
shapes-out (FixBodies' x row) =
    shape_row-list _ row ∙ ap shape_list (sym (items_shown-the_row-FixBody-2 x row)) ∙ ap (λ r. shape_list r.items.items) (sym (outs-FixBodies' x row))

pub branches-roll : (r : Branches-F _ _ _ _ _ _) → branches (roll-Branches r) ≡ branch_list r.items.items
branches-roll r = branches-out (roll-Branches r) ∙ ap (λ r. branch_list r.items.items) (out-roll-Branches r)

pub shapes-roll : (r : FixBodies-F _ _ _ _ _ _) → shapes (roll-FixBodies r) ≡ shape_list r.items.items
shapes-roll r = shapes-out (roll-FixBodies r) ∙ ap (λ r. shape_list r.items.items) (out-roll-FixBodies r)

pub bodies-roll : (r : FixBodies-F _ _ _ _ _ _) (n : ℕ) → length r.items.items ≡ n → bodies (roll-FixBodies r) ≡ body_list n r.items.items
unfolding all_list
bodies-roll r n e = bodies-all (roll-FixBodies r) ∙ ap (λ r. all_list r.items.items) (out-roll-FixBodies r) ∙ ap (λ m. body_list m r.items.items) e

pub branches_are : (bs : Branches) (xs : List Branch) → xs ≡ (out-Branches bs).items.items → branch_list xs ≡ branches bs
branches_are bs xs e = ap branch_list e ∙ sym (branches-out bs)

pub bodies_are : (bs : FixBodies) (xs : List FixBody) (n : ℕ) → xs ≡ (out-FixBodies bs).items.items → n ≡ length (out-FixBodies bs).items.items → body_list n xs ≡ bodies bs
bodies_are bs xs n e f = ap (body_list n) e ∙ ap (λ m. body_list m (out-FixBodies bs).items.items) f ∙ sym (bodies-out bs)

pub shapes_are : (bs : FixBodies) (xs : List FixBody) → xs ≡ (out-FixBodies bs).items.items → shape_list xs ≡ shapes bs
shapes_are bs xs e = ap shape_list e ∙ sym (shapes-out bs)

-- one more at the end
pub branch_more : (bs : List Branch) (b : Branch) → branch_list (bs ++ b ∷ []) ≡ join (branch_list bs) (child (many b.binders) (tree b.body) no_child)
branch_more [] b = refl
branch_more (x ∷ bs) b = ap (child (many x.binders) (tree x.body)) (branch_more bs b)

pub term_more : (above n : ℕ) (ts : List Term) (t : Term) → above + length ts ≡ n → term_list above (ts ++ t ∷ []) ≡ join (term_list above ts) (child (many n) (tree t) no_child)
term_more above n [] t e = ap (λ m. child (many m) (tree t) no_child) (omega arith)
term_more above n (x ∷ ts) t e = ap (child (many above) (tree x)) (term_more (above + 1) n ts t (omega arith))

pub body_more : (all : ℕ) (bs : List FixBody) (b : FixBody) → body_list all (bs ++ b ∷ []) ≡ join (body_list all bs) (body_parts all b)
body_more all [] b = join_leaf (body_parts all b)
body_more all (x ∷ bs) b = ap (join (body_parts all x)) (body_more all bs b) ∙ sym (join_assoc (body_parts all x) (body_list all bs) (body_parts all b))

pub shape_more : (made : List FixBody) (b : FixBody) → shape_list (made ++ b ∷ []) ≡ shape_list made ++ shape b ∷ []
shape_more [] b = refl
shape_more (x ∷ made) b = ap (λ z. shape x ∷ z) (shape_more made b)

one_more : (made : List Shape) (s : Shape) (rest : List Shape) → (made ++ s ∷ []) ++ rest ≡ made ++ s ∷ rest
one_more [] s rest = refl
one_more (x ∷ made) s rest = ap (λ z. x ∷ z) (one_more made s rest)

pub shapes_more : (made made' : List Shape) (x : FixBody) (now rest : List FixBody) (whole : List Shape) →
    made ++ shape_list now ≡ whole → now ≡ x ∷ rest → made' ≡ made ++ shape x ∷ [] → made' ++ shape_list rest ≡ whole
shapes_more made made' x now rest whole h e f =
    ap (λ z. z ++ shape_list rest) f ∙ one_more made (shape x) (shape_list rest) ∙ sym (ap (λ z. made ++ shape_list z) e) ∙ h

no_more : (ss : List Shape) → ss ++ [] ≡ ss
no_more [] = refl
no_more (s ∷ ss) = ap (λ z. s ∷ z) (no_more ss)

pub shapes_end : (made : List FixBody) (whole : List Shape) → shape_list made ++ [] ≡ whole → shape_list made ≡ whole
shapes_end made whole h = sym (no_more (shape_list made)) ∙ h

pub length_shapes : (bs : List FixBody) → length (shape_list bs) ≡ length bs
length_shapes [] = refl
length_shapes (b ∷ bs) = ap suc (length_shapes bs)

pub shapes_count : (made : List FixBody) (bs : FixBodies) → shape_list made ≡ shapes bs → length made ≡ length (out-FixBodies bs).items.items
shapes_count made bs e = sym (length_shapes made) ∙ ap length (e ∙ shapes-out bs) ∙ length_shapes (out-FixBodies bs).items.items

pub count_terms_list : (above : ℕ) (ts : List Term) → count_children (term_list above ts) ≡ length ts
unfolding count_children
count_terms_list above [] = refl
count_terms_list above (t ∷ ts) = ap suc (count_terms_list (above + 1) ts)

pub count_branch_list : (bs : List Branch) → count_children (branch_list bs) ≡ length bs
unfolding count_children
count_branch_list [] = refl
count_branch_list (b ∷ bs) = ap suc (count_branch_list bs)

pub terms_count : (a : Terms) (ks : Children) (n : ℕ) → terms a ≡ ks → count_children ks ≡ n → length a.items.items ≡ n
terms_count a ks n e f = sym (count_terms_list 0 a.items.items) ∙ ap count_children e ∙ f

-- the parts of a function
abbrev pub parts : Children → ℕ → Tree → ℕ → Tree → Children
parts ds m c n b = join ds (child (many m) c (child (many n) b no_child))

pub map_parts : (becomes : ℕ → ℕ → Tree) (at : ℕ) (ds : Children) (m : ℕ) (c : Tree) (n : ℕ) (b : Tree) →
    map_children becomes at (parts ds m c n b) ≡ parts (map_children becomes at ds) m (map_tree becomes (at + m) c) n (map_tree becomes (at + n) b)
map_parts becomes at ds m c n b = map_join becomes at ds (child (many m) c (child (many n) b no_child))

pub parts_fit : (room : ℕ) (ds : Children) (m : ℕ) (c : Tree) (n : ℕ) (b : Tree) → ChildrenFit room ds → Fits room c → Fits room b → ChildrenFit room (parts ds m c n b)
parts_fit room ds m c n b f g h =
    fits_join room ds (child (many m) c (child (many n) b no_child)) f (record { depth = omega (arith, g.depth, h.depth); rels = omega (arith, g.rels, h.rels) })

pub fits_parts : (room : ℕ) (ds : Children) (m : ℕ) (c : Tree) (n : ℕ) (b : Tree) → ChildrenFit room (parts ds m c n b) → ChildrenFit room ds × Fits room c × Fits room b
fits_parts room ds m c n b h =
    let k = join_fits room ds (child (many m) c (child (many n) b no_child)) h in
    let d = k.1 in
    (k.0, record { depth = omega (arith, d.depth); rels = omega (arith, d.rels) }, record { depth = omega (arith, d.depth); rels = omega (arith, d.rels) })

pub parts_are : (all m m' : ℕ) (ds ds' : Children) (c c' b b' : Tree) → ds' ≡ ds → m' ≡ m → c' ≡ c → b' ≡ b → parts ds' m' c' (all + m') b' ≡ parts ds m c (all + m) b
parts_are all m m' ds ds' c c' b b' e f g h = rw (e, f, g, h)
