-- A match within the limits has its parts within them.
use Rattle.std.proofs.Common.{◌≡◌, ℕ, ◌+◌, List, [], ◌∷◌, map, length, Bool, true, false, refl, sym, ap, ◌∙◌, ◌⊎◌, inl, inr, arith}
use Rattle.std.specs.Prelude.{Option, Some, None, is_none, find, nat_eq, if◌then◌else◌, ◌&&◌, Ok, Err}
use Rattle.std.specs.Option.{option_map, option_and_then}
use Rattle.std.proofs.lemmas.List.{map-append}
use Rattle.cic_names.specs.Sameness.{same_id}
use Rattle.cic_terms.specs.Tree.{Tree, Children, no_child, child, many, case}
use Rattle.cic_terms.specs.Sizes.{ChildrenFit}
use Rattle.cic_rules.specs.Environment.{Constructor, ConstructorDeclaration}
use Rattle.gal_grammar.specs.Terms.{Qual, Binder}
use Rattle.gal_scoping.specs.Readings.{Reading, bad_pattern, after, with_part}
use Rattle.gal_scoping.specs.Names.{Around, Place, written}
use Rattle.gal_scoping.specs.Matches.{MatchedType, ReadBranch, has_place, Pattern, names_at, pattern_of, pattern_read, constructor_meant, with_branch, onto_parts, in_order, case_of}
use Rattle.elab_parts.specs.calls.Parts.{cut}
use Rattle.elab_parts.proofs.Cuts.{cut_is, cut_unfit}
use Rattle.elab_matches.specs.calls.Branches.{KnownBranch, cut_branch, branch_of, known_pattern_of, known_pattern, known_with_branch}
use Rattle.elab_matches.specs.calls.Cases.{missing, onto_known, known_in_order, case_if, where_none, known_case}

-- Which branch a constructor has does not hang on the bodies.
cut_here : (here : Bool) (b : ReadBranch) (rest : Option ReadBranch) (known : Option KnownBranch) → known ≡ option_map cut_branch rest →
    (if here then Some (cut_branch b) else known) ≡ option_map cut_branch (if here then Some b else rest)
cut_here true b rest known e = refl
cut_here false b rest known e = e

branch_cut : (done : List ReadBranch) (place : ℕ) → branch_of (map cut_branch done) place ≡ option_map cut_branch (find (has_place place) done)
branch_cut [] place = refl
branch_cut (b ∷ bs) place = cut_here (nat_eq place b.place) b (find (has_place place) bs) _ (branch_cut bs place)

none_kept : {A B : Type 0} (f : A → B) (o : Option A) → is_none (option_map f o) ≡ is_none o
none_kept f None = refl
none_kept f (Some a) = refl

pattern_of_cut : (name : List ℕ) (type : MatchedType) (done : List ReadBranch) (binders : List Binder) (c : Constructor) →
    known_pattern_of name type (map cut_branch done) binders c ≡ pattern_of name type done binders c
pattern_of_cut name type done binders c =
    ap (λ (free : Bool). if same_id type.id c.owner && free
    then with_part (λ names. let p : Pattern = record { place = c.place; names = names } in p) (names_at name c.parameters c.type binders)
    else Err (bad_pattern name))
    (ap is_none (branch_cut done c.place) ∙ none_kept cut_branch (find (has_place c.place) done))

after_same : {A B : Type 0} (f g : A → Reading B) (r : Reading A) → ((a : A) → f a ≡ g a) → after r f ≡ after r g
after_same f g (Ok a) h = h a
after_same f g (Err e) h = refl

-- A pattern is read by the places of the branches alone.
pub pattern_cut : (place : Place) (around : Around) (type : MatchedType) (done : List ReadBranch) (x : Qual) (binders : List Binder) →
    known_pattern place around type (map cut_branch done) x binders ≡ pattern_read place around type done x binders
pattern_cut place around type done x binders =
    after_same _ _ (constructor_meant place around x) (pattern_of_cut (written x) type done binders)

pub more_cut : (done : List ReadBranch) (p : Pattern) (body : Tree) →
    known_with_branch (map cut_branch done) p (cut body) ≡ map cut_branch (with_branch done p body)
more_cut done p body = sym (map-append cut_branch done (record { place = p.place; binders = length p.names; body = body } ∷ []))

-- Parts in a row, where all are within the limits.
whole : Children → Option Children
whole no_child = Some no_child
whole (child b t ks) = option_and_then (λ t. option_map (child b t) (whole ks)) (cut t)

whole_is : (ks : Children) → (whole ks ≡ Some ks × ChildrenFit 4000 ks) ⊎ (whole ks ≡ None × ¬ ChildrenFit 4000 ks)
unfolding whole
whole_is no_child = inl (refl, record { depth = omega arith; rels = omega arith })
whole_is (child b t ks) = elim (cut_is t) [
  | inl p ↦ elim (whole_is ks) [
    | inl q ↦ inl (rw (p.0, q.0) refl, record { depth = omega (arith, p.1.depth, q.1.depth); rels = omega (arith, p.1.rels, q.1.rels) })
    | inr q ↦ inr (rw (p.0, q.0) refl, λ f. q.1 (record { depth = omega (arith, f.depth); rels = omega (arith, f.rels) }))
  ]
  | inr p ↦ inr (rw p.0 refl, λ f. p.1 (record { depth = omega (arith, f.depth); rels = omega (arith, f.rels) }))
]

case_cut : (type : MatchedType) (value motive : Tree) (ks : Children) →
    case_if type (cut value) (cut motive) (whole ks) ≡ cut (case type.id (length type.indices) motive value ks)
case_cut type value motive ks = elim (cut_is value) [
  | inl p ↦ elim (cut_is motive) [
    | inl q ↦ elim (whole_is ks) [
      | inl r ↦ rw (p.0, q.0, r.0) refl
      | inr r ↦ rw (p.0, q.0, r.0) (sym (cut_unfit all (λ f. r.1 (record { depth = omega (arith, f.depth); rels = omega (arith, f.rels) }))))
    ]
    | inr q ↦ rw (p.0, q.0) (sym (cut_unfit all (λ f. q.1 (record { depth = omega (arith, f.depth); rels = omega (arith, f.rels) }))))
  ]
  | inr p ↦ rw p.0 (sym (cut_unfit all (λ f. p.1 (record { depth = omega (arith, f.depth); rels = omega (arith, f.rels) }))))
]
  where
    all : Tree
    all = case type.id (length type.indices) motive value ks

-- The branches in order, and what is made of them.
two_parts : {A B C : Type 0} (f : B → C) (g : A → B) (r : Reading A) → with_part f (with_part g r) ≡ with_part (λ a. f (g a)) r
two_parts f g (Ok a) = refl
two_parts f g (Err e) = refl

same_part : {A B : Type 0} (f g : A → B) (r : Reading A) → ((a : A) → f a ≡ g a) → with_part f r ≡ with_part g r
same_part f g (Ok a) h = ap Ok (h a)
same_part f g (Err e) h = refl

onto : (name : List ℕ) (done : List ReadBranch) (place : ℕ) (cs : List ConstructorDeclaration) (F : Option Children → Option Tree) (found : Option ReadBranch) →
    ((F : Option Children → Option Tree) →
    where_none (missing (map cut_branch done) (place + 1) cs) (F (known_in_order (map cut_branch done) (place + 1) (length cs))) ≡ with_part (λ ks. F (whole ks)) (in_order done (place + 1) cs)) →
    where_none (if is_none (option_map cut_branch found) then Some name else missing (map cut_branch done) (place + 1) cs)
    (F (onto_known (option_map cut_branch found) (known_in_order (map cut_branch done) (place + 1) (length cs))))
    ≡ with_part (λ ks. F (whole ks)) (onto_parts name found (in_order done (place + 1) cs))
unfolding whole
onto name done place cs F None h = refl
onto name done place cs F (Some b) h =
    h (λ o. F (onto_known (Some (cut_branch b)) o)) ∙ sym (two_parts (λ ks. F (whole ks)) (child (many b.binders) b.body) (in_order done (place + 1) cs))

orders : (done : List ReadBranch) (place : ℕ) (cs : List ConstructorDeclaration) (F : Option Children → Option Tree) →
    where_none (missing (map cut_branch done) place cs) (F (known_in_order (map cut_branch done) place (length cs))) ≡ with_part (λ ks. F (whole ks)) (in_order done place cs)
unfolding whole
orders done place [] F = refl
orders done place (c ∷ cs) F =
    ap (λ (o : Option KnownBranch). where_none (if is_none o then Some c.id.name else missing (map cut_branch done) (place + 1) cs)
    (F (onto_known o (known_in_order (map cut_branch done) (place + 1) (length cs))))) (branch_cut done place)
    ∙ onto c.id.name done place cs F (find (has_place place) done) (orders done (place + 1) cs)

-- The match of parts, each as far as it is within the limits, is the match as far as it is.
pub whole_case : (type : MatchedType) (value motive : Tree) (done : List ReadBranch) →
    known_case type (cut value) (cut motive) (map cut_branch done) ≡ with_part cut (case_of type value motive done)
whole_case type value motive done =
    orders done 0 type.type.constructors (case_if type (cut value) (cut motive))
    ∙ same_part _ _ (in_order done 0 type.type.constructors) (case_cut type value motive)
    ∙ sym (two_parts cut (case type.id (length type.indices) motive value) (in_order done 0 type.type.constructors))
