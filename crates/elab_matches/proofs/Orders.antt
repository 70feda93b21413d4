-- The branches of constructors, one after the other.
use Rattle.std.proofs.Common.{◌≡◌, ℕ, suc, ◌+◌, ◌-◌, ◌<◌, ◌≤◌, List, refl, sym, ap, ◌∙◌, arith}
use Rattle.std.specs.Prelude.{Option, Some, None}
use Rattle.std.specs.Option.{option_map, option_and_then}
use Rattle.cic_terms.specs.Tree.{Tree, Children, no_child, child, many, join}
use Rattle.cic_terms.proofs.Children.{join_leaf, join_assoc}
use Rattle.elab_matches.specs.calls.Branches.{KnownBranch, branch_of}
use Rattle.elab_matches.specs.calls.Cases.{onto_known, known_in_order}

one_of : (done : List KnownBranch) (place count : ℕ) (found : Option KnownBranch) → place < count → found ≡ branch_of done place →
    known_in_order done place (count - place) ≡ onto_known found (known_in_order done (place + 1) (count - (place + 1)))
one_of done place count found h e =
    let more : count - place ≡ suc (count - (place + 1)) = omega arith in
    ap (known_in_order done place) more ∙ ap (λ (o : Option KnownBranch). onto_known o (known_in_order done (place + 1) (count - (place + 1)))) (sym e)

pub no_branch : (made : Children) (done : List KnownBranch) (place count : ℕ) (whole : Option Children) → place < count → None ≡ branch_of done place →
    option_map (join made) (known_in_order done place (count - place)) ≡ whole → None ≡ whole
no_branch made done place count whole h e invariant = sym (ap (option_map (join made)) (one_of done place count None h e)) ∙ invariant

abbrev onto_body : (binders : ℕ) → Option Tree → Option Children → Option Children
onto_body binders body rest = option_and_then (λ t. option_map (child (many binders) t) rest) body

pub no_body : (made : Children) (done : List KnownBranch) (place count : ℕ) (b : KnownBranch) (whole : Option Children) → place < count → Some b ≡ branch_of done place → b.body ≡ None →
    option_map (join made) (known_in_order done place (count - place)) ≡ whole → None ≡ whole
no_body made done place count b whole h e none invariant =
    sym (ap (option_map (join made))
    (one_of done place count (Some b) h e ∙ ap (λ (o : Option Tree). onto_body b.binders o (known_in_order done (place + 1) (count - (place + 1)))) none))
    ∙ invariant

joined : (made : Children) (binders : ℕ) (t : Tree) (rest : Option Children) →
    option_map (join (join made (child (many binders) t no_child))) rest ≡ option_map (join made) (option_map (child (many binders) t) rest)
joined made binders t None = refl
joined made binders t (Some ks) = ap Some (join_assoc made (child (many binders) t no_child) ks)

pub one_more : (made made' : Children) (done : List KnownBranch) (place count : ℕ) (b : KnownBranch) (t : Tree) (whole : Option Children) → place < count → Some b ≡ branch_of done place → b.body ≡ Some t →
    made' ≡ join made (child (many b.binders) t no_child) →
    option_map (join made) (known_in_order done place (count - place)) ≡ whole →
    option_map (join made') (known_in_order done (place + 1) (count - (place + 1))) ≡ whole
one_more made made' done place count b t whole h e some more invariant =
    let rest = known_in_order done (place + 1) (count - (place + 1)) in
    ap (λ m. option_map (join m) rest) more ∙ joined made b.binders t rest
    ∙ sym (ap (option_map (join made)) (one_of done place count (Some b) h e ∙ ap (λ (o : Option Tree). onto_body b.binders o rest) some))
    ∙ invariant

pub at_end : (made : Children) (done : List KnownBranch) (place count : ℕ) (whole : Option Children) → count ≤ place →
    option_map (join made) (known_in_order done place (count - place)) ≡ whole → Some made ≡ whole
at_end made done place count whole h invariant =
    let none : count - place ≡ 0 = omega arith in
    sym (ap (λ n. option_map (join made) (known_in_order done place n)) none ∙ ap Some (join_leaf made)) ∙ invariant
