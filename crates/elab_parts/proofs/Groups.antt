-- Groups of binders, taken one binder after the other, and terms over them.
use Rattle.std.proofs.Common.{◌≡◌, ℕ, ◌+◌, ◌-◌, ◌<◌, List, [], ◌∷◌, ◌++◌, map, reverse, length, take, get_or, refl, sym, ap, ◌∙◌, append_assoc, arith}
use Rattle.std.specs.Prelude.{Option}
use Rattle.std.proofs.lemmas.List.{reverse-append}
use Rattle.std.proofs.lemmas.Grind.{common_steps}
use Rattle.cic_terms.specs.Tree.{Tree}
use Rattle.gal_grammar.specs.Terms.{Binder}
use Rattle.gal_scoping.specs.Names.{Around, binder_name}
use Rattle.elab_parts.specs.calls.Parts.{of_two, lifted}
use Rattle.elab_parts.specs.calls.Bindings.{KnownBinding, bindings_known, over_all}

-- one more binder of a group
pub group_more : (made made' whole : List KnownBinding) (passed : ℕ) (x : Binder) (xs rest : List Binder) (type : Option Tree) →
    xs ≡ x ∷ rest → made ++ bindings_known passed xs type ≡ whole →
    made' ≡ made ++ record { name = binder_name x; type = lifted passed type } ∷ [] →
    made' ++ bindings_known (passed + 1) rest type ≡ whole
group_more made made' whole passed x xs rest type at so_far more =
    rw more (append_assoc made _ (bindings_known (passed + 1) rest type) ∙ ap (λ ys. made ++ bindings_known passed ys type) (sym at) ∙ so_far)

pub around_more : (around around' whole : Around) (x : Binder) (xs rest : List Binder) →
    xs ≡ x ∷ rest → reverse (map binder_name xs) ++ around ≡ whole → around' ≡ binder_name x ∷ around →
    reverse (map binder_name rest) ++ around' ≡ whole
around_more around around' whole x xs rest at so_far more =
    let e : reverse (map binder_name xs) ≡ reverse (map binder_name rest) ++ binder_name x ∷ [] =
    ap (λ ys. reverse (map binder_name ys)) at ∙ reverse-append (binder_name x ∷ []) (map binder_name rest) in
    rw more (sym (append_assoc (reverse (map binder_name rest)) (binder_name x ∷ []) around) ∙ ap (λ ys. ys ++ around) (sym e) ∙ so_far)

-- terms over binders, the innermost binder first
pub over_last : (make : Tree → Tree → Tree) (bs : List KnownBinding) (b : KnownBinding) (t : Option Tree) →
    over_all make (bs ++ b ∷ []) t ≡ over_all make bs (of_two make b.type t)
over_last make [] b t = refl
over_last make (a ∷ bs) b t = ap (of_two make a.type) (over_last make bs b t)

take_last : {A : Type 0} (xs : List A) (n : ℕ) (d : A) → n < length xs → take (n + 1) xs ≡ take n xs ++ get_or xs n d ∷ []
take_last xs n d h = grind (arith, common_steps)

pub over_more : (make : Tree → Tree → Tree) (bs : List KnownBinding) (b : KnownBinding) (count place : ℕ) (t : Option Tree) →
    count ≡ length bs → place < count → b ≡ get_or bs (count - 1 - place) b →
    over_all make (take (count - place) bs) t ≡ over_all make (take (count - (place + 1)) bs) (of_two make b.type t)
over_more make bs b count place t e h is =
    let m : count - place ≡ (count - 1 - place) + 1 = omega arith in
    let k : count - (place + 1) ≡ count - 1 - place = omega arith in
    let l : count - 1 - place < length bs = omega arith in
    let at : take (count - place) bs ≡ take (count - (place + 1)) bs ++ b ∷ [] =
    ap (λ n. take n bs) m ∙ take_last bs (count - 1 - place) b l ∙ ap (λ y. take (count - 1 - place) bs ++ y ∷ []) (sym is) ∙ ap (λ n. take n bs ++ b ∷ []) (sym k) in
    ap (λ ys. over_all make ys t) at ∙ over_last make (take (count - (place + 1)) bs) b t
