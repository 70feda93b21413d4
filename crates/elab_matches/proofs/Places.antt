-- What stands at places, and indices without names.
use Rattle.std.proofs.Common.{◌≡◌, ℕ, zero, suc, ◌+◌, ◌-◌, List, [], ◌∷◌, ◌++◌, map, length, take, drop, Bool, true, false, nat_eq, refl, sym, ap, ◌∙◌, eq-eqb, arith, Bor}
use Rattle.std.specs.Prelude.{Option, None, if◌then◌else◌, replicate, is_none, Ok, Err}
use Rattle.std.specs.List.{list_all}
use Rattle.std.specs.Option.{option_copied}
use Rattle.std.proofs.lemmas.Bool.{ne_eqb}
use Rattle.std.proofs.lemmas.List.{length-map, take-map, take_rest}
use Rattle.cic_terms.specs.Tree.{Tree}
use Rattle.gal_grammar.specs.Terms.{Binder}
use Rattle.gal_scoping.specs.Readings.{Reading, bad_pattern}
use Rattle.gal_scoping.specs.Names.{binder_name}
use Rattle.gal_scoping.specs.Matches.{further, names_at}

pub drop_map : {A B : Type 0} (f : A → B) (i : ℕ) (xs : List A) → drop i (map f xs) ≡ map f (drop i xs)
drop_map f zero xs = refl
drop_map f (suc i) [] = refl
drop_map f (suc i) (x ∷ xs) = drop_map f i xs

abbrev are_blank : List Binder → Bool
are_blank = list_all (λ b. is_none (binder_name b))

abbrev chosen : (name : List ℕ) → (all blank : Bool) → List Binder → Reading (List Binder)
chosen name all blank rest =
    if all then (if blank then Ok rest else Err (bad_pattern name)) else Err (bad_pattern name)

names_chosen : (name : List ℕ) (p : ℕ) (type : Tree) (bs : List Binder) (all blank : Bool) →
    nat_eq (length bs) (p + further type p) ≡ all → are_blank (take p bs) ≡ blank → names_at name p type bs ≡ chosen name all blank (drop p bs)
names_chosen name p type bs all blank e f = rw (e, f) refl

pub names_few : {A : Type 0} (f : A → Binder) (name : List ℕ) (p n : ℕ) (type : Tree) (xs : List A) → n ≡ further type p → (length xs ≡ p + n → ⊥) →
    names_at name p type (map f xs) ≡ Err (bad_pattern name)
names_few f name p n type xs e h =
    names_chosen name p type (map f xs) false _
    (ne_eqb _ _ (λ k. h (sym (length-map xs f) ∙ k ∙ ap (λ m. p + m) (sym e)))) refl

pub names_named : {A : Type 0} (f : A → Binder) (name : List ℕ) (p n : ℕ) (type : Tree) (xs : List A) → n ≡ further type p → length xs ≡ p + n →
    are_blank (map f (take p xs)) ≡ false → names_at name p type (map f xs) ≡ Err (bad_pattern name)
names_named f name p n type xs e h blank =
    names_chosen name p type (map f xs) true false
    (eq-eqb _ _ (length-map xs f ∙ h ∙ ap (λ m. p + m) e)) (ap are_blank (take-map f p xs) ∙ blank)

pub names_fit : {A : Type 0} (f : A → Binder) (name : List ℕ) (p n : ℕ) (type : Tree) (xs : List A) → n ≡ further type p → length xs ≡ p + n →
    are_blank (map f (take p xs)) ≡ true → names_at name p type (map f xs) ≡ Ok (map f (take (length xs - p) (drop p xs)))
names_fit f name p n type xs e h blank =
    names_chosen name p type (map f xs) true true
    (eq-eqb _ _ (length-map xs f ∙ h ∙ ap (λ m. p + m) e)) (ap are_blank (take-map f p xs) ∙ blank)
    ∙ ap Ok (drop_map f p xs ∙ ap (map f) (sym (take_rest xs p)))

unnamed : (n : ℕ) → map option_copied (replicate n (let o : Option (Bor (List ℕ)) = None in o)) ≡ replicate n None
unnamed zero = refl
unnamed (suc n) = ap (λ (r : List (Option (List ℕ))). None ∷ r) (unnamed n)

nothing : (n : ℕ) → take n [] ++ replicate n (let o : Option (Bor (List ℕ)) = None in o) ≡ replicate n None
nothing zero = refl
nothing (suc n) = refl

pub resized_names : (items old : List (Option (Bor (List ℕ)))) (n k : ℕ) → items ≡ take n old ++ replicate (n - k) None → old ≡ [] → k ≡ 0 →
    map option_copied items ≡ replicate n None
resized_names items old n k e f g =
    let h : n - k ≡ n = omega (arith, g) in
    ap (map option_copied)
    (e ∙ ap (λ m. take n old ++ replicate m None) h ∙ ap (λ (l : List (Option (Bor (List ℕ)))). take n l ++ replicate n None) f ∙ nothing n)
    ∙ unnamed n
