-- Binders on a stack, the innermost last, and the innermost of a name.
use Rattle.std.proofs.Common.{◌≡◌, ℕ, zero, suc, ◌+◌, ◌-◌, ◌≤◌, ◌<◌, Bool, true, false, List, ◌∷◌, ◌++◌, map, reverse, length, get_or, take, drop, refl, sym, ap, ◌∙◌, arith, add-one, length-append}
use Rattle.std.specs.Prelude.{Option, Some, None, if◌then◌else◌}
use Rattle.std.specs.Option.{option_map}
use Rattle.std.proofs.Math.Seq.{drop-cons, drop-append_seam}
use Rattle.std.proofs.lemmas.Grind.{common_steps}
use Rattle.std.proofs.lemmas.List.{get_or-reverse, get_or-map, take-append-drop, length-reverse, length-map, reverse-append, map-append}
use Rattle.gal_scoping.specs.Names.{Around, has_name, variable_of}

drop_front : {A : Type 0} (xs ys : List A) (n : ℕ) → n ≡ length xs → drop n (xs ++ ys) ≡ ys
drop_front xs ys n e = rw e (drop-append_seam xs ys)

front_names : {A B : Type 0} (f : A → B) (xs ys : List A) (n : ℕ) → n ≡ length xs →
    reverse (map f xs) ≡ drop (length (reverse (map f (xs ++ ys))) - n) (reverse (map f (xs ++ ys)))
front_names f xs ys n h =
    let e : reverse (map f (xs ++ ys)) ≡ reverse (map f ys) ++ reverse (map f xs) = ap reverse (map-append f xs ys) ∙ reverse-append (map f xs) (map f ys) in
    let k : length (reverse (map f ys) ++ reverse (map f xs)) - n ≡ length (reverse (map f ys)) =
    omega (arith, length-append (reverse (map f ys)) (reverse (map f xs)), length-reverse (map f xs), length-map xs f) in
    rw e (sym (drop_front (reverse (map f ys)) (reverse (map f xs)) _ k))

pub left_names : {A B : Type 0} (f : A → B) (xs : List A) (n : ℕ) → n ≤ length xs →
    reverse (map f (take n xs)) ≡ drop (length (reverse (map f xs)) - n) (reverse (map f xs))
left_names f xs n h =
    let k : n ≡ length (take n xs) = grind (arith, common_steps) in
    rw take-append-drop at (front_names f (take n xs) (drop n xs) n k)

pub name_at : {A B : Type 0} (f : A → B) (xs : List A) (place : ℕ) (d : A) → place < length xs →
    drop place (reverse (map f xs)) ≡ f (get_or xs (length xs - 1 - place) d) ∷ drop (place + 1) (reverse (map f xs))
name_at f xs place d h =
    let m = length-map xs f in
    let k : place < length (reverse (map f xs)) = omega (arith, length-reverse (map f xs), m) in
    let k' : place < length (map f xs) = omega (arith, m) in
    let k'' : length xs - 1 - place < length xs = omega arith in
    let e : get_or (reverse (map f xs)) place (f d) ≡ f (get_or xs (length xs - 1 - place) d) =
    get_or-reverse (map f xs) place (f d) k' ∙ ap (λ n. get_or (map f xs) (n - 1 - place) (f d)) m ∙ get_or-map f xs (length xs - 1 - place) d (f d) k'' in
    rw add-one (drop-cons (reverse (map f xs)) place (f d) k ∙ ap (λ y. y ∷ drop (suc place) (reverse (map f xs))) e)

-- a variable with so many binders passed
abbrev pub passed : ℕ → Option ℕ → Option ℕ
passed place found = option_map (λ n. n + place) found

pub passed_none : (found : Option ℕ) → passed 0 found ≡ found
passed_none None = refl
passed_none (Some n) = ap Some (omega arith)

passed_one : (place : ℕ) (found : Option ℕ) → passed place (option_map suc found) ≡ passed (place + 1) found
passed_one place None = refl
passed_one place (Some n) = ap Some (omega arith)

at_name : (place : ℕ) (b : Bool) (rest : Option ℕ) → b ≡ true → passed place (if b then Some zero else rest) ≡ Some place
at_name place b rest e = rw e (ap Some (omega arith))

not_at_name : (place : ℕ) (b : Bool) (rest : Option ℕ) → b ≡ false → passed place (if b then Some zero else option_map suc rest) ≡ passed (place + 1) rest
not_at_name place b rest e = rw e (passed_one place rest)

pub here_named : (binders rest : Around) (name : List ℕ) (place : ℕ) (b : Option (List ℕ)) → binders ≡ b ∷ rest → has_name name b ≡ true →
    passed place (variable_of binders name) ≡ Some place
here_named binders rest name place b is same = rw is (at_name place _ _ same)

pub not_here : (binders rest : Around) (name : List ℕ) (place : ℕ) (b : Option (List ℕ)) → binders ≡ b ∷ rest → has_name name b ≡ false →
    passed place (variable_of binders name) ≡ passed (place + 1) (variable_of rest name)
not_here binders rest name place b is other = rw is (not_at_name place _ _ other)
