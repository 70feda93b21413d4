-- Atoms that are added to others, each once.
use Rattle.std.proofs.Common.{◌≡◌, ◌≤◌, Bool, true, false, if◌then◌else◌, List, [], ◌∷◌, ◌++◌, length, refl, arith}
use Rattle.std.specs.List.{list_any}
use Rattle.std.proofs.lemmas.List.{length-append}
use Rattle.cic_names.specs.declared.level.Atom.{Atom}
use Rattle.cic_names.specs.Sameness.{same_atom}
use Rattle.cic_counted.specs.Inference.{add_atoms}

pub added_twice : (before xs ys : List Atom) → add_atoms (add_atoms before xs) ys ≡ add_atoms before (xs ++ ys)
added_twice before [] ys = refl
added_twice before (a ∷ xs) ys = added_twice (if list_any (same_atom a) before then before else before ++ a ∷ []) xs ys

one_kept : (test : Bool) (before : List Atom) (a : Atom) → length before ≤ length (if test then before else before ++ a ∷ [])
one_kept true before a = omega arith
one_kept false before a = rw (length-append before (a ∷ [])) (omega arith)

all_kept : (before xs : List Atom) → length before ≤ length (add_atoms before xs)
all_kept before [] = omega arith
all_kept before (a ∷ xs) =
    let h = one_kept (list_any (same_atom a) before) before a in
    let k = all_kept (if list_any (same_atom a) before then before else before ++ a ∷ []) xs in
    omega (arith, h, k)

first_kept : (a : Atom) (xs ys : List Atom) → 1 ≤ length (add_atoms (add_atoms (a ∷ []) xs) ys)
first_kept a xs ys =
    let h = all_kept (a ∷ []) xs in
    let k = all_kept (add_atoms (a ∷ []) xs) ys in
    omega (arith, h, k)

pub some_added : (xs ys : List Atom) → 1 ≤ length xs → 1 ≤ length (add_atoms (add_atoms [] xs) ys)
some_added [] ys h = absurd (omega arith)
some_added (a ∷ xs) ys h = first_kept a xs ys
