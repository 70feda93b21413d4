-- A type at one level.
use Rattle.std.proofs.Common.{◌≡◌, List, [], ◌∷◌, length, get_or, refl}
use Rattle.cic_names.specs.declared.level.Atom.{Atom}
use Rattle.cic_names.specs.Orders.{level_bytes}
use Rattle.cic_terms.specs.Tree.{typ}
use Rattle.term_format.specs.Spelling.{sort_bytes}
use Rattle.term_format.specs.Storable.{IsSort}

pub only_one : (atoms : List Atom) → IsSort (typ atoms) → length atoms ≡ 1
only_one [] h = absurd h
only_one (a ∷ []) h = refl
only_one (a ∷ (b ∷ atoms)) h = absurd h

pub one_atom : (atoms : List Atom) (d : Atom) → IsSort (typ atoms) → sort_bytes (typ atoms) ≡ 3 ∷ level_bytes (get_or atoms 0 d).level
one_atom [] d h = absurd h
one_atom (a ∷ []) d h = refl
one_atom (a ∷ (b ∷ atoms)) d h = absurd h
