-- Readings of the examples that hold names.
use Rattle.std.proofs.Common.{◌≡◌, ℕ, List, [], ◌∷◌, ◌++◌, refl, arith}
use Rattle.std.specs.Prelude.{codes}
use Rattle.cic_names.specs.declared.level.Part.TheVariants.{Visible}
use Rattle.seg_format.specs.declared.faults.Defect.TheVariants.{Name as NoName, Order}
use Rattle.term_format.specs.Storable.{IsName, IsConstraint}
use Rattle.term_format.specs.Reading.{value, wrong, read_number, number_of, read_name, read_level}
use Rattle.term_format.specs.ConstraintReading.{read_constraint, read_constraints}
use Rattle.term_format.specs.TermReading.{read_term}
use Rattle.term_format.specs.calls.Examples.{level_A, set_below, above_set, set_below_bytes, above_set_bytes, one_branch, one_branch_bytes}
use Rattle.term_format.proofs.NameLaws.{name_read, level_read}
use Rattle.term_format.proofs.ConstraintLaws.{constraint_read}
use Rattle.term_format.proofs.TermsRead.{term_read}
use Rattle.term_format.proofs.ExampleNames.{no_bytes, is_A, is_c, is_n, is_u, not_1a}

name_n : IsName (110 ∷ [])
name_n = (is_n, omega arith)

name_A : IsName (65 ∷ [])
name_A = (is_A, omega arith)

name_c : IsName (99 ∷ [])
name_c = (is_c, omega arith)

name_u : IsName (117 ∷ [])
name_u = (is_u, omega arith)

pub read_n : read_name (1 ∷ 110 ∷ 7 ∷ []) ≡ value (110 ∷ []) (7 ∷ [])
read_n = name_read (110 ∷ []) (7 ∷ []) name_n

pub read_nothing : read_name (0 ∷ 110 ∷ []) ≡ wrong NoName 2
unfolding read_name
read_nothing = rw no_bytes refl

pub read_1a : read_name (2 ∷ 49 ∷ 97 ∷ []) ≡ wrong NoName 3
unfolding read_name
read_1a = rw not_1a refl

pub read_c : read_level (2 ∷ 1 ∷ 65 ∷ 1 ∷ 99 ∷ 0 ∷ 0 ∷ 1 ∷ 2 ∷ []) ≡ value (level_A (codes "c") (Visible 258)) []
read_c = level_read (level_A (codes "c") (Visible 258)) [] (name_A, name_c, omega arith)

above_is : IsConstraint above_set
above_is = ((name_A, name_u, tt), tt)

below_is : IsConstraint set_below
below_is = (tt, (name_A, name_u, tt))

read_above : (rest : List ℕ) → read_constraint (above_set_bytes ++ rest) ≡ value above_set rest
read_above rest = constraint_read above_set rest above_is

read_below : (rest : List ℕ) → read_constraint (set_below_bytes ++ rest) ≡ value set_below rest
read_below rest = constraint_read set_below rest below_is

pub read_two : read_constraints ((0 ∷ 0 ∷ 0 ∷ 2 ∷ []) ++ set_below_bytes ++ above_set_bytes) ≡ value (set_below ∷ above_set ∷ []) []
unfolding read_constraints read_number number_of
read_two = rw (read_below above_set_bytes, read_above []) refl

pub read_falling : read_constraints ((0 ∷ 0 ∷ 0 ∷ 2 ∷ []) ++ above_set_bytes ++ set_below_bytes) ≡ wrong Order 7
unfolding read_constraints read_number number_of
read_falling = rw (read_above set_below_bytes, read_below []) refl

pub read_twice : read_constraints ((0 ∷ 0 ∷ 0 ∷ 2 ∷ []) ++ above_set_bytes ++ above_set_bytes) ≡ wrong Order 7
unfolding read_constraints read_number number_of
read_twice = rw (read_above above_set_bytes, read_above []) refl

pub read_branches_example : read_term 2 one_branch_bytes ≡ value one_branch []
read_branches_example = term_read one_branch 2 [] (omega arith) ((name_A, name_n), omega arith, tt, omega arith, omega arith, (omega arith, omega arith, tt))
