-- How many anonymous levels were counted.
use Rattle.std.specs.Prelude.{ℕ, ◌+◌, List, Option, Some, None, Bool, true, false}
use Rattle.std.specs.Map.{lookup}
use Rattle.cic_names.specs.Sameness.{same_name}
use Rattle.gal_scoping.specs.Levels.{Owner}
use Rattle.name_scope.specs.declared.counts.Count.{Count}

-- The count of an owner that may have none.
abbrev pub count_or_none : Option Count → Count
count_or_none None = record { visible = 0; proof = 0 }
count_or_none (Some c) = c

-- The levels of the opaque body, or the others.
abbrev pub part_count : (opaque : Bool) → Count → ℕ
part_count true c = c.proof
part_count false c = c.visible

abbrev pub with_more : (opaque : Bool) → (more : ℕ) → Count → Count
with_more true more c = record c { proof = c.proof + more }
with_more false more c = record c { visible = c.visible + more }

abbrev pub count_in : List (List ℕ × Count) → Owner → ℕ
count_in counts owner = part_count owner.opaque (count_or_none (lookup (same_name owner.name) counts))
