-- How ids, levels and constraints are printed.
use Rattle.std.specs.Prelude.{ℕ, List, [], ◌++◌, Bool, true, false, codes, decimal}
use Rattle.cic_names.specs.declared.name.GlobalId.{GlobalId}
use Rattle.cic_names.specs.declared.level.Part.{Part}
use Rattle.cic_names.specs.declared.level.Part.TheVariants.{Declared, Visible, Proof}
use Rattle.cic_names.specs.declared.level.LevelName.{LevelName}
use Rattle.cic_names.specs.declared.level.Level.{Level}
use Rattle.cic_names.specs.declared.level.Level.TheVariants.{Set, Named}
use Rattle.cic_names.specs.declared.constraint.Constraint.{Constraint}

-- An id: its library, a dot, and its name. Coq Reference Manual, "Qualified identifiers".
abbrev pub id_text : GlobalId → List ℕ
id_text id = id.lib ++ codes "." ++ id.name

-- What follows the owner of a level: nothing for a declared one; for an anonymous one a dot, `v` where it is
-- visible and `p` where it is of a proof, and its number.
abbrev pub part_text : Part → List ℕ
part_text Declared = []
part_text (Visible n) = codes ".v" ++ decimal n
part_text (Proof n) = codes ".p" ++ decimal n

-- A named level: its library, a dot, its owner, and its part. `A.u` is a declared level of A, and `A.c.v0`
-- the first visible anonymous one of A's declaration c.
abbrev pub level_name_text : LevelName → List ℕ
level_name_text l = l.lib ++ codes "." ++ l.owner ++ part_text l.part

abbrev pub level_text : Level → List ℕ
level_text Set = codes "Set"
level_text (Named l) = level_name_text l

-- Below, or at most. Coq Reference Manual, "Polymorphic Universes", universe constraints.
abbrev pub relation_text : (strict : Bool) → List ℕ
relation_text true = codes " < "
relation_text false = codes " <= "

-- A constraint: the left level, how it stands to the right one, and the right one.
abbrev pub constraint_text : Constraint → List ℕ
constraint_text c = level_text c.left ++ relation_text c.strict ++ level_text c.right
