-- Tests of equality, which compute: names, ids, levels, atoms and constraints that are the same, part by part.
use Rattle.std.specs.Prelude.{ℕ, List, Bool, true, false, ◌&&◌, nat_eq}
use Rattle.std.specs.Cmp.Lexicographic.{pointwise}
use Rattle.std.proofs.Math.Bool.{beq}
use Rattle.cic_names.specs.declared.name.GlobalId.{GlobalId}
use Rattle.cic_names.specs.declared.level.Part.{Part}
use Rattle.cic_names.specs.declared.level.Part.TheVariants.{Declared, Visible, Proof}
use Rattle.cic_names.specs.declared.level.LevelName.{LevelName}
use Rattle.cic_names.specs.declared.level.Level.{Level}
use Rattle.cic_names.specs.declared.level.Level.TheVariants.{Set, Named}
use Rattle.cic_names.specs.declared.level.Atom.{Atom}
use Rattle.cic_names.specs.declared.constraint.Constraint.{Constraint}

-- The same bytes at the same places.
abbrev pub same_name : List ℕ → List ℕ → Bool
same_name = pointwise nat_eq

-- The same library and the same name in it.
abbrev pub same_id : GlobalId → GlobalId → Bool
same_id a b = same_name a.lib b.lib && same_name a.name b.name

abbrev pub same_part : Part → Part → Bool
same_part Declared Declared = true
same_part (Visible i) (Visible j) = nat_eq i j
same_part (Proof i) (Proof j) = nat_eq i j
same_part _ _ = false

abbrev pub same_level_name : LevelName → LevelName → Bool
same_level_name a b = same_name a.lib b.lib && (same_name a.owner b.owner && same_part a.part b.part)

abbrev pub same_level : Level → Level → Bool
same_level Set Set = true
same_level (Named a) (Named b) = same_level_name a b
same_level _ _ = false

abbrev pub same_atom : Atom → Atom → Bool
same_atom a b = same_level a.level b.level && beq a.plus b.plus

-- The same atoms at the same places.
abbrev pub same_atoms : List Atom → List Atom → Bool
same_atoms = pointwise same_atom

abbrev pub same_constraint : Constraint → Constraint → Bool
same_constraint a b = same_level a.left b.left && (beq a.strict b.strict && same_level a.right b.right)
