-- A clone is equal to what it was made from.
use Rattle.std.proofs.Common.{◌≡◌, refl, ap}
use Rattle.cic_names.specs.declared.name.GlobalId.{GlobalId}
use Rattle.cic_names.specs.declared.level.LevelName.{LevelName}
use Rattle.cic_names.specs.declared.level.Level.{Level}
use Rattle.cic_names.specs.declared.level.Level.TheVariants.{Set, Named}
use Rattle.cic_names.specs.declared.level.Atom.{Atom}
use Rattle.cic_names.specs.declared.level.Sort.{Sort}
use Rattle.cic_names.specs.declared.level.Sort.TheVariants as of
use Rattle.cic_names.specs.declared.constraint.Constraint.{Constraint}
use Rattle.cic_names.specs.contracts.name.GlobalIdClone.TheImpl as ids
use Rattle.cic_names.specs.contracts.level.LevelNameClone.TheImpl as level_names
use Rattle.cic_names.specs.contracts.level.LevelClone.TheImpl as levels
use Rattle.cic_names.specs.contracts.level.AtomClone.TheImpl as atoms
use Rattle.cic_names.specs.contracts.level.SortClone.TheImpl as sorts
use Rattle.cic_names.specs.contracts.constraint.ConstraintClone.TheImpl as constraints

pub id_clone_is : (a b : GlobalId) → ids.is_clone-value.it a b → b ≡ a
id_clone_is a b h = λ i. record { lib = h.0 i; name = h.1 i }

pub level_name_clone_is : (a b : LevelName) → level_names.is_clone-value.it a b → b ≡ a
level_name_clone_is a b h = λ i. record { lib = h.0 i; owner = h.1.0 i; part = h.1.1 i }

pub level_clone_is : (a b : Level) → levels.is_clone-value.it a b → b ≡ a
level_clone_is Set Set h = refl
level_clone_is (Named a) (Named b) h = ap Named (level_name_clone_is a b h)
level_clone_is Set (Named b) h = absurd h
level_clone_is (Named a) Set h = absurd h

pub atom_clone_is : (a b : Atom) → atoms.is_clone-value.it a b → b ≡ a
atom_clone_is a b h = let e = level_clone_is a.level b.level h.0 in λ i. record { level = e i; plus = h.1 i }

pub sort_clone_is : (a b : Sort) → sorts.is_clone-value.it a b → b ≡ a
sort_clone_is of.Prop of.Prop h = refl
sort_clone_is of.Set of.Set h = refl
sort_clone_is (of.Typ a) (of.Typ b) h = ap of.Typ h
sort_clone_is of.Prop of.Set h = absurd h
sort_clone_is of.Prop (of.Typ b) h = absurd h
sort_clone_is of.Set of.Prop h = absurd h
sort_clone_is of.Set (of.Typ b) h = absurd h
sort_clone_is (of.Typ a) of.Prop h = absurd h
sort_clone_is (of.Typ a) of.Set h = absurd h

pub constraint_clone_is : (a b : Constraint) → constraints.is_clone-value.it a b → b ≡ a
constraint_clone_is a b h =
    let left = level_clone_is a.left b.left h.0 in let right = level_clone_is a.right b.right h.1.1 in
    λ i. record { left = left i; strict = h.1.0 i; right = right i }
