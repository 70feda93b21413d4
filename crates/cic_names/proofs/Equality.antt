-- The tests of equality decide equality: each is true exactly where the two are equal.
use Rattle.std.proofs.Common.{◌≡◌, ℕ, Bool, true, ◌&&◌, nat_eq, List, refl, sym, ap, subst, true≢false, eq-eqb}
use Rattle.std.specs.Cmp.{first_so, second_so, booleans_Decides}
use Rattle.std.specs.Cmp.Lexicographic.{bytes_decides, pointwise_decides}
use Rattle.std.specs.Bool.{Decides}
use Rattle.std.proofs.lemmas.Bool.{eqb-true}
use Rattle.cic_names.specs.Sameness.{same_name, same_id, same_part, same_level_name, same_level, same_atom, same_atoms, same_constraint}
use Rattle.cic_names.specs.declared.name.GlobalId.{GlobalId}
use Rattle.cic_names.specs.declared.level.Part.{Part}
use Rattle.cic_names.specs.declared.level.Part.TheVariants.{Declared, Visible, Proof}
use Rattle.cic_names.specs.declared.level.LevelName.{LevelName}
use Rattle.cic_names.specs.declared.level.Level.{Level}
use Rattle.cic_names.specs.declared.level.Level.TheVariants.{Set, Named}
use Rattle.cic_names.specs.declared.level.Atom.{Atom}
use Rattle.cic_names.specs.declared.level.Sort.{Sort}
use Rattle.cic_names.specs.declared.level.Sort.TheVariants as of
use Rattle.cic_names.specs.declared.constraint.Constraint.{Constraint}
use Rattle.cic_names.specs.Orders.{constraint_bytes}
use Rattle.cic_names.proofs.ByteStrings.{constraint_bytes_injective}
use Rattle.std.specs.Cmp.Lexicographic.{pointwise}
use Rattle.std.proofs.Math.Bool.{beq}
use Rattle.cic_names.specs.contracts.name.NamePartialEq.TheImpl as names
use Rattle.cic_names.specs.contracts.name.GlobalIdPartialEq.TheImpl as ids
use Rattle.cic_names.specs.contracts.level.PartPartialEq.TheImpl as parts
use Rattle.cic_names.specs.contracts.level.LevelNamePartialEq.TheImpl as level_names
use Rattle.cic_names.specs.contracts.level.LevelPartialEq.TheImpl as levels
use Rattle.cic_names.specs.contracts.level.AtomPartialEq.TheImpl as atoms
use Rattle.cic_names.specs.contracts.level.SortPartialEq.TheImpl as sorts
use Rattle.cic_names.specs.contracts.constraint.ConstraintPartialEq.TheImpl as constraints

and_decides : {s t : Bool} {P Q : Type 0} → Decides s P → Decides t Q → Decides (s && t) (P × Q)
and_decides {s} {t} p q = (λ h. (p.0 (first_so s t h), q.0 (second_so s t h)), λ h. rw (p.1 h.0, q.1 h.1) refl)

same_decides : {t : Bool} {P Q : Type 0} → (P → Q) → (Q → P) → Decides t P → Decides t Q
same_decides f g d = (λ h. f (d.0 h), λ h. d.1 (g h))

pub nat_eq_decides : (m n : ℕ) → Decides (nat_eq m n) (m ≡ n)
nat_eq_decides m n = (eqb-true m n, eq-eqb m n)

pub same_name_decides : (a b : List ℕ) → Decides (same_name a b) (a ≡ b)
same_name_decides = bytes_decides

pub same_id_decides : (a b : GlobalId) → Decides (same_id a b) (a ≡ b)
same_id_decides a b =
    same_decides (λ h i. record { lib = h.0 i; name = h.1 i }) (λ e. (ap (λ (z : GlobalId). z.lib) e, ap (λ (z : GlobalId). z.name) e))
    (and_decides (same_name_decides a.lib b.lib) (same_name_decides a.name b.name))

part_itself : (a : Part) → same_part a a ≡ true
part_itself Declared = refl
part_itself (Visible i) = (nat_eq_decides i i).1 refl
part_itself (Proof i) = (nat_eq_decides i i).1 refl

part_is : (a b : Part) → same_part a b ≡ true → a ≡ b
part_is Declared Declared h = refl
part_is (Visible i) (Visible j) h = ap Visible ((nat_eq_decides i j).0 h)
part_is (Proof i) (Proof j) h = ap Proof ((nat_eq_decides i j).0 h)
part_is _ _ h = absurd (true≢false (sym h))

pub same_part_decides : (a b : Part) → Decides (same_part a b) (a ≡ b)
same_part_decides a b = (part_is a b, λ e. subst (λ z. same_part a z ≡ true) e (part_itself a))

pub same_level_name_decides : (a b : LevelName) → Decides (same_level_name a b) (a ≡ b)
same_level_name_decides a b =
    same_decides (λ h i. record { lib = h.0 i; owner = h.1.0 i; part = h.1.1 i })
    (λ e. (ap (λ (z : LevelName). z.lib) e, (ap (λ (z : LevelName). z.owner) e, ap (λ (z : LevelName). z.part) e)))
    (and_decides (same_name_decides a.lib b.lib) (and_decides (same_name_decides a.owner b.owner) (same_part_decides a.part b.part)))

level_itself : (a : Level) → same_level a a ≡ true
level_itself Set = refl
level_itself (Named a) = (same_level_name_decides a a).1 refl

level_is : (a b : Level) → same_level a b ≡ true → a ≡ b
level_is Set Set h = refl
level_is (Named a) (Named b) h = ap Named ((same_level_name_decides a b).0 h)
level_is _ _ h = absurd (true≢false (sym h))

pub same_level_decides : (a b : Level) → Decides (same_level a b) (a ≡ b)
same_level_decides a b = (level_is a b, λ e. subst (λ z. same_level a z ≡ true) e (level_itself a))

pub same_atom_decides : (a b : Atom) → Decides (same_atom a b) (a ≡ b)
same_atom_decides a b =
    same_decides (λ h i. record { level = h.0 i; plus = h.1 i }) (λ e. (ap (λ (z : Atom). z.level) e, ap (λ (z : Atom). z.plus) e))
    (and_decides (same_level_decides a.level b.level) (booleans_Decides a.plus b.plus))

pub same_atoms_decides : (a b : List Atom) → Decides (same_atoms a b) (a ≡ b)
same_atoms_decides = pointwise_decides same_atom_decides

pub same_constraint_decides : (a b : Constraint) → Decides (same_constraint a b) (a ≡ b)
same_constraint_decides a b =
    same_decides (λ h i. record { left = h.0 i; strict = h.1.0 i; right = h.1.1 i })
    (λ e. (ap (λ (z : Constraint). z.left) e, (ap (λ (z : Constraint). z.strict) e, ap (λ (z : Constraint). z.right) e)))
    (and_decides (same_level_decides a.left b.left) (and_decides (booleans_Decides a.strict b.strict) (same_level_decides a.right b.right)))

-- `==` on each type is its test.
pub name_equal : (a b : List ℕ) → names.eq-value.it a b ≡ same_name a b
name_equal a b = refl

pub id_equal : (a b : GlobalId) → ids.eq-value.it a b ≡ same_id a b
id_equal a b = refl

pub part_equal : (a b : Part) → parts.eq-value.it a b ≡ same_part a b
part_equal Declared Declared = refl
part_equal (Visible i) (Visible j) = refl
part_equal (Proof i) (Proof j) = refl
part_equal Declared (Visible j) = refl
part_equal Declared (Proof j) = refl
part_equal (Visible i) Declared = refl
part_equal (Visible i) (Proof j) = refl
part_equal (Proof i) Declared = refl
part_equal (Proof i) (Visible j) = refl

pub level_name_equal : (a b : LevelName) → level_names.eq-value.it a b ≡ same_level_name a b
level_name_equal a b = ap (λ t. same_name a.lib b.lib && (same_name a.owner b.owner && t)) (part_equal a.part b.part)

pub level_equal : (a b : Level) → levels.eq-value.it a b ≡ same_level a b
level_equal Set Set = refl
level_equal (Named a) (Named b) = level_name_equal a b
level_equal Set (Named b) = refl
level_equal (Named a) Set = refl

pub atom_equal : (a b : Atom) → atoms.eq-value.it a b ≡ same_atom a b
atom_equal a b = ap (λ t. t && beq a.plus b.plus) (level_equal a.level b.level)

-- So it is true exactly where the two are equal.
pub id_equal_decides : (a b : GlobalId) → Decides (ids.eq-value.it a b) (a ≡ b)
id_equal_decides = same_id_decides

pub level_name_equal_decides : (a b : LevelName) → Decides (level_names.eq-value.it a b) (a ≡ b)
level_name_equal_decides a b = rw (level_name_equal a b) (same_level_name_decides a b)

pub level_equal_decides : (a b : Level) → Decides (levels.eq-value.it a b) (a ≡ b)
level_equal_decides a b = rw (level_equal a b) (same_level_decides a b)

pub atom_equal_decides : (a b : Atom) → Decides (atoms.eq-value.it a b) (a ≡ b)
atom_equal_decides a b = rw (atom_equal a b) (same_atom_decides a b)

pub expression_equal_decides : (a b : List Atom) → Decides (pointwise atoms.eq-value.it a b) (a ≡ b)
expression_equal_decides = pointwise_decides atom_equal_decides

sort_is : (a b : Sort) → sorts.eq-value.it a b ≡ true → a ≡ b
sort_is of.Prop of.Prop h = refl
sort_is of.Set of.Set h = refl
sort_is (of.Typ a) (of.Typ b) h = ap of.Typ ((expression_equal_decides a b).0 h)
sort_is of.Prop of.Set h = absurd (true≢false (sym h))
sort_is of.Prop (of.Typ b) h = absurd (true≢false (sym h))
sort_is of.Set of.Prop h = absurd (true≢false (sym h))
sort_is of.Set (of.Typ b) h = absurd (true≢false (sym h))
sort_is (of.Typ a) of.Prop h = absurd (true≢false (sym h))
sort_is (of.Typ a) of.Set h = absurd (true≢false (sym h))

sort_itself : (a : Sort) → sorts.eq-value.it a a ≡ true
sort_itself of.Prop = refl
sort_itself of.Set = refl
sort_itself (of.Typ a) = (expression_equal_decides a a).1 refl

pub sort_equal_decides : (a b : Sort) → Decides (sorts.eq-value.it a b) (a ≡ b)
sort_equal_decides a b = (sort_is a b, λ e. subst (λ z. sorts.eq-value.it a z ≡ true) e (sort_itself a))

pub constraint_equal_decides : (a b : Constraint) → Decides (constraints.eq-value.it a b) (a ≡ b)
constraint_equal_decides a b =
    same_decides (constraint_bytes_injective a b) (λ e. ap constraint_bytes e) (bytes_decides (constraint_bytes a) (constraint_bytes b))
