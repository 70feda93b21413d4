-- What a right environment shows is closed: each type that it shows has a sort, and each body its type, in the
-- empty context, so no lift changes them. This is what makes the rules, which lift what is looked up, agree with
-- the check, which does not.
use Rattle.std.proofs.Common.{◌≡◌, ℕ, [], Option, Some, refl}
use Rattle.cic_terms.specs.Tree.{Tree, sort}
use Rattle.cic_terms.specs.Lift.{lift_tree}
use Rattle.cic_names.specs.declared.name.GlobalId.{GlobalId}
use Rattle.cic_rules.specs.Numbering.{Numbering}
use Rattle.cic_rules.specs.Environment.{Environment, InductiveType, Constructor, Meaning, constant, meaning, constant_type, constant_type_in, transparent_body_in, inductive_type_of, constructor_of}
use Rattle.cic_rules.specs.Typing.{HasSort}
use Rattle.cic_metatheory.specs.StepsTo.{ClosedBodies}
use Rattle.cic_metatheory.specs.WellTypedLookups.{WellTypedLookups}
use Rattle.cic_metatheory.proofs.typings.Scopes.{closed_lifts}
use Rattle.cic_metatheory.proofs.basics.Options.{some_is_not_none}

sorted_is_closed : (E : Environment) (N : Numbering) (t : Tree) (from by : ℕ) → HasSort E N [] t → lift_tree from by t ≡ t
sorted_is_closed E N t from by h = closed_lifts E N t (sort h.its_sort) from by h.typed

body_has_type : (o : Option Meaning) (b : Tree) → transparent_body_in o ≡ Some b → (t : Tree) × (constant_type_in o ≡ Some t)
body_has_type (Some (constant type body)) b e = (type, refl)
body_has_type _ b e = some_is_not_none e

pub closed_bodies : (E : Environment) (N : Numbering) → WellTypedLookups E N → ClosedBodies E
closed_bodies E N r c b e n =
    let p = body_has_type (meaning E c) b e in
    closed_lifts E N b p.0 0 n (r.bodies c p.0 b p.1 e)

pub closed_constant_types : (E : Environment) (N : Numbering) (c : GlobalId) (t : Tree) (from by : ℕ) → WellTypedLookups E N → constant_type E c ≡ Some t → lift_tree from by t ≡ t
closed_constant_types E N c t from by r e = sorted_is_closed E N t from by (r.constants c t e)

pub closed_arities : (E : Environment) (N : Numbering) (c : GlobalId) (A : InductiveType) (from by : ℕ) → WellTypedLookups E N → inductive_type_of E c ≡ Some A → lift_tree from by A.arity ≡ A.arity
closed_arities E N c A from by r e = sorted_is_closed E N A.arity from by (r.arities c A e)

pub closed_constructor_types : (E : Environment) (N : Numbering) (c : GlobalId) (K : Constructor) (from by : ℕ) → WellTypedLookups E N → constructor_of E c ≡ Some K → lift_tree from by K.type ≡ K.type
closed_constructor_types E N c K from by r e = sorted_is_closed E N K.type from by (r.constructors c K e)
