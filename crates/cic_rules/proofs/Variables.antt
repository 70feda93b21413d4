-- Steps and types of variables, matches on constructors, and the sorts of a type.
use Rattle.std.proofs.Common.{◌≡◌, Some, List, [], ◌∷◌, refl, sym, ap}
use Rattle.cic_terms.specs.Tree.{prop, set, typ, own, many, Tree, rel, no_child, child, sort, app, ctor, case}
use Rattle.cic_terms.specs.Lift.{lift_tree, subst_tree}
use Rattle.cic_names.specs.declared.name.GlobalId.{GlobalId}
use Rattle.cic_names.specs.declared.level.Atom.{Atom}
use Rattle.cic_rules.specs.Numbering.{Numbering, expression_number}
use Rattle.cic_rules.specs.Environment.{Environment, Context, Constructor, constructor_of, assumed, defined}
use Rattle.cic_rules.specs.Telescopes.{branch_at}
use Rattle.cic_rules.specs.Step.{Step, delta_variable, iota_match}
use Rattle.cic_rules.specs.Conversion.{proposition, set_at_most_universe}
use Rattle.cic_rules.specs.Conversion as C
use Rattle.cic_rules.specs.Typing.{Typed, of_set, of_universe, sorts, variable, conversion}

pub type_of_variable : (E : Environment) (N : Numbering) (G : Context) (a b : Tree) → Typed E N (assumed b ∷ assumed a ∷ G) (rel 1) (lift_tree 0 2 a)
type_of_variable E N G a b = variable refl refl

pub body_of_variable : (E : Environment) (G : Context) (a b t : Tree) → Step E (assumed b ∷ defined t a ∷ G) (rel 1) (lift_tree 0 2 t)
body_of_variable E G a b t = delta_variable refl refl

pub second_branch : (E : Environment) (G : Context) (id c : GlobalId) (K : Constructor) (p u t t' : Tree) → constructor_of E c ≡ Some K → K.owner ≡ id → K.place ≡ 1 → K.parameters ≡ 0 →
    Step E G (case id 0 p (app (ctor c) u) (child (many 0) t (child (many 1) t' no_child))) (subst_tree 0 u t')
second_branch E G id c K p u t t' stands owner place none =
    iota_match c [] (u ∷ []) refl stands owner (sym none)
    (ap (branch_at (child (many 0) t (child (many 1) t' no_child))) place) refl

pub propositions_are_in_set : (E : Environment) (N : Numbering) (G : Context) (t : Tree) → Typed E N G t (sort prop) → Typed E N G t (sort set)
propositions_are_in_set E N G t h = conversion h (sorts {s' = own 0} (of_set refl)) (C.sorts proposition)

pub sets_are_in_every_universe : (E : Environment) (N : Numbering) (G : Context) (t : Tree) (e : List Atom) → Typed E N G t (sort set) → Typed E N G t (sort (typ e))
sets_are_in_every_universe E N G t e h = conversion h (sorts {s' = own (expression_number N e)} (of_universe refl refl)) (C.sorts (set_at_most_universe refl))
