-- The test of nested positivity looks up the ids of its terms alone, and those of the constructors that it comes to:
-- where two environments agree there, it has the same answer over both. The check of a block over two environments
-- rests on it.
use Rattle.std.proofs.Common.{◌≡◌, ℕ, zero, suc, ◌+◌, Bool, false, not, ◌&&◌, ◌||◌, if◌then◌else◌, Option, Some, None, List, [], ◌∷◌, length, take, drop, refl, ap, ap₂, ◌∙◌}
use Rattle.std.specs.Prelude.{option_map}
use Rattle.std.specs.List.{list_any}
use Rattle.cic_terms.specs.Tree.{Tree, prod, ind}
use Rattle.cic_names.specs.declared.name.GlobalId.{GlobalId}
use Rattle.cic_rules.specs.Environment.{Environment, TypeInBlock, Block, TypeDeclaration, ConstructorDeclaration, bare_ids, whole_block, whole_block_in, element, or_else, meaning}
use Rattle.cic_rules.specs.Telescopes.{is_among, head_of, domains_of, conclusion_of}
use Rattle.cic_rules.specs.Inductive.{Each}
use Rattle.cic_rules.specs.Nested.{Instance, instance_of, lift_instances}
use Rattle.cic_counted.specs.Readings.{arguments_of, instantiate}
use Rattle.cic_counted.specs.Outcome.{next_number, is_small}
use Rattle.cic_counted.specs.BlockTests.{is_shaped, occurs, occurs_in_any, is_applied_among, PositivityFault, argument_fault, conclusion_fault, constructor_positivity_fault, type_positivity_fault}
use Rattle.cic_counted.specs.NestedTest.{same_instance, are_small_instances, is_arity_length, is_instance, is_nested, is_positive_step, is_conclusion, are_positive_arguments, are_positive_constructors, are_positive_types, is_positive_at, is_nested_positive, nested_fault}
use Rattle.cic_soundness.proofs.independence.Terms.{TreeIn, TreesIn, naming}
use Rattle.cic_soundness.proofs.independence.Calls.{MeaningIn, ConstructorIn, TypeIn, block_in}
use Rattle.cic_soundness.proofs.independence.Formers.{domains_in, head_in, arguments_in, instantiate_in}
use Rattle.cic_metatheory.proofs.basics.Elements.{IfThere, each_taken, each_dropped}

-- The faults of two tests that agree
module _ (S : GlobalId → Type 0) (test test' : Tree → Bool) (agree : (t : Tree) → TreeIn S t → test t ≡ test' t) (ids : List GlobalId) (r : ℕ) where
  argument_same : (k : ℕ) (as_ : List Tree) → TreesIn S as_ → argument_fault test k as_ ≡ argument_fault test' k as_
  argument_same k [] h = refl
  argument_same k (a ∷ as_) h =
      ap₂ (λ (b : Bool) (rest : Option ℕ). if b then rest else Some k) (agree a h.0) (argument_same (next_number k) as_ h.1)

  constructors_same : (index place : ℕ) (cs : List ConstructorDeclaration) → Each (λ c. TreeIn S c.type) cs → constructor_positivity_fault test ids r index place cs ≡ constructor_positivity_fault test' ids r index place cs
  constructors_same index place [] h = refl
  constructors_same index place (c ∷ cs) h =
      ap₂ (λ (o : Option ℕ) (o' : Option PositivityFault).
      or_else (option_map (λ argument. record { index = index; place = place; argument = argument }) (or_else o (conclusion_fault ids r (conclusion_of c.type)))) o')
      (argument_same 1 (drop r (domains_of c.type)) (each_dropped (TreeIn S) r (domains_of c.type) (domains_in (naming S) c.type h.0)))
      (constructors_same index (place + 1) cs h.1)

  types_fault_same : (index : ℕ) (ts : List TypeDeclaration) → Each (λ t. Each (λ c. TreeIn S c.type) t.constructors) ts → type_positivity_fault test ids r index ts ≡ type_positivity_fault test' ids r index ts
  types_fault_same index [] h = refl
  types_fault_same index (t ∷ ts) h =
      ap₂ (λ (o o' : Option PositivityFault). or_else o o') (constructors_same index 0 t.constructors h.0) (types_fault_same (index + 1) ts h.1)

module _ (S : GlobalId → Type 0) (E E' : Environment) (e : (id : GlobalId) → S id → meaning E id ≡ meaning E' id) (saturated : (id : GlobalId) → S id → IfThere (MeaningIn S) (meaning E id)) (ids : List GlobalId) where
  module _ (new new' : List Instance → List Tree → List TypeDeclaration → Bool)
      (agree : (L : List Instance) (ps : List Tree) (ts : List TypeDeclaration) → TreesIn S ps → Each (TypeIn S) ts → new L ps ts ≡ new' L ps ts) where
    instance_same : (L : List Instance) (us : List Tree) (o : Option TypeInBlock) → TreesIn S us → IfThere (λ p. Each (TypeIn S) p.block.types) o → is_instance E ids new L us o ≡ is_instance E' ids new' L us o
    instance_same L us None h k = refl
    instance_same L us (Some J) h k =
        ap (λ b. is_shaped J.block && is_arity_length (length us) (element J.block.types J.index) && not (occurs_in_any ids (drop J.block.parameters us))
        && (list_any (same_instance (instance_of J.block (take J.block.parameters us))) L || b))
        (agree (instance_of J.block (take J.block.parameters us) ∷ L) (take J.block.parameters us) J.block.types (each_taken (TreeIn S) J.block.parameters us h) k)

    nested_same : (L : List Instance) (head : Tree) (us : List Tree) → TreeIn S head → TreesIn S us → is_nested E ids new L head us ≡ is_nested E' ids new' L head us
    nested_same L (ind id) us h k =
        ap (λ b. not (is_among id ids) && b)
        (instance_same L us (whole_block E id) k (block_in S (meaning E id) (saturated id h.0))
        ∙ ap (λ m. is_instance E' ids new' L us (whole_block_in m)) (e id h.0))
    nested_same L head us h k = refl

    step_same : (L : List Instance) (t : Tree) → TreeIn S t → is_positive_step E ids new L t ≡ is_positive_step E' ids new' L t
    step_same L (prod a b) h =
        ap (λ z. not (occurs ids (prod a b)) || (not (occurs ids a) && are_small_instances (lift_instances L) && z)) (step_same (lift_instances L) b h.1.1.0)
    step_same L t h = other L t h
      where
        other : (L : List Instance) (t : Tree) → TreeIn S t →
            (not (occurs ids t) || is_applied_among ids t || is_nested E ids new L (head_of t) (arguments_of t)) ≡ (not (occurs ids t) || is_applied_among ids t || is_nested E' ids new' L (head_of t) (arguments_of t))
        other L t h =
            ap (λ z. not (occurs ids t) || is_applied_among ids t || z) (nested_same L (head_of t) (arguments_of t) (head_in (naming S) t h) (arguments_in (naming S) t h))

  module _ (positive positive' : List Instance → Tree → Bool) (agree : (L : List Instance) (t : Tree) → TreeIn S t → positive L t ≡ positive' L t) where
    arguments_same : (L : List Instance) (r : ℕ) (t : Tree) → TreeIn S t → are_positive_arguments E ids positive L r t ≡ are_positive_arguments E' ids positive' L r t
    arguments_same L r (prod a b) h =
        ap₂ (λ x y. is_small a && x && are_small_instances (lift_instances L) && y) (agree L a h.1.0) (arguments_same (lift_instances L) r b h.1.1.0)
    arguments_same L r t h = ended L r t
      where
        last : (r : ℕ) (head : Tree) (us : List Tree) → is_conclusion E ids r head us ≡ is_conclusion E' ids r head us
        last r (ind id) us = refl
        last r head us = refl

        ended : (L : List Instance) (r : ℕ) (t : Tree) → is_conclusion E ids r (head_of t) (arguments_of t) ≡ is_conclusion E' ids r (head_of t) (arguments_of t)
        ended L r t = last r (head_of t) (arguments_of t)

    constructors_with : (L : List Instance) (ps : List Tree) (cs : List ConstructorDeclaration) → TreesIn S ps → Each (ConstructorIn S) cs → are_positive_constructors E ids positive L ps cs ≡ are_positive_constructors E' ids positive' L ps cs
    constructors_with L ps [] h k = refl
    constructors_with L ps (c ∷ cs) h k =
        ap₂ (λ x y. x && y) (arguments_same L (length ps) (instantiate ps c.type) (instantiate_in (naming S) ps c.type h k.0.1)) (constructors_with L ps cs h k.1)

    types_with : (L : List Instance) (ps : List Tree) (ts : List TypeDeclaration) → TreesIn S ps → Each (TypeIn S) ts → are_positive_types E ids positive L ps ts ≡ are_positive_types E' ids positive' L ps ts
    types_with L ps [] h k = refl
    types_with L ps (t ∷ ts) h k = ap₂ (λ x y. x && y) (constructors_with L ps t.constructors h k.0.2) (types_with L ps ts h k.1)

  at_same : (left : ℕ) (L : List Instance) (t : Tree) → TreeIn S t → is_positive_at E ids left L t ≡ is_positive_at E' ids left L t
  at_same zero = step_same (λ L ps ts. false) (λ L ps ts. false) (λ L ps ts h k. refl)
  at_same (suc left) =
      step_same (are_positive_types E ids (is_positive_at E ids left)) (are_positive_types E' ids (is_positive_at E' ids left))
      (types_with (is_positive_at E ids left) (is_positive_at E' ids left) (at_same left))

pub nested_fault_same : (S : GlobalId → Type 0) (E E' : Environment) → ((id : GlobalId) → S id → meaning E id ≡ meaning E' id) → ((id : GlobalId) → S id → IfThere (MeaningIn S) (meaning E id)) →
    (block : Block) → Each (λ t. Each (λ c. TreeIn S c.type) t.constructors) block.types → nested_fault E block ≡ nested_fault E' block
nested_fault_same S E E' e saturated block h =
    let ids = bare_ids block.types in
    types_fault_same S (is_nested_positive E ids) (is_nested_positive E' ids) (at_same S E E' e saturated ids 64 []) ids block.parameters 0 block.types h
