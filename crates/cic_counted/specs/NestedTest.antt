-- The test of the positivity of a block whose types may stand among the parameters of other blocks.
use Rattle.std.specs.Prelude.{ℕ, zero, suc, Bool, true, false, not, ◌&&◌, ◌||◌, nat_eq, Option, Some, None, List, [], ◌∷◌, length, take, drop}
use Rattle.std.specs.List.{list_any, list_all}
use Rattle.cic_terms.specs.Tree.{Tree, prod, ind}
use Rattle.cic_names.specs.declared.name.GlobalId.{GlobalId}
use Rattle.std.specs.Cmp.Lexicographic.{pointwise}
use Rattle.cic_names.specs.Sameness.{same_id}
use Rattle.cic_rules.specs.Environment.{Environment, TypeInBlock, Block, TypeDeclaration, ConstructorDeclaration, whole_block, element, bare_ids}
use Rattle.cic_rules.specs.Telescopes.{is_among, head_of, domains_of}
use Rattle.cic_rules.specs.Nested.{Instance, instance_of, lift_instances}
use Rattle.cic_counted.specs.Readings.{arguments_of, instantiate}
use Rattle.cic_counted.specs.Outcome.{is_small}
use Rattle.cic_counted.specs.BlockTests.{same_trees, is_shaped, occurs, occurs_in_any, is_applied_among, PositivityFault, type_positivity_fault}

abbrev pub same_instance : Instance → Instance → Bool
same_instance i j = pointwise same_id i.types j.types && same_trees i.parameters j.parameters

abbrev pub are_small : List Tree → Bool
are_small = list_all is_small

abbrev pub are_small_instances : List Instance → Bool
are_small_instances = list_all (λ i. are_small i.parameters)

-- As many terms as the arity of a type, as written, has products.
abbrev pub is_arity_length : ℕ → Option TypeDeclaration → Bool
is_arity_length n None = false
is_arity_length n (Some t) = nat_eq n (length (domains_of t.arity))

module _ (E : Environment) (ids : List GlobalId) where
  -- A type of another block applied to terms: one that has the shape, at terms as its arity wants them, with
  -- indices without `ids`, at an instance of the list, or else at a new one.
  abbrev pub is_instance : (new : List Instance → (parameters : List Tree) → List TypeDeclaration → Bool) → List Instance → List Tree → Option TypeInBlock → Bool
  is_instance new L us None = false
  is_instance new L us (Some J) =
      is_shaped J.block
      && is_arity_length (length us) (element J.block.types J.index)
      && not (occurs_in_any ids (drop J.block.parameters us))
      && (list_any (same_instance (instance_of J.block (take J.block.parameters us))) L
      || new (instance_of J.block (take J.block.parameters us) ∷ L) (take J.block.parameters us) J.block.types)

  abbrev pub is_nested : (new : List Instance → (parameters : List Tree) → List TypeDeclaration → Bool) → List Instance → (head : Tree) → List Tree → Bool
  is_nested new L (ind id) us = not (is_among id ids) && is_instance new L us (whole_block E id)
  is_nested new L t us = false

  -- Whether `ids` are strictly positive in a term as written.
  abbrev pub is_positive_step : (new : List Instance → (parameters : List Tree) → List TypeDeclaration → Bool) → List Instance → Tree → Bool
  is_positive_step new L (prod a b) =
      not (occurs ids (prod a b))
      || (not (occurs ids a) && are_small_instances (lift_instances L) && is_positive_step new (lift_instances L) b)
  is_positive_step new L t =
      not (occurs ids t) || is_applied_among ids t || is_nested new L (head_of t) (arguments_of t)

  -- Whether they are so in each argument of a constructor's type with the parameters put in, and occur in
  -- no index of its conclusion.
  abbrev pub is_conclusion : (r : ℕ) → (head : Tree) → List Tree → Bool
  is_conclusion r (ind id) us = are_small (drop r us) && not (occurs_in_any ids (drop r us))
  is_conclusion r t us = false

  abbrev pub are_positive_arguments : (positive : List Instance → Tree → Bool) → List Instance → (r : ℕ) → Tree → Bool
  are_positive_arguments positive L r (prod a b) =
      is_small a && positive L a && are_small_instances (lift_instances L) && are_positive_arguments positive (lift_instances L) r b
  are_positive_arguments positive L r t = is_conclusion r (head_of t) (arguments_of t)

  abbrev pub are_positive_constructors : (positive : List Instance → Tree → Bool) → List Instance → (parameters : List Tree) → List ConstructorDeclaration → Bool
  are_positive_constructors positive L parameters [] = true
  are_positive_constructors positive L parameters (c ∷ cs) =
      are_positive_arguments positive L (length parameters) (instantiate parameters c.type)
      && are_positive_constructors positive L parameters cs

  abbrev pub are_positive_types : (positive : List Instance → Tree → Bool) → List Instance → (parameters : List Tree) → List TypeDeclaration → Bool
  are_positive_types positive L parameters [] = true
  are_positive_types positive L parameters (t ∷ ts) =
      are_positive_constructors positive L parameters t.constructors && are_positive_types positive L parameters ts

  -- With so many instances left to be added.
  abbrev pub is_positive_at : (left : ℕ) → List Instance → Tree → Bool
  is_positive_at zero = is_positive_step (λ L parameters ts. false)
  is_positive_at (suc left) = is_positive_step (are_positive_types (is_positive_at left))

  abbrev pub is_nested_positive : Tree → Bool
  is_nested_positive = is_positive_at 64 []

-- The first constructor of a block that is not strictly positive.
abbrev pub nested_fault : Environment → Block → Option PositivityFault
nested_fault E block =
    type_positivity_fault (is_nested_positive E (bare_ids block.types)) (bare_ids block.types) block.parameters 0 block.types
