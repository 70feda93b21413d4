-- The type of a constructor that has the shape, in one equation, and its parts where the number of parameters is
-- given. The laws of matches and the check of a block read constructors by these.
use Rattle.std.proofs.Common.{◌≡◌, ℕ, List, ◌++◌, length, ap₂, ◌∙◌}
use Rattle.cic_terms.specs.Tree.{Tree, ind}
use Rattle.cic_names.specs.declared.name.GlobalId.{GlobalId}
use Rattle.cic_rules.specs.Telescopes.{apply, products, variables, lift_all}
use Rattle.cic_rules.specs.Inductive.{ConstructorParts, ConstructorShape}

pub shape_is_type : {domains : List Tree} {id : GlobalId} {n : ℕ} {type : Tree} (h : ConstructorShape domains id n type) →
    type ≡ products domains (products h.parts.arguments (apply (ind id) (lift_all (length h.parts.arguments) (variables (length domains)) ++ h.indices)))
shape_is_type {id = id} h =
    h.parts.is_type ∙ ap₂ (λ ps us. products ps (products h.parts.arguments (apply (ind id) us))) h.same_parameters h.is_applied

abbrev pub with_parameters : {n r : ℕ} {id : GlobalId} {type : Tree} → ConstructorParts n id type → n ≡ r → ConstructorParts r id type
with_parameters p e = record {
  parameters = p.parameters;
  arguments = p.arguments;
  applied_to = p.applied_to;
  is_type = p.is_type;
  as_many = p.as_many ∙ e;
}
