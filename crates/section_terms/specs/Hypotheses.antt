-- The hypotheses of a section (Coq Reference Manual, "Section mechanism"): `Variable`, `Hypothesis` and `Let`.
use Rattle.std.specs.Prelude.{Option, List, map, is_none, filter}
use Rattle.cic_names.specs.declared.name.GlobalId.{GlobalId}
use Rattle.cic_terms.specs.Tree.{Tree}

-- A hypothesis: a variable with its type, or a let, which has a body too. A tree speaks of it as of a constant.
pub record Hypothesis : Type 0 where
  pub id : GlobalId
  pub type : Tree
  pub body : Option Tree

-- The variables among hypotheses.
abbrev pub without_lets : List Hypothesis → List Hypothesis
without_lets = filter (λ h. is_none h.body)

abbrev pub ids_of : List Hypothesis → List GlobalId
ids_of = map (λ h. h.id)
