-- The place is all that was put in.
use Rattle.std.proofs.Common.{inl, inr, subst}
use Rattle.std.specs.Prelude.{Contains}
use Rattle.univ_graph.proofs.PlanLaws.{nothing_has}
use Rattle.univ_graph.proofs.plan.one_place.Goals as goal

pub returns-clause-only : goal.returns-clause-only
returns-clause-only c = λ q has. elim (c.in_ok-insert.ensures.only q has) [
  | inl old ↦ absurd (nothing_has q (subst (λ z. Contains z q) c.new-places.ensures old))
  | inr new ↦ new
]
