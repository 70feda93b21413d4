-- The steps of the cycle are steps of the walk.
use Rattle.std.proofs.Common.{subst}
use Rattle.univ_graph.specs.Kept.{AreStepsAmong}
use Rattle.univ_cycles.specs.calls.Walks.{IsPartOf}
use Rattle.univ_graph.proofs.WalkingBack.{if_ok_here, steps_of_part}
use Rattle.univ_graph.proofs.settle.conflict_of.Goals as goal

pub returns-in-Ok-of_walk : goal.returns-in-Ok-of_walk
returns-in-Ok-of_walk c = λ all h.
    let steps : AreStepsAmong all c.in-Ok.walk.items = if_ok_here (λ w. AreStepsAmong all w.items) c.args.walk c.in-Ok.walk c.in-Ok.is h in
    (c.in-Ok-of_walk.ensures.cycle, steps_of_part all c.in-Ok.walk.items c.in-Ok-of_walk.cycle (subst (λ z. IsPartOf c.in-Ok-of_walk.cycle z) c.deref.ensures.value c.in-Ok-of_walk.ensures.part) steps)
