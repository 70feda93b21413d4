-- By the law on lists that begin at another of their places.
use Rattle.univ_cycles.proofs.WalkLaws.{turned}
use Rattle.univ_cycles.proofs.cycle.Cycle.of_walk.Goals as goal

pub returns-clause-cycle : goal.returns-clause-cycle
returns-clause-cycle c =
    let d = c.in_ok-steps-2.ensures in
    (turned c.args.walk.now c.in_ok-steps.steps.items c.in_ok-steps-2.steps.items d.0 c.in_ok-steps.ensures d.1 d.2 d.3).cycle

pub returns-clause-part : goal.returns-clause-part
returns-clause-part c =
    let d = c.in_ok-steps-2.ensures in
    (turned c.args.walk.now c.in_ok-steps.steps.items c.in_ok-steps-2.steps.items d.0 c.in_ok-steps.ensures d.1 d.2 d.3).part
