-- What is gathered on both sides of the gap moves into it.
use Rattle.std.proofs.Common.{◌≤◌, arith}
use Rattle.univ_graph.specs.calls.Boards.{at}
use Rattle.univ_graph.specs.calls.Plans.{IsFitted, IsPlanned}
use Rattle.univ_nodes.proofs.AtPlaces.{at_within}
use Rattle.univ_graph.proofs.WalkingBack.{if_ok_map}
use Rattle.univ_graph.proofs.PlanLaws.{gathered_below, gathered_past, leads_from, planned_of}
use Rattle.univ_graph.proofs.board.Board.plan.Goals as goal

pub gather_past-requires-clause-down : goal.gather_past-requires-clause-down
gather_past-requires-clause-down c =
    let b = c.args.self.now in
    let leads = gathered_below b c.args.left c.args.right c.args.gap.low c.in_ok-down.field-0 c.in-Gathered.down c.in_ok-down.ensures c.in-Gathered.is in
    λ p has. leads_from b c.args.left c.args.right c.args.gap.low p c.in-Gathered.down leads has

pub fit-requires-clause-down : goal.fit-requires-clause-down
fit-requires-clause-down c =
    let b = c.args.self.now in
    let leads = gathered_below b c.args.left c.args.right c.args.gap.low c.in_ok-down.field-0 c.in-Gathered.down c.in_ok-down.ensures c.in-Gathered.is in
    λ p has.
    let k : c.args.gap.low ≤ at b.numbers.items p = leads.closed.2.kept p has in
    let one = c.requires.gap.positive in at_within b.numbers.items p (omega arith)

pub fit-requires-clause-up : goal.fit-requires-clause-up
fit-requires-clause-up c =
    let b = c.args.self.now in
    let past = gathered_past b c.args.left c.args.right c.args.gap.high c.in-Gathered.down c.in_ok-found.found c.in-Gathered-found.up c.in_ok-found.ensures c.in-Gathered-found.is in
    λ p has. at_within b.numbers.items p (past.2.closed.kept p has).0

pub returns : goal.returns
returns c =
    let b = c.args.self.now in
    let left = c.args.left in
    let right = c.args.right in
    let gap = c.args.gap in
    let down = c.in-Gathered.down in
    let up = c.in-Gathered-found.up in
    let leads = gathered_below b left right gap.low c.in_ok-down.field-0 down c.in_ok-down.ensures c.in-Gathered.is in
    let past = gathered_past b left right gap.high down c.in_ok-found.found up c.in_ok-found.ensures c.in-Gathered-found.is in
    if_ok_map (IsFitted b.numbers.items gap down up) (IsPlanned b left right) c.fit.result
    (λ a h. planned_of b left right gap past.0 down up a c.requires.sound c.requires.gap leads past.1 past.2 h) c.fit.ensures
