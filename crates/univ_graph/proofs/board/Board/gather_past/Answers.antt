-- What leads to the left place is barred, or the left place alone.
use Rattle.std.proofs.Common.{arith}
use Rattle.univ_graph.specs.calls.Plans.{AreBarred, IsFoundAbove, IsFoundPast}
use Rattle.univ_graph.proofs.WalkingBack.{if_ok_map}
use Rattle.univ_graph.proofs.PlanLaws.{found_past, some_has}
use Rattle.univ_graph.proofs.board.Board.gather_past.Goals as goal

pub returns-then-len-ne0 : goal.returns-then-len-ne0
returns-then-len-ne0 c =
    let b = c.args.self.now in
    let down = c.args.down.now in
    let left = c.args.left in
    let some = some_has down (let e = c.len.ensures.value in let n = c.if-len-ne0.true in omega arith) in
    let bars : AreBarred left down down = record { left_is = c.requires.down some.0 some.1; down_are = λ p h. h } in
    if_ok_map (IsFoundAbove b c.args.right c.args.high down) (IsFoundPast b left c.args.right c.args.high down) c.gather_up.result
    (λ f h. found_past b left c.args.right c.args.high down down f bars h) c.gather_up.ensures
