-- The edges are those from before, and the left place stays where it was.
use Rattle.std.proofs.Common.{◌≡◌, ◌∙◌, ◌++◌, ◌∷◌, [], sym, subst}
use Rattle.std.specs.Prelude.{Some, IfErr}
use Rattle.univ_cycles.specs.calls.Places.{level_at}
use Rattle.univ_graph.specs.calls.Boards.{IsConflictAmong, tagged}
use Rattle.univ_graph.proofs.Soundness.{level_front}
use Rattle.univ_graph.proofs.board.Board.try_take.Goals as goal

pub returns-clause-conflict : goal.returns-clause-conflict
returns-clause-conflict c =
    subst (λ z. IfErr c.settle.result (IsConflictAmong (tagged z ++ c.args.asked ∷ []))) (c.intern-2.ensures.edges ∙ c.intern.ensures.edges) c.settle.ensures.conflict

pub settle-requires-clause-left : goal.settle-requires-clause-left
settle-requires-clause-left c =
    let first = c.intern.new.self.names in
    let front = c.intern-2.ensures.front in
    subst (λ z. level_at z c.in-Ok.left ≡ Some c.args.asked.constraint.left) (sym front.1) (level_front first front.0 c.in-Ok.left c.args.asked.constraint.left c.in-Ok.ensures.place)
