-- One more edge that is met.
use Rattle.std.proofs.Common.{◌∙◌, ap}
use Rattle.univ_graph.specs.declared.board.Edge.{Edge}
use Rattle.univ_graph.specs.calls.Boards.{tagged}
use Rattle.univ_graph.proofs.Spreading.{on_ok_map}
use Rattle.univ_graph.proofs.Soundness.{sound_put, lists_put, tagged_more}
use Rattle.univ_graph.proofs.board.Board.put.Goals as goal

pub returns-clause-sound : goal.returns-clause-sound
returns-clause-sound c =
    let edge : Edge = record { left = c.args.left; right = c.args.right; tagged = c.args.asked } in
    let e = c.append.ensures in
    sound_put c.append.result c.args.self.now c.append.new.self edge c.requires.sound c.requires.met (c.requires.left, c.requires.right) e.names e.numbers e.bands e.edges e.same
    (lists_put c.args.self.now c.append.new.self c.requires.sound e.room e.room_into e.listed e.listed_into)

pub returns-clause-taken : goal.returns-clause-taken
returns-clause-taken c =
    let edge : Edge = record { left = c.args.left; right = c.args.right; tagged = c.args.asked } in
    on_ok_map c.append.result (λ e. ap tagged e ∙ tagged_more c.args.self.now.edges.items edge) c.append.ensures.edges
