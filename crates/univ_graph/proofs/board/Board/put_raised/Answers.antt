-- One more edge that raised numbers meet.
use Rattle.std.proofs.Common.{◌≡◌, ◌∙◌, ◌++◌, ◌∷◌, [], ap, refl}
use Rattle.univ_graph.specs.declared.board.Edge.{Edge}
use Rattle.univ_graph.specs.calls.Boards.{tagged}
use Rattle.univ_graph.proofs.Soundness.{sound_taken_with, sound_not_taken, lists_put, tagged_more}
use Rattle.univ_graph.proofs.board.Board.put_raised.Goals as goal

pub returns-clause-sound : goal.returns-clause-sound
returns-clause-sound c =
    let edge : Edge = record { left = c.args.left; right = c.args.right; tagged = c.args.asked } in
    let b = c.args.self.now in
    let new = c.append.new.self in
    let e = c.append.ensures in
    let edges : new.edges.items ≡ b.edges.items ++ edge ∷ [] = c.in_ok-append.ensures.edges in
    sound_taken_with b c.append.new.self _ edge c.args.numbers.items c.requires.sound c.requires.raised (c.requires.left, c.requires.right) edges (lists_put b c.append.new.self c.requires.sound e.room e.room_into e.listed e.listed_into)
    (record { names_are = e.names; numbers_are = refl; edges_are = refl }) refl refl (c.in_ok-bands.ensures c.args.numbers.items c.requires.close)

pub returns-clause-taken : goal.returns-clause-taken
returns-clause-taken c =
    let edge : Edge = record { left = c.args.left; right = c.args.right; tagged = c.args.asked } in
    ap tagged c.in_ok-append.ensures.edges ∙ tagged_more c.args.self.now.edges.items edge

pub returns-in_err-append-clause-sound : goal.returns-in_err-append-clause-sound
returns-in_err-append-clause-sound c =
    let b = c.args.self.now in
    let new = c.append.new.self in
    let e = c.append.ensures in
    sound_not_taken b new c.requires.sound (record { names_are = e.names; numbers_are = e.numbers; edges_are = c.in_err-append.ensures.same }) e.bands
    (lists_put b new c.requires.sound e.room e.room_into e.listed e.listed_into)
