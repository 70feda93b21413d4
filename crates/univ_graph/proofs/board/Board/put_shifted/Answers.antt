-- One more edge, and numbers that are moved into the gap.
use Rattle.std.proofs.Common.{◌≡◌, ◌∙◌, ◌<◌, ◌++◌, ◌∷◌, [], length, ap, refl, subst, sym, arith}
use Rattle.univ_graph.specs.declared.board.Edge.{Edge}
use Rattle.univ_graph.specs.calls.Boards.{tagged}
use Rattle.univ_nodes.specs.calls.Bands.{AreBands}
use Rattle.univ_graph.specs.calls.Moves.{AreWritten}
use Rattle.univ_graph.proofs.Soundness.{level_listed, sound_taken_with, sound_not_taken, lists_put, tagged_more}
use Rattle.univ_graph.proofs.MovingLaws.{down_within, up_within, moved_raises, moved_into}
use Rattle.univ_graph.proofs.board.Board.put_shifted.Goals as goal

pub append-requires-clause-left : goal.append-requires-clause-left
append-requires-clause-left c = (level_listed c.args.self.now c.args.left c.args.asked.constraint.left c.requires.sound c.requires.left).0

pub returns-in_err-append-clause-sound : goal.returns-in_err-append-clause-sound
returns-in_err-append-clause-sound c =
    let b = c.args.self.now in
    let new = c.append.new.self in
    let e = c.append.ensures in
    sound_not_taken b new c.requires.sound (record { names_are = e.names; numbers_are = e.numbers; edges_are = c.in_err-append.ensures.same }) e.bands
    (lists_put b new c.requires.sound e.room e.room_into e.listed e.listed_into)

pub write-requires-clause-within : goal.write-requires-clause-within
write-requires-clause-within c = λ p has.
    let w = down_within c.args.self.now c.args.left c.args.right c.args.shift.now c.requires.moves p has in
    subst (λ z. p < length z) (sym c.append.ensures.numbers) w

pub write-requires-2-clause-within : goal.write-requires-2-clause-within
write-requires-2-clause-within c = λ p has.
    let w = up_within c.args.self.now c.args.left c.args.right c.args.shift.now c.requires.moves p has in
    let n = ap length c.append.ensures.numbers in
    let l = c.write.ensures.lengths in omega arith

pub returns-clause-sound : goal.returns-clause-sound
returns-clause-sound c =
    let b = c.args.self.now in
    let s = c.args.shift.now in
    let edge : Edge = record { left = c.args.left; right = c.args.right; tagged = c.args.asked } in
    let e = c.append.ensures in
    let edges : c.append.new.self.edges.items ≡ b.edges.items ++ edge ∷ [] = c.in_ok-append.ensures.edges in
    let mid = c.write.new.numbers.items in
    let after = c.write-2.new.numbers.items in
    let first : AreWritten b.numbers.items mid s.down s.down_ranks.items s.gap.low =
    subst (λ z. AreWritten z mid s.down s.down_ranks.items s.gap.low) e.numbers (subst (λ z. AreWritten c.append.new.self.numbers.items mid s.down z s.gap.low) c.deref.ensures.value c.write.ensures) in
    let second : AreWritten mid after s.up s.up_ranks.items s.middle = subst (λ z. AreWritten mid after s.up z s.middle) c.deref-2.ensures.value c.write-2.ensures in
    let raised = moved_raises b c.args.left c.args.right c.args.asked.constraint.strict s mid after c.requires.sound c.requires.moves first second in
    let bands = c.cover.ensures b.numbers.items after (subst (λ z. AreBands z b.numbers.items) (sym e.bands) c.requires.sound.bands) (moved_into b c.args.left c.args.right s mid after c.requires.moves first second) in
    sound_taken_with b c.append.new.self _ edge after c.requires.sound raised (c.requires.left, c.requires.right) edges (lists_put b c.append.new.self c.requires.sound e.room e.room_into e.listed e.listed_into)
    (record { names_are = e.names; numbers_are = refl; edges_are = refl }) refl refl bands

pub returns-clause-taken : goal.returns-clause-taken
returns-clause-taken c =
    let edge : Edge = record { left = c.args.left; right = c.args.right; tagged = c.args.asked } in
    ap tagged c.in_ok-append.ensures.edges ∙ tagged_more c.args.self.now.edges.items edge
