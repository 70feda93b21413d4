-- One more edge, and one number of the gap for what is merged, with numbers behind it.
use Rattle.std.proofs.Common.{◌≡◌, ◌∙◌, ◌<◌, ◌+◌, ◌++◌, ◌∷◌, [], length, ap, refl, subst, sym, arith}
use Rattle.univ_graph.specs.declared.board.Edge.{Edge}
use Rattle.univ_graph.specs.calls.Boards.{tagged, AreRaised}
use Rattle.univ_nodes.specs.calls.Bands.{AreBands}
use Rattle.univ_graph.specs.calls.Moves.{AreWritten}
use Rattle.univ_graph.proofs.Soundness.{level_listed, sound_taken_with, sound_not_taken, lists_put, tagged_more}
use Rattle.univ_graph.proofs.MergeLaws.{merged_within, others_within, put_raises, put_into}
use Rattle.univ_graph.proofs.board.Board.put_merged.Goals as goal

pub append-requires-clause-left : goal.append-requires-clause-left
append-requires-clause-left c = (level_listed c.args.self.now c.args.left c.args.asked.constraint.left c.requires.sound c.requires.left).0

pub append-requires-clause-right : goal.append-requires-clause-right
append-requires-clause-right c = (level_listed c.args.self.now c.args.right c.args.asked.constraint.right c.requires.sound c.requires.right).1

pub returns-in_err-append-clause-sound : goal.returns-in_err-append-clause-sound
returns-in_err-append-clause-sound c =
    let b = c.args.self.now in
    let new = c.append.new.self in
    let e = c.append.ensures in
    sound_not_taken b new c.requires.sound (record { names_are = e.names; numbers_are = e.numbers; edges_are = c.in_err-append.ensures.same }) e.bands
    (lists_put b new c.requires.sound e.room e.room_into e.listed e.listed_into)

pub write_same-requires : goal.write_same-requires
write_same-requires c = record {
  within = λ p has.
      let w = merged_within c.args.self.now c.args.left c.args.right c.args.merge.now c.requires.merges p has in
      subst (λ z. p < length z) (sym c.append.ensures.numbers) w;
}

pub write-requires-clause-within : goal.write-requires-clause-within
write-requires-clause-within c = λ p has.
    let w = others_within c.args.self.now c.args.left c.args.right c.args.merge.now c.requires.merges p has in
    let n = ap length c.append.ensures.numbers in
    let l = c.write_same.ensures.lengths in omega arith

pub returns-clause-sound : goal.returns-clause-sound
returns-clause-sound c =
    let b = c.args.self.now in
    let m = c.args.merge.now in
    let edge : Edge = record { left = c.args.left; right = c.args.right; tagged = c.args.asked } in
    let e = c.append.ensures in
    let edges : c.append.new.self.edges.items ≡ b.edges.items ++ edge ∷ [] = c.in_ok-append.ensures.edges in
    let mid = c.write_same.new.numbers.items in
    let after = c.write.new.numbers.items in
    let first : AreWritten b.numbers.items mid m.merged [] m.gap.low = subst (λ z. AreWritten z mid m.merged [] m.gap.low) e.numbers c.write_same.ensures in
    let second : AreWritten mid after m.others m.ranks.items (m.gap.low + 1) = subst (λ z. AreWritten mid after m.others z (m.gap.low + 1)) c.deref.ensures.value c.write.ensures in
    let plain = put_raises b c.args.left c.args.right m mid after c.requires.sound c.requires.merges first second in
    let raised = subst (λ z. AreRaised b c.args.left c.args.right z after) (sym c.requires.plain) plain in
    let bands = c.cover.ensures b.numbers.items after (subst (λ z. AreBands z b.numbers.items) (sym e.bands) c.requires.sound.bands) (put_into b c.args.left c.args.right m mid after c.requires.merges first second) in
    sound_taken_with b c.append.new.self _ edge after c.requires.sound raised (c.requires.left, c.requires.right) edges (lists_put b c.append.new.self c.requires.sound e.room e.room_into e.listed e.listed_into)
    (record { names_are = e.names; numbers_are = refl; edges_are = refl }) refl refl bands

pub returns-clause-taken : goal.returns-clause-taken
returns-clause-taken c =
    let edge : Edge = record { left = c.args.left; right = c.args.right; tagged = c.args.asked } in
    ap tagged c.in_ok-append.ensures.edges ∙ tagged_more c.args.self.now.edges.items edge
