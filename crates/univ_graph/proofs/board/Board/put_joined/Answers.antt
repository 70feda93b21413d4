-- One more edge, and the number of one end for what is joined.
use Rattle.std.proofs.Common.{◌≡◌, ◌∙◌, ◌<◌, ◌++◌, ◌∷◌, [], length, ap, refl, subst, sym, rules}
use Rattle.univ_graph.specs.declared.board.Edge.{Edge}
use Rattle.univ_graph.specs.calls.Boards.{at, tagged, AreRaised}
use Rattle.univ_graph.specs.calls.Joins.{kept_end}
use Rattle.univ_nodes.specs.calls.Bands.{AreBands}
use Rattle.univ_graph.specs.calls.Moves.{AreWritten}
use Rattle.univ_nodes.proofs.AtPlaces.{at_read}
use Rattle.univ_graph.proofs.Soundness.{level_within, sound_taken_with, sound_not_taken, lists_put, tagged_more}
use Rattle.univ_graph.proofs.JoinLaws.{end_within, joined_within, joined_raises, joined_in_bands}
use Rattle.univ_graph.proofs.board.Board.put_joined.Goals as goal

pub index-number-requires : goal.index-number-requires
index-number-requires c =
    let b = c.args.self.now in
    let l = level_within b c.args.left c.args.asked.constraint.left c.requires.sound c.requires.left in
    let r = level_within b c.args.right c.args.asked.constraint.right c.requires.sound c.requires.right in
    let within = end_within b c.args.join.now.up c.args.left c.args.right l r in
    let here : c.kept_end.result < length b.numbers.items = subst (λ z. z < length b.numbers.items) (sym c.kept_end.ensures) within in
    search rules

pub returns-in_err-append-clause-sound : goal.returns-in_err-append-clause-sound
returns-in_err-append-clause-sound c =
    let b = c.args.self.now in
    let new = c.append.new.self in
    let e = c.append.ensures in
    sound_not_taken b new c.requires.sound (record { names_are = e.names; numbers_are = e.numbers; edges_are = c.in_err-append.ensures.same }) e.bands
    (lists_put b new c.requires.sound e.room e.room_into e.listed e.listed_into)

pub write_same-requires : goal.write_same-requires
write_same-requires c = record {
  within = λ p has.
      let j = c.args.join.now in
      let w = joined_within c.args.self.now j.up c.args.left c.args.right j.places c.requires.joins p has in
      subst (λ z. p < length z) (sym c.append.ensures.numbers) w;
}

pub returns-clause-sound : goal.returns-clause-sound
returns-clause-sound c =
    let b = c.args.self.now in
    let ns = b.numbers.items in
    let left = c.args.left in
    let right = c.args.right in
    let up = c.args.join.now.up in
    let joined = c.args.join.now.places in
    let kept = kept_end up left right in
    let number = c.index-number.result.now in
    let edge : Edge = record { left = left; right = right; tagged = c.args.asked } in
    let e = c.append.ensures in
    let edges : c.append.new.self.edges.items ≡ b.edges.items ++ edge ∷ [] = c.in_ok-append.ensures.edges in
    let after = c.write_same.new.numbers.items in
    let l = level_within b left c.args.asked.constraint.left c.requires.sound c.requires.left in
    let r = level_within b right c.args.asked.constraint.right c.requires.sound c.requires.right in
    let within = end_within b up left right l r in
    let place : c.kept_end.result ≡ kept = c.kept_end.ensures in
    let here = subst (λ z. z < length ns) (sym place) within in
    let read_there : number ≡ at ns c.kept_end.result = at_read ns c.kept_end.result number here c.index-number.ensures in
    let read : number ≡ at ns kept = read_there ∙ ap (at ns) place in
    let written : AreWritten ns after joined [] (at ns kept) =
    subst (λ z. AreWritten ns after joined [] z) read (subst (λ z. AreWritten z after joined [] number) e.numbers c.write_same.ensures) in
    let plain = joined_raises b up left right joined after c.requires.sound c.requires.joins written in
    let raised = subst (λ z. AreRaised b left right z after) (sym c.requires.plain) plain in
    let bands = joined_in_bands c.append.new.self.bands.bands.items ns after joined kept (subst (λ z. AreBands z ns) (sym e.bands) c.requires.sound.bands) written in
    sound_taken_with b c.append.new.self _ edge after c.requires.sound raised (c.requires.left, c.requires.right) edges (lists_put b c.append.new.self c.requires.sound e.room e.room_into e.listed e.listed_into)
    (record { names_are = e.names; numbers_are = refl; edges_are = refl }) refl refl bands

pub returns-clause-taken : goal.returns-clause-taken
returns-clause-taken c =
    let edge : Edge = record { left = c.args.left; right = c.args.right; tagged = c.args.asked } in
    ap tagged c.in_ok-append.ensures.edges ∙ tagged_more c.args.self.now.edges.items edge
