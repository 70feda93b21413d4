-- The number at the level's place, or 1.
use Rattle.std.proofs.Common.{◌∙◌, ◌<◌, sym, length, arith}
use Rattle.univ_cycles.specs.calls.Places.{rest}
use Rattle.univ_nodes.proofs.AtPlaces.{at_read}
use Rattle.univ_graph.proofs.Raising.{place_within}
use Rattle.univ_graph.proofs.LevelLists.{kept_absent}
use Rattle.univ_graph.proofs.Wholes.{number_at_place}
use Rattle.univ_graph.proofs.board.Board.number.Goals as goal

pub returns-in-Some : goal.returns-in-Some
returns-in-Some c =
    let b = c.args.self.now in
    let p = c.in-Some.place in
    let l = c.args.level.now in
    let lt : p < length b.numbers.items = let w = place_within b.names p l c.in-Some.ensures in let e = c.requires.sound.numbers.lengths in omega arith in
    at_read b.numbers.items p c.index.result.now lt c.index.ensures ∙ sym (number_at_place b p l c.requires c.in-Some.ensures)

pub returns-in-None : goal.returns-in-None
returns-in-None c =
    let b = c.args.self.now in
    sym (kept_absent b.names (rest b.numbers.items) c.args.level.now c.in-None.ensures)
