-- Each number has its band.
use Rattle.std.proofs.Common.{◌≡◌, ◌∙◌, ◌<◌, ◌/◌, ap, sym, subst, length}
use Rattle.univ_nodes.specs.calls.Bands.{band_width}
use Rattle.univ_graph.specs.calls.Boards.{at}
use Rattle.univ_nodes.proofs.AtPlaces.{at_read}
use Rattle.univ_nodes.proofs.BandLaws.{band_there}
use Rattle.univ_graph.proofs.board.Board.merge_in.Goals as goal

pub above-gap-requires-clause-within : goal.above-gap-requires-clause-within
above-gap-requires-clause-within c =
    let b = c.args.self.now in
    let ns = b.numbers.items in
    let there = band_there b.bands.bands.items ns c.args.left c.requires.sound.bands in
    let read : c.index.result.now ≡ at ns c.args.left = at_read ns c.args.left c.index.result.now c.requires.left c.index.ensures in
    subst (λ z. z < length b.bands.bands.items) (sym (c.band_of-band.ensures ∙ ap (λ z. z / band_width) read)) there
