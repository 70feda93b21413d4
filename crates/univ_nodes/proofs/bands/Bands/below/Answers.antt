-- Below the used part of a band no level has a number.
use Rattle.univ_nodes.proofs.BandLaws.{gap_below}
use Rattle.univ_nodes.proofs.AtPlaces.{got}
use Rattle.univ_nodes.proofs.bands.Bands.below.Goals as goal

pub returns-clause-gap : goal.returns-clause-gap
returns-clause-gap c =
    let bands = c.args.self.now.bands.items in
    let known = c.requires.bands in
    gap_below bands known.0 c.args.band c.index.result.now c.requires.later known.1 (got bands c.args.band c.index.result.now c.requires.within c.index.ensures)
