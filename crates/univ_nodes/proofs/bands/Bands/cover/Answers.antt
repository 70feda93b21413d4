-- The used part of the band has the gap in it, and all that was in it before.
use Rattle.std.proofs.Common.{◌≡◌, sym, subst, min, max}
use Rattle.std.specs.Prelude.{slice_set}
use Rattle.univ_nodes.specs.calls.Bands.{AreBands}
use Rattle.univ_nodes.proofs.BandLaws.{bands_covered}
use Rattle.univ_nodes.proofs.AtPlaces.{got}
use Rattle.univ_nodes.proofs.bands.Bands.cover.Goals as goal

pub returns : goal.returns
returns c = λ before after h moved.
    let bands = c.args.self.now.bands.items in
    let gap = c.args.gap.now in
    let band = c.index_mut-band.result.now in
    let floor : c.min-band.result ≡ min band.floor gap.low = c.min-band.ensures in
    let ceiling : c.max-band.result ≡ max band.ceiling gap.high = c.max-band.ensures in
    let is = bands_covered bands gap band before after c.requires (got bands gap.band band c.requires.within c.index_mut-band.ensures.value) h moved in
    let with_floor = subst (λ z. AreBands (slice_set bands gap.band (record { floor = z; ceiling = max band.ceiling gap.high })) after) (sym floor) is in
    subst (λ z. AreBands (slice_set bands gap.band (record { floor = c.min-band.result; ceiling = z })) after) (sym ceiling) with_floor
