-- One more band, in which there is no number.
use Rattle.std.proofs.Common.{refl}
use Rattle.univ_graph.proofs.Soundness.{sound_bands}
use Rattle.univ_graph.proofs.board.Board.grow_bands.Goals as goal

pub returns-clause-sound : goal.returns-clause-sound
returns-clause-sound c =
    let b = c.args.self.now in
    let h = c.requires in
    sound_bands b _ h (record { names_are = refl; numbers_are = refl; edges_are = refl }) (c.add.ensures.bands b.numbers.items h.bands)
    (record { roomy = h.roomy; roomy_into = h.roomy_into; listed = h.listed; listed_into = h.listed_into })
