-- The new band is behind the others, and no number is in its used part.
use Rattle.std.proofs.Common.{◌≡◌, ◌+◌, ◌*◌, ◌∷◌, ◌++◌, [], length, sym, subst, arith, rules}
use Rattle.univ_nodes.specs.calls.Bands.{AreBands, IsBand}
use Rattle.univ_nodes.specs.declared.bands.Band.{Band}
use Rattle.univ_nodes.proofs.BandLaws.{bands_added}
use Rattle.univ_nodes.proofs.bands.Bands.add.Goals as goal

pub returns-in-Ok-clause-bands : goal.returns-in-Ok-clause-bands
returns-in-Ok-clause-bands c = λ numbers h.
    let bands = c.args.self.now.bands.items in
    let count : c.len.result ≡ length bands = search rules in
    let band : Band = record { floor = c.len.result * 2097152 + 1048576; ceiling = c.len.result * 2097152 + 1048576 } in
    let more : c.push.new.self.items ≡ bands ++ band ∷ [] = search rules in
    let is : IsBand (length bands) band = record { low = omega arith; order = omega arith; high = omega arith } in
    subst (λ z. AreBands z numbers) (sym more) (bands_added bands band numbers c.requires is h)
