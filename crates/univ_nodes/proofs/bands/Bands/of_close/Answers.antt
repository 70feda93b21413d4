-- The second band has the numbers that are close together.
use Rattle.std.proofs.Common.{◌≡◌, ◌∷◌, [], sym, subst}
use Rattle.std.proofs.lemmas.Result.{IfOk-weaker}
use Rattle.univ_nodes.specs.declared.bands.Bands.{Bands}
use Rattle.univ_nodes.specs.calls.Bands.{AreBands}
use Rattle.univ_nodes.proofs.BandLaws.{bands_close}
use Rattle.univ_nodes.proofs.bands.Bands.of_close.Goals as goal

pub returns : goal.returns
returns c = λ numbers close. IfOk-weaker c.of_two.result
    (λ (b : Bands). b.bands.items ≡ record { floor = 0; ceiling = 2 } ∷ record { floor = 2621440; ceiling = 3670017 } ∷ [])
    (λ (b : Bands). AreBands b.bands.items numbers)
    (λ b is. subst (λ z. AreBands z numbers) (sym is) (bands_close numbers close))
    c.of_two.ensures
