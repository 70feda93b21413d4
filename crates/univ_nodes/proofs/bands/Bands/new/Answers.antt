-- The first band has the number of Set.
use Rattle.std.proofs.Common.{◌≡◌, ◌∷◌, [], sym, subst}
use Rattle.std.proofs.lemmas.Result.{IfOk-weaker}
use Rattle.univ_nodes.specs.declared.bands.Bands.{Bands}
use Rattle.univ_nodes.specs.calls.Bands.{AreBands}
use Rattle.univ_nodes.proofs.BandLaws.{bands_new}
use Rattle.univ_nodes.proofs.bands.Bands.new.Goals as goal

pub returns : goal.returns
returns c = IfOk-weaker c.of_two.result
    (λ (b : Bands). b.bands.items ≡ record { floor = 0; ceiling = 2 } ∷ record { floor = 3145728; ceiling = 3145728 } ∷ [])
    (λ (b : Bands). AreBands b.bands.items (0 ∷ []))
    (λ b is. subst (λ z. AreBands z (0 ∷ [])) (sym is) bands_new)
    c.of_two.ensures
