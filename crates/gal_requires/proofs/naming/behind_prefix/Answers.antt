use Rattle.std.proofs.Common.{◌++◌, ◌∷◌, Some, None, ap, sym, ◌∙◌}
use Rattle.std.proofs.lemmas.Slice.Eq.{strip_prefix_is}
use Rattle.std.proofs.lemmas.Bool.Decides.{Decides-eqb}
use Rattle.gal_requires.proofs.Texts.{dotted}
use Rattle.gal_requires.proofs.naming.behind_prefix.Goals as goal

pub returns-in-Some : goal.returns-in-Some
returns-in-Some c =
    dotted c.args.text.now c.args.prefix.now c.in-Some.rest.now c.behind_dot.result
    (strip_prefix_is Decides-eqb c.args.text.now c.bytes.result.now (Some c.in-Some.rest) c.in-Some.ensures.cases ∙ ap (λ p. p ++ c.in-Some.rest.now) c.bytes.ensures.value)
    c.behind_dot.ensures

pub returns-in-None : goal.returns-in-None
returns-in-None c = λ rest e.
    strip_prefix_is Decides-eqb c.args.text.now c.bytes.result.now None c.in-None.ensures.cases (46 ∷ rest) (e ∙ ap (λ p. p ++ (46 ∷ rest)) (sym c.bytes.ensures.value))
