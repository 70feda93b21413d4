-- The symbol stands in front of what is left of it, or the text begins otherwise.
use Rattle.std.proofs.Common.{sym, refl, ◌∙◌}
use Rattle.std.specs.Prelude.{Some, None}
use Rattle.std.proofs.lemmas.Bool.Decides.{Decides-eqb}
use Rattle.std.proofs.lemmas.Slice.Eq.{strip_prefix_is}
use Rattle.gal_parser.proofs.lexer.Reader.takes_symbol.Goals as goal

pub returns-in-Some : goal.returns-in-Some
returns-in-Some c = record {
  text = sym c.after_blanks.ensures ∙ strip_prefix_is Decides-eqb c.after_blanks.result.now c.args.expected.now (Some c.in-Some.rest) c.in-Some.ensures.cases;
}

pub returns-in-None : goal.returns-in-None
returns-in-None c = (
  (λ r h.
      strip_prefix_is Decides-eqb c.after_blanks.result.now c.args.expected.now None c.in-None.ensures.cases r (c.after_blanks.ensures ∙ h.text)),
  refl,
)
