-- Another word than the expected one stands there, and there is only one.
use Rattle.std.proofs.Common.{sym, refl, ◌∙◌}
use Rattle.std.proofs.lemmas.Slice.Eq.{bytes_eq-Decides}
use Rattle.gal_parser.proofs.TokenLaws.{one_word}
use Rattle.gal_parser.proofs.lexer.Reader.takes_keyword.Goals as goal

pub returns : goal.returns
returns c = (
  (λ r h.
      let same = (one_word c.in-Some.ensures h).0 in
      let yes = (bytes_eq-Decides c.in-Some.word.now c.args.expected.now).1 same in
      let no = sym c.eq.ensures ∙ c.if-eq.false in
      (cc)),
  refl,
)
