-- A character is decoded, and passes or not.
use Rattle.std.proofs.Common.{◌≡◌, sym, subst, ◌∙◌}
use Rattle.cic_names.specs.Identifier.{is_further}
use Rattle.gal_lexer.specs.calls.Runs.{StartsWith}
use Rattle.gal_lexer.proofs.CharacterLemmas.{starts, other_starts, none_starts, start_bounds}
use Rattle.gal_lexer.proofs.word.further_letter.Goals as goal

pub returns-then-is_further-clause-some : goal.returns-then-is_further-clause-some
returns-then-is_further-clause-some c = subst (λ n. StartsWith is_further n c.args.text.now) (sym c.decode.ensures.size)
    (starts is_further _ _ (sym c.decode.ensures.char ∙ c.in-Some-default.is-0) (sym c.is_further.ensures ∙ c.if-is_further.true))

pub returns-then-is_further-clause-within : goal.returns-then-is_further-clause-within
returns-then-is_further-clause-within c = start_bounds is_further _ _ (subst (λ n. StartsWith is_further n c.args.text.now) (sym c.decode.ensures.size)
    (starts is_further _ _ (sym c.decode.ensures.char ∙ c.in-Some-default.is-0) (sym c.is_further.ensures ∙ c.if-is_further.true)))

pub returns-else-is_further-clause-none : goal.returns-else-is_further-clause-none
returns-else-is_further-clause-none c = other_starts is_further _ _ (sym c.decode.ensures.char ∙ c.in-Some-default.is-0) (sym c.is_further.ensures ∙ c.if-is_further.false)

pub returns-in-None-default-clause-none : goal.returns-in-None-default-clause-none
returns-in-None-default-clause-none c = none_starts is_further _ (sym c.decode.ensures.char ∙ c.in-None-default.is-0)
