-- A character is decoded, and passes or not.
use Rattle.std.proofs.Common.{◌≡◌, sym, subst, ◌∙◌}
use Rattle.cic_names.specs.Identifier.{is_first}
use Rattle.gal_lexer.specs.calls.Runs.{StartsWith}
use Rattle.gal_lexer.proofs.CharacterLemmas.{starts, other_starts, none_starts, start_bounds}
use Rattle.gal_lexer.proofs.word.first_letter.Goals as goal

pub returns-then-is_first-clause-some : goal.returns-then-is_first-clause-some
returns-then-is_first-clause-some c = subst (λ n. StartsWith is_first n c.args.text.now) (sym c.decode.ensures.size)
    (starts is_first _ _ (sym c.decode.ensures.char ∙ c.in-Some-default.is-0) (sym c.is_first.ensures ∙ c.if-is_first.true))

pub returns-then-is_first-clause-within : goal.returns-then-is_first-clause-within
returns-then-is_first-clause-within c = start_bounds is_first _ _ (subst (λ n. StartsWith is_first n c.args.text.now) (sym c.decode.ensures.size)
    (starts is_first _ _ (sym c.decode.ensures.char ∙ c.in-Some-default.is-0) (sym c.is_first.ensures ∙ c.if-is_first.true)))

pub returns-else-is_first-clause-none : goal.returns-else-is_first-clause-none
returns-else-is_first-clause-none c = other_starts is_first _ _ (sym c.decode.ensures.char ∙ c.in-Some-default.is-0) (sym c.is_first.ensures ∙ c.if-is_first.false)

pub returns-in-None-default-clause-none : goal.returns-in-None-default-clause-none
returns-in-None-default-clause-none c = none_starts is_first _ (sym c.decode.ensures.char ∙ c.in-None-default.is-0)
