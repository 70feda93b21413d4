-- The first character, and those that go on.
use Rattle.std.proofs.Common.{subst, drop}
use Rattle.cic_names.specs.Identifier.{is_further}
use Rattle.gal_lexer.specs.Words.{StartsWithNo}
use Rattle.gal_lexer.specs.calls.Runs.{Run}
use Rattle.gal_lexer.proofs.CharacterLemmas.{word_of}
use Rattle.gal_lexer.proofs.word.word_length.Goals as goal

pub returns-clause-word : goal.returns-clause-word
returns-clause-word c =
    let n = c.further_length.result in
    word_of _ _ _ c.in_ok-first.ensures.some
    (subst (λ t. Run n t) c.rest_of.ensures.value c.further_length.ensures.run)
    (subst (λ t. StartsWithNo is_further (drop n t)) c.rest_of.ensures.value c.further_length.ensures.longest)
