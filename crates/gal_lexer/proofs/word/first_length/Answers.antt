-- The first byte is no letter, or there is none.
use Rattle.std.proofs.Common.{sym, ◌∙◌}
use Rattle.cic_names.specs.Identifier.{is_first}
use Rattle.gal_lexer.proofs.CharacterLemmas.{nothing_starts_in, ascii_starts_no_in, first_ascii}
use Rattle.gal_lexer.proofs.word.first_length.Goals as goal

pub returns-in-None-clause-none : goal.returns-in-None-clause-none
returns-in-None-clause-none c = nothing_starts_in is_first _ c.in-None.ensures.cases

pub returns-else-begins_word-clause-none : goal.returns-else-begins_word-clause-none
returns-else-begins_word-clause-none c =
    ascii_starts_no_in is_first _ _ _ c.in-Some.ensures.cases.0 c.if-byte-ge128.false (first_ascii _ c.if-byte-ge128.false ∙ sym c.begins_word.ensures ∙ c.if-begins_word.false)
