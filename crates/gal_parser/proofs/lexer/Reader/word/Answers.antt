-- Where a word may begin, the longest run of its bytes is one.
use Rattle.std.proofs.Common.{◌≡◌, true, sym, ◌∙◌}
use Rattle.gal_parser.specs.Tokens.{begins_word, first_passes}
use Rattle.gal_parser.proofs.TokenLaws.{word_from, first_is}
use Rattle.gal_parser.proofs.lexer.Reader.word.Goals as goal

pub returns : goal.returns
returns c =
    let begins : first_passes begins_word c.after_blanks-text.result.now ≡ true =
    first_is begins_word c.after_blanks-text.result.now c.in-Some.first.now c.in-Some.ensures.value (sym c.begins_word.ensures ∙ c.if-begins_word.true) in
    rw (← c.after_blanks-text.ensures, c.split_at.ensures.back, c.split_at.ensures.front, c.word_length.ensures.value)
    (word_from c.after_blanks-text.result.now begins)
