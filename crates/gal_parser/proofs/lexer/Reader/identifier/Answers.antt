-- The word that stands there is the only one, and it is no identifier or too long.
use Rattle.std.proofs.Common.{◌≤◌, length, subst, arith}
use Rattle.cic_names.specs.Identifier.{IsIdentifier}
use Rattle.gal_parser.proofs.TokenLaws.{one_word}
use Rattle.gal_parser.proofs.lexer.Reader.identifier.Goals as goal

pub returns-in-Err-NotIdent : goal.returns-in-Err-NotIdent
returns-in-Err-NotIdent c = λ r x h.
    c.in-Err-NotIdent.ensures.not_identifier c.in-Err-NotIdent.field-0-is (subst (λ z. IsIdentifier z) (one_word h.word c.in-Some.ensures).0 h.identifier)

pub returns-in-Err-Long : goal.returns-in-Err-Long
returns-in-Err-Long c = λ r x h.
    let short = subst (λ z. length z ≤ 255) (one_word h.word c.in-Some.ensures).0 h.short in
    let long = c.in-Err-Long.ensures.long c.in-Err-Long.field-0-is in
    omega arith
