-- A reserved word is no identifier.
use Rattle.std.proofs.Common.{sym}
use Rattle.gal_lexer.proofs.PieceLemmas.{no_identifier, reserved_identifier}
use Rattle.gal_lexer.proofs.piece.free_word.Goals as goal

pub returns-in-Some-clause-none : goal.returns-in-Some-clause-none
returns-in-Some-clause-none c = reserved_identifier _ _ _ c.in_ok-n.ensures.word (sym c.in-Some.ensures)
