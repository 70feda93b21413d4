-- A reserved word.
use Rattle.std.proofs.Common.{sym}
use Rattle.gal_lexer.specs.Pieces.{reserved}
use Rattle.gal_lexer.proofs.piece.word.Goals as goal

pub returns-in-Some-clause-piece : goal.returns-in-Some-clause-piece
returns-in-Some-clause-piece c = reserved c.requires.word (sym c.in-Some.ensures)
