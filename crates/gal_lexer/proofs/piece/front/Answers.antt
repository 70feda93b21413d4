-- A blank.
use Rattle.std.proofs.Common.{sym, ◌∙◌}
use Rattle.gal_lexer.specs.Pieces.{blank}
use Rattle.gal_lexer.proofs.piece.front.Goals as goal

pub returns-then-begins_blank-clause-piece : goal.returns-then-begins_blank-clause-piece
returns-then-begins_blank-clause-piece c = blank (sym c.begins_blank.ensures ∙ c.if-begins_blank.true)
