-- The comment is UTF-8, or it is so up to a byte.
use Rattle.gal_lexer.specs.Pieces.{comment, bad_comment}
use Rattle.std.proofs.Common.{subst, sym, take}
use Rattle.std.specs.Str.{IsValidUpTo}
use Rattle.gal_lexer.proofs.piece.closed_comment.Goals as goal

pub returns-in-Ok-clause-piece : goal.returns-in-Ok-clause-piece
returns-in-Ok-clause-piece c = comment c.requires.begins c.requires.closed c.requires.within.1 c.in-Ok.ensures.cases.1

pub returns-in-Err-clause-fault : goal.returns-in-Err-clause-fault
returns-in-Err-clause-fault c = bad_comment c.requires.begins c.requires.closed c.requires.within.1
    (subst (λ k. IsValidUpTo (take c.args.n c.args.text.now) k) (sym c.valid_up_to.ensures) c.in-Err.ensures.cases.1)
