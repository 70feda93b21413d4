-- The comment is closed, or it is not.
use Rattle.gal_lexer.specs.Pieces.{unclosed}
use Rattle.gal_lexer.proofs.PieceLemmas.{closed_at, unclosed_at}
use Rattle.gal_lexer.proofs.piece.comment.Goals as goal

pub closed_comment-requires-clause-closed : goal.closed_comment-requires-clause-closed
closed_comment-requires-clause-closed c = closed_at _ _ _ c.rest_of.ensures.value c.in-Some.ensures.value c.requires.begins

pub returns-in-None-clause-fault : goal.returns-in-None-clause-fault
returns-in-None-clause-fault c = unclosed c.requires.begins (unclosed_at c.args.text.now c.rest_of.result.now c.rest_of.ensures.value c.in-None.ensures.value)
