-- A symbol, a stop, or nothing.
use Rattle.std.proofs.Common.{sym, ◌∙◌, subst, ◌≤◌, ◌<◌, length}
use Rattle.gal_lexer.specs.Pieces.{symbol, stop, no_start}
use Rattle.gal_lexer.proofs.PieceLemmas.{symbol_bounds}
use Rattle.gal_lexer.proofs.piece.mark.Goals as goal

pub returns-in-Some-clause-piece : goal.returns-in-Some-clause-piece
returns-in-Some-clause-piece c = symbol c.requires.no_comment (sym c.in-Some.ensures) c.spelling_length.ensures

pub returns-in-Some-clause-within : goal.returns-in-Some-clause-within
returns-in-Some-clause-within c =
    subst (λ n. (0 < n) × (n ≤ length c.args.text.now)) (sym c.spelling_length.ensures) (symbol_bounds _ _ (sym c.in-Some.ensures))

pub returns-then-begins_stop-clause-piece : goal.returns-then-begins_stop-clause-piece
returns-then-begins_stop-clause-piece c = stop (sym c.begins_stop.ensures ∙ c.if-begins_stop.true)

pub returns-else-begins_stop-clause-fault : goal.returns-else-begins_stop-clause-fault
returns-else-begins_stop-clause-fault c =
    no_start c.requires.no_blank c.requires.no_comment (sym c.in-None.ensures) (sym c.begins_stop.ensures ∙ c.if-begins_stop.false) c.requires.no_word
