-- While the pieces are added: the text with those that are left is the whole.
use Rattle.std.proofs.Common.{◌≡◌, ◌++◌, vec_len}
use Rattle.std.specs.String.{string_bytes}
use Rattle.gal_print.specs.calls.Output.{backward, in_front}
use Rattle.gal_print.proofs.term.push_pieces.Given as goal

abbrev pub invariant-loop-piece : goal.invariant-loop-piece
invariant-loop-piece l = string_bytes l.text ++ backward l.pieces.items ≡ string_bytes l.fn.text ++ in_front l.fn.out

abbrev pub decreases-loop-piece : goal.decreases-loop-piece
decreases-loop-piece l = vec_len l.pieces
