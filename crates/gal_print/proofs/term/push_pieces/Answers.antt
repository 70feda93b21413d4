-- The last piece goes behind what is there.
use Rattle.std.specs.String.{string_bytes}
use Rattle.gal_print.proofs.Fronts.{piece_moved}
use Rattle.gal_print.proofs.term.push_pieces.Goals as goal

pub loop-piece-preserved : goal.loop-piece-preserved
loop-piece-preserved c =
    piece_moved c.in-Some.piece c.loop-piece.pieces.items c.pop.new.self.items (string_bytes c.loop-piece.text) (string_bytes c.push_piece.new.text) _
    c.in-Some.ensures.items c.in_ok-push_piece.ensures c.loop-piece.invariant
