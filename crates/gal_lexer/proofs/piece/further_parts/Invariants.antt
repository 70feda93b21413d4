use Rattle.std.proofs.Common.{length, ◌-◌, ◌≤◌}
use Rattle.gal_lexer.specs.Pieces.{Parts}
use Rattle.gal_lexer.proofs.piece.further_parts.Given as goal

abbrev pub invariant-loop-n : goal.invariant-loop-n
invariant-loop-n l = record { parts : Parts l.text l.at; within : l.at ≤ length l.text }

abbrev pub decreases-loop-n : goal.decreases-loop-n
decreases-loop-n l = length l.text - l.at
