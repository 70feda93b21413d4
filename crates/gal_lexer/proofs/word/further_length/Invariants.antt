use Rattle.std.proofs.Common.{length, ◌-◌, ◌≤◌}
use Rattle.gal_lexer.specs.calls.Runs.{Run, EndsAscii}
use Rattle.gal_lexer.proofs.word.further_length.Given as goal

abbrev pub invariant-loop-at : goal.invariant-loop-at
invariant-loop-at l = record { run : Run l.at l.text; ends : EndsAscii l.at l.text; within : l.at ≤ length l.text }

abbrev pub decreases-loop-at : goal.decreases-loop-at
decreases-loop-at l = length l.text - l.at
