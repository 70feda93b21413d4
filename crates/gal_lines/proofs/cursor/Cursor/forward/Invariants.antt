use Rattle.std.proofs.Common.{◌≤◌, ◌-◌}
use Rattle.gal_lines.specs.calls.Cursors.{IsAt}
use Rattle.gal_lines.proofs.cursor.Cursor.forward.Given as goal

abbrev pub invariant-loop-cursor : goal.invariant-loop-cursor
invariant-loop-cursor l = record { at : IsAt l.source l.cursor; before : l.cursor.at ≤ l.to }

abbrev pub decreases-loop-cursor : goal.decreases-loop-cursor
decreases-loop-cursor l = l.to - l.cursor.at
