use Rattle.std.proofs.Common.{◌≡◌, ◌≤◌, ◌<◌, ℕ, suc, length, ◌+◌}
use Rattle.gal_lexer.specs.calls.Scans.{comment_end}
use Rattle.gal_lexer.proofs.comment.after_comment.Given as goal

abbrev pub invariant-loop-byte : goal.invariant-loop-byte
invariant-loop-byte l = record { same : comment_end l.open l.last l.rest ≡ comment_end 1 0 l.text; some : 0 < l.open; few : l.open + length l.rest ≤ 1 + length l.text }

abbrev pub decreases-loop-byte : goal.decreases-loop-byte
decreases-loop-byte l = length l.rest
