use Rattle.std.proofs.Common.{length, ◌-◌, ◌≤◌}
use Rattle.gal_lexer.specs.Tokens.{Splits}
use Rattle.gal_lexer.proofs.lexer.lex.Given as goal

abbrev pub invariant-loop-at : goal.invariant-loop-at
invariant-loop-at l = record { split : Splits l.source l.at l.tokens.items; within : l.at ≤ length l.source }

abbrev pub decreases-loop-at : goal.decreases-loop-at
decreases-loop-at l = length l.source - l.at
