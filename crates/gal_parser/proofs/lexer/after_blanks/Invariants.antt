-- What is left has the same text after its blanks.
use Rattle.std.proofs.Common.{◌≡◌, length}
use Rattle.gal_parser.specs.Tokens.{after_blanks}
use Rattle.gal_parser.proofs.lexer.after_blanks.Given as goal

abbrev pub invariant-loop-first : goal.invariant-loop-first
invariant-loop-first l = after_blanks l.text ≡ after_blanks l.rest

abbrev pub decreases-loop-first : goal.decreases-loop-first
decreases-loop-first l = length l.rest
