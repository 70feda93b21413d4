-- One part after the other.
use Rattle.std.proofs.Common.{ℕ, subst, arith, refl, ◌≤◌, ◌+◌, length, drop}
use Rattle.gal_lexer.specs.Pieces.{Joined, NoPart, Parts, none, further}
use Rattle.gal_lexer.proofs.piece.further_parts.Goals as goal

pub loop-n-init : goal.loop-n-init
loop-n-init c = record { parts = none; within = omega arith }

pub loop-n-preserved : goal.loop-n-preserved
loop-n-preserved c =
    let n = c.in-Some.n in
    let part = subst (λ t. Joined n t) c.rest_of.ensures.value c.in-Some.ensures.some in
    let bound = c.in-Some.ensures.within in
    let len = c.rest_of.ensures.length in
    let inside = c.loop-n.invariant.within in
    record { parts = further c.loop-n.invariant.parts part c.if-n-gt-LONGEST_NAME.false refl; within = omega arith }

pub returns-clause-all : goal.returns-clause-all
returns-clause-all c = subst (λ t. NoPart t) c.rest_of.ensures.value c.in_default.ensures.none
