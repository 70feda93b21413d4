use Rattle.std.proofs.Common.{refl}
use Rattle.std.specs.Fmt.{digits}
use Rattle.gal_print.proofs.laws.variables_are_named.Goals as goal

pub returns-clause-innermost : goal.returns-clause-innermost
unfolding digits
returns-clause-innermost c E = refl

pub returns-clause-outermost : goal.returns-clause-outermost
unfolding digits
returns-clause-outermost c E = refl

pub returns-clause-free : goal.returns-clause-free
unfolding digits
returns-clause-free c E = refl
