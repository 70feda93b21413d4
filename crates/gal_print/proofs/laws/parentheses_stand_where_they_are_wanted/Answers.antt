use Rattle.std.proofs.Common.{refl}
use Rattle.std.specs.Fmt.{digits}
use Rattle.gal_print.proofs.laws.parentheses_stand_where_they_are_wanted.Goals as goal

pub returns-clause-application_left : goal.returns-clause-application_left
unfolding digits
returns-clause-application_left c E = refl

pub returns-clause-both : goal.returns-clause-both
unfolding digits
returns-clause-both c E = refl

pub returns-clause-nested : goal.returns-clause-nested
unfolding digits
returns-clause-nested c E = refl
