use Rattle.std.proofs.Common.{refl}
use Rattle.std.specs.Fmt.{digits}
use Rattle.gal_print.proofs.laws.matches_are_printed.Goals as goal

pub returns-clause-known : goal.returns-clause-known
unfolding digits
returns-clause-known c = refl

pub returns-clause-not_there : goal.returns-clause-not_there
unfolding digits
returns-clause-not_there c = refl
