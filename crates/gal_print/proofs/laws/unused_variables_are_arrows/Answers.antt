use Rattle.std.proofs.Common.{refl}
use Rattle.std.specs.Fmt.{digits}
use Rattle.gal_print.proofs.laws.unused_variables_are_arrows.Goals as goal

pub returns-clause-product : goal.returns-clause-product
unfolding digits
returns-clause-product c E = refl

pub returns-clause-numbered : goal.returns-clause-numbered
unfolding digits
returns-clause-numbered c E = refl
