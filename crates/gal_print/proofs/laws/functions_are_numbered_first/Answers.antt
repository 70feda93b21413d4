use Rattle.std.proofs.Common.{refl}
use Rattle.std.specs.Fmt.{digits}
use Rattle.gal_print.proofs.laws.functions_are_numbered_first.Goals as goal

pub returns : goal.returns
unfolding digits
returns c E = refl
