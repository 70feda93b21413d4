use Rattle.std.proofs.Common.{refl}
use Rattle.std.specs.Fmt.{digits}
use Rattle.gal_print.proofs.laws.a_let_has_its_type.Goals as goal

pub returns : goal.returns
unfolding digits
returns c E = refl
