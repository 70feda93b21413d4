use Rattle.cic_spines.proofs.FixParts.{functions_of_fix}
use Rattle.cic_spines.proofs.laws.fixes_have_functions.Goals as goal

pub returns : goal.returns
returns c = functions_of_fix
