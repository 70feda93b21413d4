use Rattle.cic_counted.proofs.Functions.{functions_of-parts}
use Rattle.cic_counted.proofs.laws.functions_are_read_off.Goals as goal

pub returns : goal.returns
returns c = functions_of-parts
