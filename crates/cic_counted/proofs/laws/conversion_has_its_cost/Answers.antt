use Rattle.cic_counted.proofs.TakenConversion.{conv_done, cumul_done}
use Rattle.cic_counted.proofs.laws.conversion_has_its_cost.Goals as goal

pub returns-clause-conversion : goal.returns-clause-conversion
returns-clause-conversion c = conv_done

pub returns-clause-subtyping : goal.returns-clause-subtyping
returns-clause-subtyping c = cumul_done
