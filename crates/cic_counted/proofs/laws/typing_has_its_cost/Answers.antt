use Rattle.cic_counted.proofs.TakenTyping.{infer_done, check_done, sort_of_done}
use Rattle.cic_counted.proofs.laws.typing_has_its_cost.Goals as goal

pub returns-clause-inference : goal.returns-clause-inference
returns-clause-inference c = infer_done

pub returns-clause-check : goal.returns-clause-check
returns-clause-check c = check_done

pub returns-clause-sort : goal.returns-clause-sort
returns-clause-sort c = sort_of_done
