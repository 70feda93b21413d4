use Rattle.cic_counted.proofs.Keys.{insert_met, insert_meets}
use Rattle.cic_counted.proofs.laws.insertion_keeps_all.Goals as goal

pub returns : goal.returns
returns c N d K = (insert_met N d K, insert_meets N d K)
