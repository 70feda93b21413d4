use Rattle.cic_counted.proofs.Decided.{same_tree_decides}
use Rattle.cic_counted.proofs.laws.same_tree_is_equality.Goals as goal

pub returns : goal.returns
returns c = same_tree_decides
