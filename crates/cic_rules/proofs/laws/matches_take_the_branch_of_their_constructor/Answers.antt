use Rattle.cic_rules.proofs.Variables.{second_branch}
use Rattle.cic_rules.proofs.laws.matches_take_the_branch_of_their_constructor.Goals as goal

pub returns : goal.returns
returns g = second_branch
