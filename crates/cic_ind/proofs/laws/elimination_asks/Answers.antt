use Rattle.cic_ind.proofs.Asked.{asks_nothing, asks_prop, asks_arguments, has_one}
use Rattle.cic_ind.proofs.laws.elimination_asks.Goals as goal

pub returns : goal.returns
returns c = record { all = asks_nothing; prop_only = asks_prop; if_arguments = asks_arguments; one = has_one }
