use Rattle.cic_counted.proofs.NotVoid.{bad_block_not_positive}
use Rattle.cic_counted.proofs.laws.left_of_an_arrow_is_not_positive.Goals as goal

pub returns : goal.returns
returns c h = bad_block_not_positive h
