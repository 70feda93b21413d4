use Rattle.cic_spines.proofs.Together.{put_in_at_once}
use Rattle.cic_spines.proofs.laws.at_once_is_one_by_one.Goals as goal

pub returns : goal.returns
returns c = put_in_at_once
