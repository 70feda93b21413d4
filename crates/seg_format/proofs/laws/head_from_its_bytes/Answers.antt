use Rattle.seg_format.proofs.FrontLaws.{head_from_its_bytes}
use Rattle.seg_format.proofs.laws.head_from_its_bytes.Goals as goal

pub returns : goal.returns
returns c = head_from_its_bytes
