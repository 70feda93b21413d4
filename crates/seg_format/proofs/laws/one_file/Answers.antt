use Rattle.seg_format.proofs.SpellingLaws.{one_file}
use Rattle.seg_format.proofs.laws.one_file.Goals as goal

pub returns : goal.returns
returns c = one_file
