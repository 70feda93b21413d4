use Rattle.seg_format.proofs.SpellingLaws.{no_defect_is_a_file}
use Rattle.seg_format.proofs.laws.no_defect_is_a_file.Goals as goal

pub returns : goal.returns
returns c = no_defect_is_a_file
