use Rattle.seg_format.proofs.FileLaws.{read_spelled}
use Rattle.seg_format.proofs.laws.files_have_no_defect.Goals as goal

pub returns : goal.returns
returns c = λ bytes file s. (read_spelled bytes file s).none
