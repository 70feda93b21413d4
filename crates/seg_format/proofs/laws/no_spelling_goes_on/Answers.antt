use Rattle.seg_format.proofs.SpellingLaws.{no_spelling_goes_on}
use Rattle.seg_format.proofs.laws.no_spelling_goes_on.Goals as goal

pub returns : goal.returns
returns c = no_spelling_goes_on
