use Rattle.cic_names.proofs.IdTexts.{ids_told_apart}
use Rattle.cic_names.proofs.laws.ids_are_told_apart_by_text.Goals as goal

pub returns : goal.returns
returns c = λ a b left right e. ids_told_apart a b left right e
