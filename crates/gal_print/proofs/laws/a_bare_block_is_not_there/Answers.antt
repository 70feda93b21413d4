use Rattle.gal_print.proofs.Parts.{bare_is_unknown}
use Rattle.gal_print.proofs.laws.a_bare_block_is_not_there.Goals as goal

pub returns : goal.returns
returns c = bare_is_unknown
