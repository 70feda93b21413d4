use Rattle.gal_grammar.proofs.Exact.{one_file}
use Rattle.gal_grammar.proofs.one_reading.Goals as goal

pub returns : goal.returns
returns c = one_file
