use Rattle.gal_grammar.proofs.Exact.{found}
use Rattle.gal_grammar.proofs.reads_files.Goals as goal

pub returns : goal.returns
returns c = found
