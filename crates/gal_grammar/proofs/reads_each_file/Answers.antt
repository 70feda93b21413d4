use Rattle.gal_grammar.proofs.Exact.{reads_file}
use Rattle.gal_grammar.proofs.reads_each_file.Goals as goal

pub returns : goal.returns
returns c = reads_file
