-- Each part has fewer nodes.
use Rattle.term_bench.proofs.+whole.Given as goal

abbrev pub decreases-whole : goal.decreases-whole
decreases-whole l = l.nodes
