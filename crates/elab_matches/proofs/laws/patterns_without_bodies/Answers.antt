use Rattle.elab_matches.proofs.Whole.{pattern_cut}
use Rattle.elab_matches.proofs.laws.patterns_without_bodies.Goals as goal

pub returns : goal.returns
returns c = pattern_cut
