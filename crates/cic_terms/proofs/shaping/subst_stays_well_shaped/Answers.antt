-- By the law on trees.
use Rattle.cic_terms.specs.Denotes.{tree}
use Rattle.cic_terms.proofs.Shaped.{subst_shaped}
use Rattle.cic_terms.proofs.shaping.subst_stays_well_shaped.Goals as goal

pub returns : goal.returns
returns c = subst_shaped c.args.at (tree c.args.with.now) (tree c.args.t.now) c.requires.put_in c.requires.term
