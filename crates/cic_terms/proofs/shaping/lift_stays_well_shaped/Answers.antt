-- By the law on trees.
use Rattle.cic_terms.specs.Denotes.{tree}
use Rattle.cic_terms.proofs.Shaped.{lift_shaped}
use Rattle.cic_terms.proofs.shaping.lift_stays_well_shaped.Goals as goal

pub returns : goal.returns
returns c = lift_shaped c.args.from c.args.by (tree c.args.t.now) c.requires
