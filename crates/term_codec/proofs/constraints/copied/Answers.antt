use Rattle.cic_names.proofs.Clones.{constraint_clone_is}
use Rattle.term_codec.proofs.constraints.copied.Goals as goal

pub returns-clause-ok : goal.returns-clause-ok
returns-clause-ok c = constraint_clone_is c.args.one.now c.in_ok-clone.field-0 c.in_ok-clone.ensures.cases
