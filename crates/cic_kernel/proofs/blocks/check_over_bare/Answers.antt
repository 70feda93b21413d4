use Rattle.cic_env.specs.Declarations.{block}
use Rattle.cic_env.specs.Environments.{items}
use Rattle.cic_rules.specs.Environment.{environment_ids}
use Rattle.cic_kernel.proofs.NewIds.{types_are_new}
use Rattle.cic_kernel.proofs.blocks.check_over_bare.Goals as goal

pub push_bare-requires : goal.push_bare-requires
push_bare-requires g c = types_are_new (environment_ids (items c.args.env.now)) (block c.args.b.now).types c.requires.new
