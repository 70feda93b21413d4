use Rattle.cic_env.specs.Items.{environment}
use Rattle.cic_env.proofs.Lookups.{declared-by_place}
use Rattle.cic_env.proofs.environment.Env.declares.Goals as goal

pub returns : goal.returns
returns c = declared-by_place (environment c.args.self.now.kept.items) _ _ _ c.args.self.now.placed c.contains_key.ensures
