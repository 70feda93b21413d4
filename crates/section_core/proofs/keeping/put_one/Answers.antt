use Rattle.section_core.proofs.Layered.{puts_one}
use Rattle.section_core.proofs.keeping.put_one.Goals as goal

pub returns : goal.returns
returns c = puts_one c.args.id.now _ c.args.names.now.value.items _ _ _ c.in_ok-id.ensures c.in_ok-names.ensures c.in_ok-put.ensures
