use Rattle.std.proofs.Common.{sym, subst}
use Rattle.section_core.specs.calls.Stored.{EntriesDeclare}
use Rattle.section_core.proofs.Ended.{end_declares}
use Rattle.section_core.proofs.state.State.end.Goals as goal

pub put_all-requires-clause-declare : goal.put_all-requires-clause-declare
put_all-requires-clause-declare c = subst EntriesDeclare (sym c.requires.kept) (end_declares c.args.self.now c.requires.right)
