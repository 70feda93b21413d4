use Rattle.std.proofs.Common.{refl}
use Rattle.section_discharge.proofs.Passing.{bound_passed}
use Rattle.section_discharge.proofs.table.Table.pass_bound.Goals as goal

pub returns-clause-ok : goal.returns-clause-ok
returns-clause-ok c =
    bound_passed c.args.self.now _ c.args.h.now c.in_ok-key.key c.requires.table c.requires.next c.requires.bound c.in_ok-key.ensures.ok c.in_ok-insert.ensures.entries refl refl refl refl refl
