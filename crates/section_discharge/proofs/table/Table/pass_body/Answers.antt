use Rattle.std.proofs.Common.{refl}
use Rattle.section_uses.specs.Kept.{shared_tree}
use Rattle.section_discharge.proofs.Passing.{body_passed}
use Rattle.section_discharge.proofs.table.Table.pass_body.Goals as goal

pub returns-clause-ok : goal.returns-clause-ok
returns-clause-ok c =
    body_passed c.args.self.now _ c.args.h.now c.in_ok-key.key (shared_tree c.args.body.now) c.in_ok-standing.standing c.requires.table c.requires.next c.requires.gives_way c.requires.body c.in_ok-key.ensures.ok
    c.in_ok-standing.ensures.ok c.in_ok-insert.ensures.entries refl refl refl refl refl
