use Rattle.std.proofs.Common.{sym, ◌∙◌, arith}
use Rattle.section_uses.specs.Kept.{shared_tree}
use Rattle.section_discharge.proofs.Nexts.{put_made, no_lift}
use Rattle.section_discharge.proofs.table.Table.standing_body.Goals as goal

pub returns-in-Ok-clause-ok : goal.returns-in-Ok-clause-ok
returns-in-Ok-clause-ok c =
    let table = c.args.self.now in
    (omega arith, sym (no_lift table.binders (shared_tree c.in-Ok.body) ∙ c.in-Ok.ensures.ok ∙ put_made table (shared_tree c.args.body.now) c.requires))
