use Rattle.std.proofs.Common.{ap, map, option_map, rules}
use Rattle.section_uses.specs.Kept.{shared_tree}
use Rattle.section_discharge.specs.calls.Binders.{bound}
use Rattle.section_discharge.proofs.Nexts.{body_next}
use Rattle.section_discharge.proofs.table.Table.pass.Goals as goal

pub returns-in-Some : goal.returns-in-Some
returns-in-Some c =
    body_next c.args.self.now c.pass_body.new.self c.args.h.now (map bound c.args.bounds.now.items) (shared_tree c.in-Some.body) c.pass_body.result c.requires.made c.requires.next
    (search rules) (ap (option_map shared_tree) c.in-Some.is) c.pass_body.ensures.ok c.pass_body.ensures.binders c.pass_body.ensures.err
