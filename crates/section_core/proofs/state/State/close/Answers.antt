use Rattle.std.proofs.Common.{refl}
use Rattle.section_core.specs.declared.state.State.{State}
use Rattle.section_core.proofs.Opened.{closed_right, closes, some_layer}
use Rattle.section_core.proofs.state.State.close.Goals as goal

pub returns-clause-right : goal.returns-clause-right
returns-clause-right c =
    let new : State = record { sections = c.pop.new.self; hypotheses = c.truncate.new.self; over = c.leave.new.self } in
    closed_right c.args.self.now c.in-Some.inner c.pop.new.self.items c.in-Some.ensures.items c.requires.right new refl c.truncate.ensures.items c.leave.ensures

pub leave-requires : goal.leave-requires
leave-requires c = some_layer c.args.self.now c.in-Some.inner c.pop.new.self.items c.in-Some.ensures.items c.requires.right

pub returns-clause-closed : goal.returns-clause-closed
returns-clause-closed c =
    let new : State = record { sections = c.pop.new.self; hypotheses = c.truncate.new.self; over = c.leave.new.self } in
    closes c.args.self.now c.in-Some.inner c.pop.new.self.items c.in-Some.ensures.items c.requires.right new refl
