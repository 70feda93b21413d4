use Rattle.section_core.specs.declared.state.State.{State}
use Rattle.section_core.proofs.Opened.{entered_right, entered}
use Rattle.std.proofs.Common.{refl, ◌∙◌}
use Rattle.section_core.proofs.state.State.enter.Goals as goal

pub returns-clause-right : goal.returns-clause-right
returns-clause-right c =
    let new : State = record { sections = c.push.new.self; hypotheses = c.args.self.now.hypotheses; over = c.enter.new.self } in
    entered_right c.args.self.now new _ c.requires c.in_ok-push.ensures.items c.new-entries.ensures.items (c.len-start.ensures ∙ c.args.self.now.hypotheses.ok.0) refl c.in_ok-enter.ensures

pub returns-clause-entered : goal.returns-clause-entered
returns-clause-entered c =
    let new : State = record { sections = c.push.new.self; hypotheses = c.args.self.now.hypotheses; over = c.enter.new.self } in
    entered c.args.self.now new _ c.args.name c.in_ok-push.ensures.items c.new-entries.ensures.items refl
