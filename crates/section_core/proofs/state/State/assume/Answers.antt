use Rattle.std.proofs.Common.{refl}
use Rattle.section_core.specs.declared.state.State.{State}
use Rattle.section_core.specs.declared.entry.Entry.TheVariants as stored
use Rattle.section_core.proofs.Opened.{PutsIn, sections_put, assumed_right}
use Rattle.section_core.proofs.state.State.assume.Goals as goal

pub returns-clause-right : goal.returns-clause-right
returns-clause-right c =
    let new : State = record { sections = c.push-2.new.self; hypotheses = c.push.new.self; over = c.args.self.now.over } in
    let p : PutsIn (stored.Assumed c.args.h) c.args.self.now new = record {
      inner = c.in-Some.inner;
      changed = c.put.new.self;
      rest = c.pop.new.self.items;
      was = c.in-Some.ensures.items;
      is = c.in_ok-push-2.ensures.items;
      puts = c.in_ok-put.ensures;
    } in
    assumed_right c.args.h c.in_ok-copy.copy c.args.self.now new p c.requires.right c.in_ok-push.ensures.items c.in_ok-copy.ensures refl

pub returns-clause-assumed : goal.returns-clause-assumed
returns-clause-assumed c =
    let new : State = record { sections = c.push-2.new.self; hypotheses = c.push.new.self; over = c.args.self.now.over } in
    let p : PutsIn (stored.Assumed c.args.h) c.args.self.now new = record {
      inner = c.in-Some.inner;
      changed = c.put.new.self;
      rest = c.pop.new.self.items;
      was = c.in-Some.ensures.items;
      is = c.in_ok-push-2.ensures.items;
      puts = c.in_ok-put.ensures;
    } in
    sections_put (stored.Assumed c.args.h) c.args.self.now new p
