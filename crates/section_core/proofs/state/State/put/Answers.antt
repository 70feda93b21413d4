use Rattle.std.proofs.Common.{[], ◌∷◌, refl, ap, ◌∙◌}
use Rattle.cic_env.specs.Declarations.{declaration}
use Rattle.section_core.specs.Sections.{Entry, into_innermost}
use Rattle.section_core.specs.calls.Names.{allowed}
use Rattle.section_core.specs.calls.States.{sections_of}
use Rattle.section_core.specs.declared.state.State.{State}
use Rattle.section_core.proofs.Opened.{PutsIn, sections_put, added_right, added_is, start_within, some_layer}
use Rattle.section_core.proofs.state.State.put.Goals as goal

pub own_uses-requires : goal.own_uses-requires
own_uses-requires c = start_within c.args.self.now c.in-Some.inner c.pop.new.self.items c.in-Some.ensures.items c.requires.right

pub put_over-requires : goal.put_over-requires
put_over-requires c = some_layer c.args.self.now c.in-Some.inner c.pop.new.self.items c.in-Some.ensures.items c.requires.right

pub returns-clause-right : goal.returns-clause-right
returns-clause-right c =
    let new : State = record { sections = c.push.new.self; hypotheses = c.args.self.now.hypotheses; over = c.put_over.new.over } in
    let p : PutsIn c.in_ok-entry.entry c.args.self.now new = record {
      inner = c.in-Some.inner;
      changed = c.put.new.self;
      rest = c.pop.new.self.items;
      was = c.in-Some.ensures.items;
      is = c.in_ok-push.ensures.items;
      puts = c.in_ok-put.ensures;
    } in
    added_right c.in_ok-entry.entry (declaration c.args.decl.now) (allowed c.args.usage.now) _ _ c.args.self.now new p c.requires.right c.in_ok-entry.ensures refl
    c.requires.declares c.requires.uses c.in_ok-own.ensures c.in_ok-put_over.ensures

pub returns-clause-added : goal.returns-clause-added
returns-clause-added c =
    let new : State = record { sections = c.push.new.self; hypotheses = c.args.self.now.hypotheses; over = c.put_over.new.over } in
    let p : PutsIn c.in_ok-entry.entry c.args.self.now new = record {
      inner = c.in-Some.inner;
      changed = c.put.new.self;
      rest = c.pop.new.self.items;
      was = c.in-Some.ensures.items;
      is = c.in_ok-push.ensures.items;
      puts = c.in_ok-put.ensures;
    } in
    sections_put c.in_ok-entry.entry c.args.self.now new p
    ∙ ap (λ (e : Entry). into_innermost (sections_of c.args.self.now) (e ∷ [])) (added_is c.in_ok-entry.entry _ _ _ c.in_ok-entry.ensures)
