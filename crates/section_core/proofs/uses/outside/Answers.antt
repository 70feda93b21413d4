use Rattle.std.proofs.Common.{Some, Option, ap, sym, ◌∙◌}
use Rattle.std.specs.Option.{option_map}
use Rattle.section_terms.specs.Hypotheses.{Hypothesis}
use Rattle.section_core.specs.calls.Names.{id_of}
use Rattle.section_core.proofs.Outsiders.{seen_are, outside_here, outside_later, outside_none}
use Rattle.section_core.proofs.uses.outside.Goals as goal

pub loop-h-preserved : goal.loop-h-preserved
loop-h-preserved c =
    let seen = seen_are c.args.ids.now c.new-seen.result c.see_all.new.self c.h-item.result.id c.new-seen.ensures c.in_ok-see_all.ensures in
    outside_later c.args.ids.now c.args.hypotheses.now c.loop-h.h-index c.h-item.result _ c.loop-h-test.true c.h-item.is
    (sym seen ∙ sym c.has.ensures ∙ c.if-not-has.false) c.loop-h.invariant

pub returns : goal.returns
returns c =
    ap (λ (o : Option Hypothesis). option_map id_of o)
    (outside_none c.args.ids.now c.args.hypotheses.now c.loop-h.h-index _ c.loop-h-test.false c.loop-h.invariant)

pub returns-then-not-has : goal.returns-then-not-has
returns-then-not-has c =
    let seen = seen_are c.args.ids.now c.new-seen.result c.see_all.new.self c.h-item.result.id c.new-seen.ensures c.in_ok-see_all.ensures in
    ap Some c.in_ok-copied_id.ensures
    ∙ ap (λ (o : Option Hypothesis). option_map id_of o)
    (outside_here c.args.ids.now c.args.hypotheses.now c.loop-h.h-index c.h-item.result _ c.loop-h-test.true c.h-item.is
    (sym seen ∙ sym c.has.ensures ∙ c.if-not-has.true) c.loop-h.invariant)
