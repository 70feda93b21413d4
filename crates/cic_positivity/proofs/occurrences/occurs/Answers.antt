use Rattle.std.proofs.Common.{◌+◌, ◌≤◌, length, drop, sym, ap, ◌∙◌, true≢false, arith}
use Rattle.cic_terms.specs.Denotes.{tree}
use Rattle.cic_terms.proofs.Children.{drop_at, drop_whole}
use Rattle.cic_counted.specs.BlockTests.{occurs}
use Rattle.cic_positivity.specs.calls.Parts.{ids_of}
use Rattle.cic_positivity.proofs.OccurringIds.{occurs_none, occurs_here, occurs_else}
use Rattle.cic_positivity.proofs.occurrences.occurs.Goals as goal

pub returns-then-mentions : goal.returns-then-mentions
returns-then-mentions c =
    let at = drop_at c.args.types.now c.loop-ty.ty-index c.ty-item.result c.loop-ty-test.true c.ty-item.is in
    let rest = ids_of (drop (c.loop-ty.ty-index + 1) c.args.types.now) in
    sym (ap (λ l. occurs (ids_of l) (tree c.args.t.now)) at ∙ occurs_here c.ty-item.result.id rest (tree c.args.t.now) (c.mentions.ensures.0 c.if-mentions.true))
    ∙ c.loop-ty.invariant

pub loop-ty-preserved : goal.loop-ty-preserved
loop-ty-preserved c =
    let at = drop_at c.args.types.now c.loop-ty.ty-index c.ty-item.result c.loop-ty-test.true c.ty-item.is in
    let rest = ids_of (drop (c.loop-ty.ty-index + 1) c.args.types.now) in
    sym (ap (λ l. occurs (ids_of l) (tree c.args.t.now)) at ∙ occurs_else c.ty-item.result.id rest (tree c.args.t.now) (λ h. true≢false (sym (c.mentions.ensures.1 h) ∙ c.if-mentions.false)))
    ∙ c.loop-ty.invariant

pub returns : goal.returns
returns c =
    let past : length c.args.types.now ≤ c.loop-ty.ty-index = omega arith in
    sym (ap (λ l. occurs (ids_of l) (tree c.args.t.now)) (drop_whole c.args.types.now c.loop-ty.ty-index past) ∙ occurs_none (tree c.args.t.now))
    ∙ c.loop-ty.invariant
