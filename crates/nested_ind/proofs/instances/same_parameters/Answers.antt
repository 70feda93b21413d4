use Rattle.std.proofs.Common.{◌<◌, length, sym, ap, ap₂, ◌∙◌, arith}
use Rattle.cic_terms.specs.Denotes.{tree}
use Rattle.cic_counted.specs.Sameness.{same_tree}
use Rattle.cic_positivity.proofs.ShapeLemmas.{same_tree_from}
use Rattle.nested_ind.proofs.Alike.{next_parameters, first_same, first_differs}
use Rattle.nested_ind.proofs.instances.same_parameters.Goals as goal

pub returns-then-not-same : goal.returns-then-not-same
returns-then-not-same c =
    let x = c.index-some-i.result in
    let y = c.index-other-i.result in
    let other : c.loop-i.i < length c.args.other.now = omega arith in
    let told = same_tree_from c.same.result (tree c.deref.result.now) (tree c.deref-in-loop-i.result.now) c.same.ensures ∙ ap₂ same_tree (ap tree c.deref.ensures) (ap tree c.deref-in-loop-i.ensures) in
    first_differs (same_tree (tree x.value) (tree y.value)) _ _ (sym told ∙ c.if-not-same.true)
    (sym (next_parameters c.args.some.now c.args.other.now c.loop-i.i x y c.loop-i-test.true c.index-some-i.is other c.index-other-i.is) ∙ c.loop-i.invariant)

pub loop-i-preserved : goal.loop-i-preserved
loop-i-preserved c =
    let x = c.index-some-i.result in
    let y = c.index-other-i.result in
    let other : c.loop-i.i < length c.args.other.now = omega arith in
    let told = same_tree_from c.same.result (tree c.deref.result.now) (tree c.deref-in-loop-i.result.now) c.same.ensures ∙ ap₂ same_tree (ap tree c.deref.ensures) (ap tree c.deref-in-loop-i.ensures) in
    first_same (same_tree (tree x.value) (tree y.value)) _ _ (sym told ∙ c.if-not-same.false)
    (sym (next_parameters c.args.some.now c.args.other.now c.loop-i.i x y c.loop-i-test.true c.index-some-i.is other c.index-other-i.is) ∙ c.loop-i.invariant)
