use Rattle.std.proofs.Common.{sym, ◌∙◌}
use Rattle.std.specs.Prelude.{None}
use Rattle.std.specs.Option.{option_copied}
use Rattle.elab_parts.proofs.Binders.{name_at, here_named, not_here}
use Rattle.elab_parts.proofs.around.Around.variable.Goals as goal

pub returns-then-has_name : goal.returns-then-has_name
returns-then-has_name c =
    let at = name_at option_copied c.as_slice-names.result.now c.loop-place.place None c.loop-place-test.true in
    sym (c.loop-place.invariant ∙ here_named _ _ c.args.name.now c.loop-place.place _ (rw c.as_slice-names.ensures.value at at) (rw c.as_slice-names.ensures.value at (sym c.has_name.ensures ∙ c.if-has_name.true)))

pub loop-place-preserved : goal.loop-place-preserved
loop-place-preserved c =
    let at = name_at option_copied c.as_slice-names.result.now c.loop-place.place None c.loop-place-test.true in
    c.loop-place.invariant ∙ not_here _ _ c.args.name.now c.loop-place.place _ (rw c.as_slice-names.ensures.value at at) (rw c.as_slice-names.ensures.value at (sym c.has_name.ensures ∙ c.if-has_name.false))
