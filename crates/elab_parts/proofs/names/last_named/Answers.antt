use Rattle.std.proofs.Common.{sym, ◌∙◌}
use Rattle.std.specs.Prelude.{None}
use Rattle.std.specs.Option.{option_copied}
use Rattle.elab_parts.proofs.Functioning.{last_found, last_passed}
use Rattle.elab_parts.proofs.names.last_named.Goals as goal
use Rattle.elab_parts.proofs.names.last_named.Goals.{then-has_name, else-has_name}

pub loop-place-preserved : goal.loop-place-preserved
loop-place-preserved c =
    elim c.if-has_name.branch [
      | then-has_name w ↦ w.found-is ∙ sym (last_found option_copied c.args.name.now c.args.names.now c.loop-place.place None c.loop-place-test.true (sym c.has_name.ensures ∙ w.if-has_name.true))
      | else-has_name w ↦ w.found-is ∙ c.loop-place.invariant
          ∙ sym (last_passed option_copied c.args.name.now c.args.names.now c.loop-place.place None c.loop-place-test.true (sym c.has_name.ensures ∙ w.if-has_name.false))
    ]
