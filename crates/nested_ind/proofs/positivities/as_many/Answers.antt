use Rattle.std.proofs.Common.{sym, ◌∙◌}
use Rattle.nested_ind.proofs.Steps.{too_many}
use Rattle.nested_ind.proofs.positivities.as_many.Goals as goal

pub returns-in-App-at : goal.returns-in-App-at
returns-in-App-at c =
    sym (too_many c.loop-left.at.now c.loop-left.left.now c.in-App-at.field-0 c.in-App-at.field-1 c.in-App-at.is c.in_default.not-Prod) ∙ c.loop-left.invariant
