use Rattle.std.proofs.Common.{◌≡◌, IfOk, subst}
use Rattle.cic_env.specs.Environments.{items}
use Rattle.cic_positivity.specs.Faults.{positivity_fault_in}
use Rattle.nested_ind.proofs.Steps.{fault_is_nested}
use Rattle.nested_ind.proofs.faults.nested.Goals as goal

pub returns : goal.returns
returns c =
    subst (λ want. IfOk c.fault_of_types.result (λ p. positivity_fault_in p ≡ want))
    (fault_is_nested (items c.args.env.now) c.args.b.now c.as_slice-types.result.now c.as_slice-types.ensures.value)
    c.fault_of_types.ensures
