use Rattle.std.proofs.Common.{◌+◌, ◌-◌, ◌<◌, ap, ◌∙◌, arith}
use Rattle.cic_rules.specs.Telescopes.{apply, variables}
use Rattle.cic_spines.specs.Lists.{shared_tree}
use Rattle.typing_parts.proofs.Applications.{next_variable}
use Rattle.typing_parts.proofs.instances.apply_variables.Goals as goal

pub loop-passed-preserved : goal.loop-passed-preserved
loop-passed-preserved c =
    let i = c.loop-passed.passed in
    let h : i < c.args.count = omega arith in
    ap (λ f. apply f (variables (c.args.count - (i + 1)))) c.in_ok-applied.ensures
    ∙ next_variable (shared_tree c.loop-passed.applied) c.args.count i h
    ∙ c.loop-passed.invariant
