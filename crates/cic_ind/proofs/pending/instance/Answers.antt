use Rattle.std.proofs.Common.{◌+◌, drop, sym, ap, ◌∙◌, arith}
use Rattle.cic_terms.specs.Denotes.{tree}
use Rattle.cic_counted.specs.Readings.{instantiate}
use Rattle.cic_spines.specs.Lists.{shared_trees}
use Rattle.cic_ind.specs.calls.Pending.{begun_tree}
use Rattle.cic_ind.proofs.Codomains.{none_put_in, not_instantiated, one_instantiated}
use Rattle.cic_ind.proofs.pending.instance.Goals as goal

pub loop-i-init : goal.loop-i-init
loop-i-init c = (omega arith, ap (instantiate (shared_trees c.args.parameters.now)) (none_put_in (tree c.args.ty.now)))

pub returns-in_default : goal.returns-in_default
returns-in_default c =
    let us = shared_trees (drop c.loop-i.i c.args.parameters.now) in
    let t = begun_tree c.args.parameters.now c.loop-i.begin c.loop-i.i c.loop-i.at.now in
    sym (not_instantiated us t c.in_default.ensures.none) ∙ c.loop-i.invariant.1

pub loop-i-preserved : goal.loop-i-preserved
loop-i-preserved c =
    let us = shared_trees (drop (c.loop-i.i + 1) c.args.parameters.now) in
    let t = begun_tree c.args.parameters.now c.loop-i.begin c.loop-i.i c.loop-i.at.now in (
      omega (arith, c.in-Some.ensures.begin),
      ap (instantiate us) c.in-Some.ensures.some ∙ sym (one_instantiated c.args.parameters.now c.loop-i.i t c.loop-i-test.true) ∙ c.loop-i.invariant.1,
    )
