use Rattle.std.proofs.Common.{◌≡◌, length, ap, arith}
use Rattle.cic_counted.specs.Readings.{arguments_of}
use Rattle.cic_terms.specs.Denotes.{tree}
use Rattle.cic_spines.proofs.Rows.{no_arguments}
use Rattle.cic_spines.proofs.applications.argument_count.Goals as goal

pub returns : goal.returns
returns c =
    let none : length (arguments_of (tree c.loop-at.at.now)) ≡ 0 = ap length (no_arguments c.loop-at.at.now c.in_default.not-App) in
    let small = c.loop-at.invariant.0 in
    let counted = c.loop-at.invariant.1 in
    omega (arith, none, small, counted)
