-- The number of the level is that in what is left.
use Rattle.std.proofs.Common.{◌≡◌, drop}
use Rattle.cic_names.specs.declared.level.Level.TheVariants.{Named}
use Rattle.cic_rules.specs.Numbering.{level_number}
use Rattle.univ_cycles.specs.Numbers.{numbering}
use Rattle.univ_cycles.proofs.numbers.named_number.Given as goal

abbrev pub invariant-loop-entry : goal.invariant-loop-entry
invariant-loop-entry l = level_number (numbering l.numbers) (Named l.name) ≡ level_number (numbering (drop l.entry-index l.numbers)) (Named l.name)
