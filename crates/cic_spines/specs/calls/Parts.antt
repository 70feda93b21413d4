-- The parts of a branch of the program.
use Rattle.cic_terms.specs.declared.term.Branch.{Branch}
use Rattle.cic_terms.specs.Denotes.{tree}
use Rattle.cic_rules.specs.Telescopes.{BranchParts}

abbrev pub branch_parts : Branch → BranchParts
branch_parts b = record { binders = b.binders; body = tree b.body }
