use Rattle.lib_format.proofs.Shown.{levels_shown}
use Rattle.lib_format.proofs.examples.other_defects.Goals as goal

pub returns-clause-level_twice : goal.returns-clause-level_twice
returns-clause-level_twice c = levels_shown
