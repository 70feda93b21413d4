use Rattle.lib_format.proofs.Shown.{axiom_shown, numbers_shown}
use Rattle.lib_format.proofs.examples.declarations_read.Goals as goal

pub returns-clause-axiom : goal.returns-clause-axiom
returns-clause-axiom c = axiom_shown

pub returns-clause-block : goal.returns-clause-block
returns-clause-block c = numbers_shown
