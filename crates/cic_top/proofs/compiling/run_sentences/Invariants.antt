-- What the sentences from the next one on give, all give.
use Rattle.cic_env.specs.Environments.{items}
use Rattle.cic_top.proofs.Sentences.{RestGives}
use Rattle.cic_top.proofs.compiling.run_sentences.Given as goal

abbrev pub invariant-loop-command : goal.invariant-loop-command
invariant-loop-command l = RestGives l.library (items l.initial.env) (items l.env) l.commands l.command-index
