use Rattle.lib_format.proofs.OpaqueLaws.{heads_stop}
use Rattle.lib_format.proofs.Stated.{declarations_stop, summaries_stop, libraries_stop}
use Rattle.lib_format.proofs.laws.no_spelling_goes_on.Goals as goal

pub returns-clause-declarations : goal.returns-clause-declarations
returns-clause-declarations c = declarations_stop

pub returns-clause-summaries : goal.returns-clause-summaries
returns-clause-summaries c = summaries_stop

pub returns-clause-libraries : goal.returns-clause-libraries
returns-clause-libraries c = libraries_stop

pub returns-clause-opaques : goal.returns-clause-opaques
returns-clause-opaques c = heads_stop
