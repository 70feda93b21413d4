use Rattle.lib_format.proofs.OpaqueLaws.{heads_differ}
use Rattle.lib_format.proofs.Stated.{declarations_differ, summaries_differ, libraries_differ}
use Rattle.lib_format.proofs.laws.one_value.Goals as goal

pub returns-clause-declarations : goal.returns-clause-declarations
returns-clause-declarations c = declarations_differ

pub returns-clause-summaries : goal.returns-clause-summaries
returns-clause-summaries c = summaries_differ

pub returns-clause-libraries : goal.returns-clause-libraries
returns-clause-libraries c = libraries_differ

pub returns-clause-opaques : goal.returns-clause-opaques
returns-clause-opaques c = heads_differ
