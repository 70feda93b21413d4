use Rattle.lib_format.proofs.Stated.{declaration_law, declarations_law, summary_law, library_law, head_law}
use Rattle.lib_format.proofs.laws.what_is_read_is_spelled.Goals as goal

pub returns-clause-declarations : goal.returns-clause-declarations
returns-clause-declarations c = declaration_law

pub returns-clause-lists : goal.returns-clause-lists
returns-clause-lists c = declarations_law

pub returns-clause-summaries : goal.returns-clause-summaries
returns-clause-summaries c = summary_law

pub returns-clause-libraries : goal.returns-clause-libraries
returns-clause-libraries c = library_law

pub returns-clause-heads : goal.returns-clause-heads
returns-clause-heads c = head_law
