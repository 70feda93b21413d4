use Rattle.lib_format.proofs.OpaqueLaws.{head_read}
use Rattle.lib_format.proofs.DeclarationLaws.{declaration_read, declarations_read}
use Rattle.lib_format.proofs.ContentsLaws.{summary_read, library_read}
use Rattle.lib_format.proofs.laws.what_is_spelled_is_read.Goals as goal

pub returns-clause-declarations : goal.returns-clause-declarations
returns-clause-declarations c = declaration_read

pub returns-clause-lists : goal.returns-clause-lists
returns-clause-lists c = declarations_read

pub returns-clause-summaries : goal.returns-clause-summaries
returns-clause-summaries c = summary_read

pub returns-clause-libraries : goal.returns-clause-libraries
returns-clause-libraries c = library_read

pub returns-clause-heads : goal.returns-clause-heads
returns-clause-heads c = head_read
