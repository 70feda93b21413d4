use Rattle.name_scope.proofs.AgreementLaws.{same_global, same_level_named, brings_on}
use Rattle.name_scope.proofs.laws.kept_stands_for_all.Goals as goal

pub returns-clause-ids : goal.returns-clause-ids
returns-clause-ids c = λ all kept alike x. same_global all kept alike x

pub returns-clause-levels : goal.returns-clause-levels
returns-clause-levels c = λ all kept alike x. same_level_named all kept alike x

pub returns-clause-brings : goal.returns-clause-brings
returns-clause-brings c = λ all kept after id alike more. brings_on all kept after id alike more
