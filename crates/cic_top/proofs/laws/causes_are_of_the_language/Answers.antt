use Rattle.cic_top.proofs.language.Causes.{refused_for_cause_of_language}
use Rattle.cic_top.proofs.laws.causes_are_of_the_language.Goals as goal

pub returns : goal.returns
returns c = refused_for_cause_of_language
