use Rattle.gal_elab.proofs.Determined as determined
use Rattle.gal_elab.proofs.laws.known_or_unknown.Goals as goal

pub returns-clause-either : goal.returns-clause-either
returns-clause-either c = λ binders. determined.known_or_unknown _ _ binders _

pub returns-clause-not_both : goal.returns-clause-not_both
returns-clause-not_both c = λ binders t name h u. determined.not_both h u
