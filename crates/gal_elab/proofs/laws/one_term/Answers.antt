use Rattle.gal_elab.proofs.Determined as determined
use Rattle.gal_elab.proofs.laws.one_term.Goals as goal

pub returns : goal.returns
returns c = λ binders t u h k. determined.one_term h k
