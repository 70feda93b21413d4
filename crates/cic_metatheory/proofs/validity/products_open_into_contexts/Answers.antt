-- That a context stays well formed under the domains is the lemma itself: the search does not see it, since
-- well-formedness computes.
use Rattle.cic_metatheory.proofs.typings.Instances.{opened_well_formed}
use Rattle.cic_metatheory.proofs.validity.products_open_into_contexts.Goals as goal

pub returns-clause-well_formed : goal.returns-clause-well_formed
returns-clause-well_formed c = λ E N G domains t h w. opened_well_formed E N G domains t h w
