use Rattle.gal_elab.proofs.Resolutions.{settles, empty_levels}
use Rattle.gal_elab.proofs.Determined.{settled_found, settled_only, settled_known, settled_fault, settled_one_name, settled_no_term}
use Rattle.gal_elab.proofs.elaborating.elab_type.Goals as goal

pub returns-clause-found : goal.returns-clause-found
returns-clause-found c = settled_found _ _ _ c.elab.result (settles _ _ _ _ c.elab.result (empty_levels c.new.result c.new.ensures.empty) c.elab.ensures.told)

pub returns-clause-only : goal.returns-clause-only
returns-clause-only c = settled_only _ _ _ c.elab.result (settles _ _ _ _ c.elab.result (empty_levels c.new.result c.new.ensures.empty) c.elab.ensures.told)

pub returns-clause-known : goal.returns-clause-known
returns-clause-known c = settled_known _ _ _ c.elab.result (settles _ _ _ _ c.elab.result (empty_levels c.new.result c.new.ensures.empty) c.elab.ensures.told)

pub returns-clause-fault : goal.returns-clause-fault
returns-clause-fault c = settled_fault _ _ _ c.elab.result (settles _ _ _ _ c.elab.result (empty_levels c.new.result c.new.ensures.empty) c.elab.ensures.told)

pub returns-clause-one_name : goal.returns-clause-one_name
returns-clause-one_name c = settled_one_name _ _ _ c.elab.result (settles _ _ _ _ c.elab.result (empty_levels c.new.result c.new.ensures.empty) c.elab.ensures.told)

pub returns-clause-no_term : goal.returns-clause-no_term
returns-clause-no_term c = settled_no_term _ _ _ c.elab.result (settles _ _ _ _ c.elab.result (empty_levels c.new.result c.new.ensures.empty) c.elab.ensures.told)
