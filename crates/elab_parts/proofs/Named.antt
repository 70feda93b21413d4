-- Names that stand for nothing, or for something declared.
use Rattle.std.proofs.Common.{◌≡◌, ap, ◌∙◌}
use Rattle.std.specs.Prelude.{Option, None, Ok}
use Rattle.cic_names.specs.declared.name.GlobalId.{GlobalId}
use Rattle.cic_rules.specs.Environment.{Meaning, meaning}
use Rattle.gal_grammar.specs.Terms.{Qual}
use Rattle.gal_scoping.specs.Readings.{after}
use Rattle.gal_scoping.specs.Names.{Place, written, global_id, of_meaning, outside_binders}

pub found_outside : (place : Place) (x : Qual) (id : GlobalId) (m : Option Meaning) → global_id place.scope x ≡ Ok id → meaning place.environment id ≡ m →
    outside_binders place x None ≡ of_meaning (written x) id m
found_outside place x id m found means =
    ap (λ r. after r (λ id. of_meaning (written x) id (meaning place.environment id))) found ∙ ap (of_meaning (written x) id) means
