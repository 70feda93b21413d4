use Rattle.std.proofs.Common.{◌≡◌, ◌∙◌, sym, ap, subst, List, map}
use Rattle.cic_names.specs.declared.name.GlobalId.{GlobalId}
use Rattle.cic_rules.specs.Formed.{Distinct}
use Rattle.cic_env.specs.Items.{environment, stripped}
use Rattle.cic_env.specs.calls.Places.{places_from}
use Rattle.cic_env.specs.declared.item.Item.{Item}
use Rattle.cic_env.proofs.Cuts.{places-stripped}
use Rattle.cic_env.proofs.DistinctIds.{placed-keys, distinct-stripped_items}
use Rattle.cic_env.proofs.environment.Env.strip.Goals as goal

pub invariant_of-result : goal.invariant_of-result
invariant_of-result c =
    let E = environment c.args.self.now.kept.items in
    let made : environment c.in_ok-kept.kept.items ≡ map stripped E =
    c.in_ok-kept.ensures ∙ ap (λ (l : List Item). map stripped (environment l)) c.as_slice.ensures.value in
    record {
      placed = c.in_ok-places.ensures ∙ c.args.self.now.placed ∙ sym (places-stripped 0 E) ∙ ap (places_from 0) (sym made);
      distinct = distinct-stripped_items E (environment c.in_ok-kept.kept.items) made c.args.self.now.distinct;
    }

pub copied_places-requires : goal.copied_places-requires
copied_places-requires c =
    subst (λ (ids : List GlobalId). Distinct ids) (sym (placed-keys c.args.self.now.places.entries (environment c.args.self.now.kept.items) c.args.self.now.placed)) c.args.self.now.distinct
