use Rattle.std.proofs.Common.{◌∙◌, sym, ap, List}
use Rattle.std.proofs.lemmas.List.{take-map}
use Rattle.cic_env.specs.Items.{environment, as_item}
use Rattle.cic_env.specs.calls.Places.{places_from}
use Rattle.cic_env.specs.declared.item.Item.{Item}
use Rattle.cic_env.proofs.Cuts.{cut-places}
use Rattle.cic_env.proofs.DistinctIds.{distinct-first_items}
use Rattle.cic_env.proofs.environment.Env.cut.Goals as goal

pub invariant_of-self : goal.invariant_of-self
invariant_of-self c =
    let kept = c.args.self.now.kept.items in
    let count = c.count_before-count.result in
    let cut = cut-places c.args.len count c.args.self.now.places.entries (environment kept) c.args.self.now.placed
    c.count_before-count.ensures.within c.count_before-count.ensures.later c.count_before-count.ensures.last in
    record {
      placed = c.truncate.ensures.entries ∙ cut ∙ ap (places_from 0) (take-map as_item c.args.len kept)
          ∙ ap (λ (l : List Item). places_from 0 (environment l)) (sym c.truncate-2.ensures.items);
      distinct = distinct-first_items c.args.len kept _ c.truncate-2.ensures.items c.args.self.now.distinct;
    }

pub returns : goal.returns
returns c =
    ap (λ (l : List Item). environment l) c.truncate-2.ensures.items ∙ sym (take-map as_item c.args.len c.args.self.now.kept.items)
