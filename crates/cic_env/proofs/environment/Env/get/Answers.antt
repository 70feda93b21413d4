use Rattle.std.proofs.Common.{◌≡◌, ◌∙◌, sym, ap, arith, ◌-◌, ◌<◌, List, [], length, slice_index_or}
use Rattle.std.specs.Prelude.{Some, None}
use Rattle.std.proofs.lemmas.List.{length-map, get_or-map}
use Rattle.cic_rules.specs.Environment.{Item, declared, inductive}
use Rattle.cic_env.specs.Items.{environment, as_item}
use Rattle.cic_env.specs.calls.Places.{Named, places_from, stands_at}
use Rattle.cic_env.proofs.Lookups.{place_of, place-found, place-absent}
use Rattle.cic_env.proofs.environment.Env.get.Goals as goal

none : Item
none = declared (inductive (record { parameters = 0; types = [] }))

pub index-requires : goal.index-requires
index-requires c =
    let kept = c.args.self.now.kept.items in
    let place = c.in-Some.place.now in
    let at : place_of c.args.id.now (places_from 0 (environment kept)) ≡ Some place =
    ap (λ (es : List Named). place_of c.args.id.now es) (sym c.args.self.now.placed) ∙ sym c.in-Some.ensures.value in
    let found = place-found 0 (environment kept) c.args.id.now place none at in
    omega (arith, found.within, length-map kept as_item)

pub returns-in-Some-clause-whose : goal.returns-in-Some-clause-whose
returns-in-Some-clause-whose c =
    let kept = c.args.self.now.kept.items in
    let place = c.in-Some.place.now in
    let at : place_of c.args.id.now (places_from 0 (environment kept)) ≡ Some place =
    ap (λ (es : List Named). place_of c.args.id.now es) (sym c.args.self.now.placed) ∙ sym c.in-Some.ensures.value in
    let found = place-found 0 (environment kept) c.args.id.now place none at in
    let z : place.item - 0 ≡ place.item = omega arith in
    let within : place.item < length kept = omega (arith, found.within, length-map kept as_item) in
    let item : slice_index_or (environment kept) (place.item - 0) none ≡ as_item c.index.result.now =
    ap (λ k. slice_index_or (environment kept) k none) z ∙ get_or-map as_item kept place.item c.index.result.now none within ∙ ap as_item (sym c.index.ensures) in
    ap Some (c.entry_at.ensures.whose ∙ sym item) ∙ sym found.whose

pub returns-in-Some-clause-means : goal.returns-in-Some-clause-means
returns-in-Some-clause-means c =
    let kept = c.args.self.now.kept.items in
    let place = c.in-Some.place.now in
    let at : place_of c.args.id.now (places_from 0 (environment kept)) ≡ Some place =
    ap (λ (es : List Named). place_of c.args.id.now es) (sym c.args.self.now.placed) ∙ sym c.in-Some.ensures.value in
    let found = place-found 0 (environment kept) c.args.id.now place none at in
    let z : place.item - 0 ≡ place.item = omega arith in
    let within : place.item < length kept = omega (arith, found.within, length-map kept as_item) in
    let item : slice_index_or (environment kept) (place.item - 0) none ≡ as_item c.index.result.now =
    ap (λ k. slice_index_or (environment kept) k none) z ∙ get_or-map as_item kept place.item c.index.result.now none within ∙ ap as_item (sym c.index.ensures) in
    c.entry_at.ensures.means ∙ ap (λ (i : Item). stands_at i place) (sym item) ∙ sym found.means

pub returns-in-None-clause-whose : goal.returns-in-None-clause-whose
returns-in-None-clause-whose c =
    let at : place_of c.args.id.now (places_from 0 (environment c.args.self.now.kept.items)) ≡ None =
    ap (λ (es : List Named). place_of c.args.id.now es) (sym c.args.self.now.placed) ∙ sym c.in-None.ensures.value in
    sym (place-absent 0 (environment c.args.self.now.kept.items) c.args.id.now at).1

pub returns-in-None-clause-means : goal.returns-in-None-clause-means
returns-in-None-clause-means c =
    let at : place_of c.args.id.now (places_from 0 (environment c.args.self.now.kept.items)) ≡ None =
    ap (λ (es : List Named). place_of c.args.id.now es) (sym c.args.self.now.placed) ∙ sym c.in-None.ensures.value in
    sym (place-absent 0 (environment c.args.self.now.kept.items) c.args.id.now at).0
