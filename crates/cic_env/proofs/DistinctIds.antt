-- The ids of the items that are kept are distinct.
use Rattle.std.proofs.Common.{◌≡◌, ℕ, zero, suc, inl, inr, List, [], ◌∷◌, ◌++◌, map, take, drop, refl, sym, ap, subst, ◌∙◌, append_assoc}
use Rattle.std.specs.Map.{keys_of}
use Rattle.std.proofs.lemmas.List.{append-nil, map-append, take-map}
use Rattle.std.proofs.lemmas.List.Elements.{Contains-append_cases, Contains-append_left}
use Rattle.cic_names.specs.declared.name.GlobalId.{GlobalId}
use Rattle.cic_rules.specs.Environment.{Environment, Item, item_ids, environment_ids}
use Rattle.cic_rules.specs.Formed.{Distinct}
use Rattle.cic_env.specs.Items.{as_item, stripped, environment}
use Rattle.cic_env.specs.NewIds.{AreNew}
use Rattle.cic_env.specs.calls.Places.{Named, places_from}
use Rattle.cic_env.specs.declared.item.Item.{Item as Kept}
use Rattle.cic_env.proofs.Lookups.{environment-keys}
use Rattle.cic_env.proofs.Newness.{contains_here, contains_later}
use Rattle.cic_env.proofs.Cuts.{places-stripped}

-- The keys of the table are the ids.
pub placed-keys : (es : List Named) (E : Environment) → es ≡ places_from 0 E → keys_of es ≡ environment_ids E
placed-keys es E placed = ap (λ (l : List Named). keys_of l) placed ∙ environment-keys 0 E

distinct-join : (before ids : List GlobalId) → Distinct before → AreNew before ids → Distinct (before ++ ids)
distinct-join [] ids d new = new.0
distinct-join (x ∷ xs) ids d new = (
  λ has. elim (Contains-append_cases xs ids x has) [
    | inl earlier ↦ d.0 earlier
    | inr later ↦ new.1 x later (contains_here x xs)
  ],
  distinct-join xs ids d.1 (new.0, λ id has there. new.1 id has (contains_later x id xs there)),
)

distinct-front : (xs ys : List GlobalId) → Distinct (xs ++ ys) → Distinct xs
distinct-front [] ys d = tt
distinct-front (x ∷ xs) ys d = (λ has. d.0 (Contains-append_left xs ys x has), distinct-front xs ys d.1)

ids-append : (E : Environment) (item : Item) → environment_ids (E ++ item ∷ []) ≡ environment_ids E ++ item_ids item
ids-append [] item = append-nil (item_ids item)
ids-append (first ∷ E) item =
    ap (λ (ids : List GlobalId). item_ids first ++ ids) (ids-append E item) ∙ sym (append_assoc (item_ids first) (environment_ids E) (item_ids item))

ids-split : (len : ℕ) (E : Environment) → environment_ids E ≡ environment_ids (take len E) ++ environment_ids (drop len E)
ids-split zero E = refl
ids-split (suc len) [] = refl
ids-split (suc len) (item ∷ E) =
    ap (λ (ids : List GlobalId). item_ids item ++ ids) (ids-split len E) ∙ sym (append_assoc (item_ids item) (environment_ids (take len E)) (environment_ids (drop len E)))

-- One more item, whose ids are new.
pub distinct-more_items : (kept all : List Kept) (item : Kept) → all ≡ kept ++ item ∷ [] → Distinct (environment_ids (environment kept)) →
    AreNew (environment_ids (environment kept)) (item_ids (as_item item)) → Distinct (environment_ids (environment all))
distinct-more_items kept all item more d new =
    let ids : environment_ids (environment all) ≡ environment_ids (environment kept) ++ item_ids (as_item item) =
    ap (λ (l : List Kept). environment_ids (environment l)) more ∙ ap (λ (E : Environment). environment_ids E) (map-append as_item kept (item ∷ []))
    ∙ ids-append (environment kept) (as_item item) in
    subst (λ (l : List GlobalId). Distinct l) (sym ids) (distinct-join (environment_ids (environment kept)) (item_ids (as_item item)) d new)

-- The first items.
pub distinct-first_items : (len : ℕ) (kept first : List Kept) → first ≡ take len kept → Distinct (environment_ids (environment kept)) →
    Distinct (environment_ids (environment first))
distinct-first_items len kept first is d =
    let items : environment first ≡ take len (environment kept) = ap (λ (l : List Kept). environment l) is ∙ sym (take-map as_item len kept) in
    let E = environment kept in
    subst (λ (F : Environment). Distinct (environment_ids F)) (sym items)
    (distinct-front (environment_ids (take len E)) (environment_ids (drop len E)) (subst (λ (l : List GlobalId). Distinct l) (ids-split len E) d))

-- The items without opaque bodies.
pub distinct-stripped_items : (E F : Environment) → F ≡ map stripped E → Distinct (environment_ids E) → Distinct (environment_ids F)
distinct-stripped_items E F is d =
    let ids : environment_ids (map stripped E) ≡ environment_ids E = sym (environment-keys 0 (map stripped E)) ∙ placed-keys (places_from 0 (map stripped E)) E (places-stripped 0 E) in
    subst (λ (l : List GlobalId). Distinct l) (sym (ap (λ (G : Environment). environment_ids G) is ∙ ids)) d
