-- Ids that are new: those of the types of a block, where all of its ids are, and those of an environment with one more
-- declaration, which are distinct.
use Rattle.std.proofs.Common.{◌≡◌, List, [], ◌∷◌, ◌++◌, refl, sym, ap, ◌∙◌, subst, inl, inr, append_assoc}
use Rattle.std.specs.Prelude.{Contains}
use Rattle.std.proofs.lemmas.List.{append-nil}
use Rattle.std.proofs.lemmas.List.Elements.{Contains-append_cases, Contains-append_right}
use Rattle.cic_metatheory.proofs.basics.Elements.{contains_first, contains_rest, contains_cases}
use Rattle.cic_metatheory.proofs.environments.Order.{distinct_parts}
use Rattle.cic_names.specs.declared.name.GlobalId.{GlobalId}
use Rattle.cic_rules.specs.Environment.{Environment, Declaration, TypeDeclaration, Item, declared, constructor_ids, type_ids, bare_ids, declared_ids, item_ids, environment_ids}
use Rattle.cic_rules.specs.Formed.{Distinct}
use Rattle.cic_env.specs.NewIds.{AreNew}

bare_is_declared : (ts : List TypeDeclaration) (id : GlobalId) → Contains (bare_ids ts) id → Contains (type_ids ts) id
bare_is_declared [] id h = h
bare_is_declared (t ∷ ts) id h =
    let others = constructor_ids t.constructors ++ type_ids ts in
    elim (contains_cases t.id id (bare_ids ts) h) [
      | inl e ↦ contains_first t.id id others e
      | inr k ↦ contains_rest t.id id others (Contains-append_right (constructor_ids t.constructors) (type_ids ts) id (bare_is_declared ts id k))
    ]

bare_is_distinct : (ts : List TypeDeclaration) → Distinct (type_ids ts) → Distinct (bare_ids ts)
bare_is_distinct [] d = tt
bare_is_distinct (t ∷ ts) d = (
  λ h. d.0 (Contains-append_right (constructor_ids t.constructors) (type_ids ts) t.id (bare_is_declared ts t.id h)),
  bare_is_distinct ts (distinct_parts (constructor_ids t.constructors) (type_ids ts) d.1).rest,
)

-- The types of a block, without its constructors.
pub types_are_new : (before : List GlobalId) (ts : List TypeDeclaration) → AreNew before (type_ids ts) → AreNew before (bare_ids ts)
types_are_new before ts new = (bare_is_distinct ts new.0, λ id h. new.1 id (bare_is_declared ts id h))

joined : (before ids : List GlobalId) → Distinct before → AreNew before ids → Distinct (before ++ ids)
joined [] ids d new = new.0
joined (x ∷ xs) ids d new = (
  λ has. elim (Contains-append_cases xs ids x has) [
    | inl earlier ↦ d.0 earlier
    | inr later ↦ new.1 x later (contains_first x x xs refl)
  ],
  joined xs ids d.1 (new.0, λ id has there. new.1 id has (contains_rest x id xs there)),
)

ids_of_more : (E : Environment) (item : Item) → environment_ids (E ++ item ∷ []) ≡ environment_ids E ++ item_ids item
ids_of_more [] item = append-nil (item_ids item)
ids_of_more (first ∷ E) item =
    ap (λ (ids : List GlobalId). item_ids first ++ ids) (ids_of_more E item) ∙ sym (append_assoc (item_ids first) (environment_ids E) (item_ids item))

-- One more declaration.
pub distinct_with_declaration : (E : Environment) (d : Declaration) → Distinct (environment_ids E) → AreNew (environment_ids E) (declared_ids d) →
    Distinct (environment_ids (E ++ declared d ∷ []))
distinct_with_declaration E d apart new =
    subst (λ (ids : List GlobalId). Distinct ids) (sym (ids_of_more E (declared d))) (joined (environment_ids E) (declared_ids d) apart new)
