-- What a block makes of an id comes from one place in it: a type, or a constructor of a type. Where no id is
-- declared twice, the id of each place stands for that place, so what a block shows of an id can be read off it.
use Rattle.std.proofs.Common.{◌≡◌, inl, inr, ℕ, zero, suc, ◌+◌, if◌then◌else◌, Option, Some, None, List, [], ◌∷◌, ◌++◌, refl, sym, ap, ◌∙◌, subst, arith, Contains}
use Rattle.std.proofs.lemmas.List.Elements.{Contains-append_left, Contains-append_right}
use Rattle.std.proofs.lemmas.List.Sorted.{IsPermutation-append_comm}
use Rattle.cic_names.specs.declared.name.GlobalId.{GlobalId}
use Rattle.cic_rules.specs.Environment.{Environment, Block, TypeDeclaration, ConstructorDeclaration, Item, constructor_ids, type_ids, item_ids, environment_ids, Meaning, whole_type, bare_type, constructor, or_else, where_same, constructor_meaning, type_meaning, bare_meaning, item_meaning, meaning, element}
use Rattle.cic_rules.specs.Formed.{Distinct}
use Rattle.cic_names.proofs.Equality.{same_id_decides}
use Rattle.cic_metatheory.proofs.environments.Order.{meaning_in_any_order, or_else_cases, where_same_says, distinct_parts}
use Rattle.cic_metatheory.proofs.basics.Options.{some_inj, some_is_not_none}
use Rattle.cic_metatheory.proofs.basics.Elements.{contains_first, contains_rest}

-- Where an id stands in a block: as that of a type, and as that of a constructor.
pub record IsTypeAt (ts : List TypeDeclaration) (id : GlobalId) (i : ℕ) : Type 0 where
  pub type : TypeDeclaration
  pub stands : element ts i ≡ Some type
  pub named : type.id ≡ id

pub record IsConstructorAt (ts : List TypeDeclaration) (id : GlobalId) (i place : ℕ) : Type 0 where
  pub type : TypeDeclaration
  pub stands : element ts i ≡ Some type
  pub its : ConstructorDeclaration
  pub at_place : element type.constructors place ≡ Some its
  pub named : its.id ≡ id

-- Answers of a lookup
skips : {A : Type 0} (a b : Option A) → ((m : A) → a ≡ Some m → ⊥) → or_else a b ≡ b
skips None b h = refl
skips (Some m) b h = absurd (h m refl)

where_same_itself : (id : GlobalId) (m : Meaning) → where_same id id m ≡ Some m
where_same_itself id m = ap (λ test. if test then Some m else None) ((same_id_decides id id).1 refl)

-- What a block makes of an id
constructor_says : (block : Block) (index place : ℕ) (cs : List ConstructorDeclaration) (id : GlobalId) (m : Meaning) → constructor_meaning block index place cs id ≡ Some m →
    (p : ℕ) × (c : ConstructorDeclaration) × (element cs p ≡ Some c) × (c.id ≡ id) × (m ≡ constructor block index (place + p))
constructor_says block index place [] id m e = some_is_not_none e
constructor_says block index place (c ∷ cs) id m e =
    elim (or_else_cases (where_same c.id id (constructor block index place)) (constructor_meaning block index (place + 1) cs id) m e) [
      | inl h ↦
          let p = where_same_says c.id id (constructor block index place) m h in
          let q : place ≡ place + 0 = omega arith in
          (0, c, refl, p.0, sym p.1 ∙ ap (constructor block index) q)
      | inr h ↦
          let r = constructor_says block index (place + 1) cs id m h in
          let q : place + 1 + r.0 ≡ place + suc r.0 = omega arith in
          (suc r.0, r.1, r.2, r.3, r.4 ∙ ap (constructor block index) q)
    ]

pub data TypeSays (block : Block) (index : ℕ) (ts : List TypeDeclaration) (id : GlobalId) (m : Meaning) : Type 0 where
  of_type : (i : ℕ) → IsTypeAt ts id i → m ≡ whole_type block (index + i) → TypeSays block index ts id m
  of_constructor : (i place : ℕ) → IsConstructorAt ts id i place → m ≡ constructor block (index + i) place → TypeSays block index ts id m

says_later : (block : Block) (index : ℕ) (t : TypeDeclaration) (ts : List TypeDeclaration) (id : GlobalId) (m : Meaning) → TypeSays block (index + 1) ts id m → TypeSays block index (t ∷ ts) id m
says_later block index t ts id m (of_type i a e) =
    let q : index + 1 + i ≡ index + suc i = omega arith in
    of_type (suc i) (record { type = a.type; stands = a.stands; named = a.named }) (e ∙ ap (whole_type block) q)
says_later block index t ts id m (of_constructor i place a e) =
    let q : index + 1 + i ≡ index + suc i = omega arith in
    of_constructor (suc i) place (record { type = a.type; stands = a.stands; its = a.its; at_place = a.at_place; named = a.named })
    (e ∙ ap (λ j. constructor block j place) q)

pub type_says : (block : Block) (index : ℕ) (ts : List TypeDeclaration) (id : GlobalId) (m : Meaning) → type_meaning block index ts id ≡ Some m → TypeSays block index ts id m
type_says block index [] id m e = some_is_not_none e
type_says block index (t ∷ ts) id m e =
    let own = constructor_meaning block index 0 t.constructors id in
    let further = type_meaning block (index + 1) ts id in
    let q : index ≡ index + 0 = omega arith in
    elim (or_else_cases (where_same t.id id (whole_type block index)) (or_else own further) m e) [
      | inl h ↦
          let p = where_same_says t.id id (whole_type block index) m h in
          of_type 0 (record { type = t; stands = refl; named = p.0 }) (sym p.1 ∙ ap (whole_type block) q)
      | inr h ↦ elim (or_else_cases own further m h) [
        | inl k ↦
            let r = constructor_says block index 0 t.constructors id m k in
            let z : 0 + r.0 ≡ r.0 = omega arith in
            of_constructor 0 r.0 (record { type = t; stands = refl; its = r.1; at_place = r.2; named = r.3 })
            (r.4 ∙ ap (constructor block index) z ∙ ap (λ j. constructor block j r.0) q)
        | inr k ↦ says_later block index t ts id m (type_says block (index + 1) ts id m k)
      ]
    ]

pub bare_says : (block : Block) (index : ℕ) (ts : List TypeDeclaration) (id : GlobalId) (m : Meaning) → bare_meaning block index ts id ≡ Some m →
    (i : ℕ) × IsTypeAt ts id i × (m ≡ bare_type block (index + i))
bare_says block index [] id m e = some_is_not_none e
bare_says block index (t ∷ ts) id m e =
    elim (or_else_cases (where_same t.id id (bare_type block index)) (bare_meaning block (index + 1) ts id) m e) [
      | inl h ↦
          let p = where_same_says t.id id (bare_type block index) m h in
          let q : index ≡ index + 0 = omega arith in
          (0, record { type = t; stands = refl; named = p.0 }, sym p.1 ∙ ap (bare_type block) q)
      | inr h ↦
          let r = bare_says block (index + 1) ts id m h in
          let q : index + 1 + r.0 ≡ index + suc r.0 = omega arith in
          (suc r.0, record { type = r.1.type; stands = r.1.stands; named = r.1.named }, r.2 ∙ ap (bare_type block) q)
    ]

-- Ids of places are declared
constructor_within : (cs : List ConstructorDeclaration) (p : ℕ) (c : ConstructorDeclaration) → element cs p ≡ Some c → Contains (constructor_ids cs) c.id
constructor_within [] p c e = some_is_not_none e
constructor_within (d ∷ cs) zero c e = contains_first d.id c.id (constructor_ids cs) (ap (λ z. z.id) (some_inj e))
constructor_within (d ∷ cs) (suc p) c e = contains_rest d.id c.id (constructor_ids cs) (constructor_within cs p c e)

type_within : (ts : List TypeDeclaration) (i : ℕ) (t : TypeDeclaration) → element ts i ≡ Some t → Contains (type_ids ts) t.id
type_within [] i t e = some_is_not_none e
type_within (u ∷ ts) zero t e = contains_first u.id t.id (constructor_ids u.constructors ++ type_ids ts) (ap (λ z. z.id) (some_inj e))
type_within (u ∷ ts) (suc i) t e =
    contains_rest u.id t.id (constructor_ids u.constructors ++ type_ids ts)
    (Contains-append_right (constructor_ids u.constructors) (type_ids ts) t.id (type_within ts i t e))

constructor_of_type_within : (ts : List TypeDeclaration) (i p : ℕ) (t : TypeDeclaration) (c : ConstructorDeclaration) →
    element ts i ≡ Some t → element t.constructors p ≡ Some c → Contains (type_ids ts) c.id
constructor_of_type_within [] i p t c e d = some_is_not_none e
constructor_of_type_within (u ∷ ts) zero p t c e d =
    contains_rest u.id c.id (constructor_ids u.constructors ++ type_ids ts)
    (Contains-append_left (constructor_ids u.constructors) (type_ids ts) c.id
    (constructor_within u.constructors p c (ap (λ (z : TypeDeclaration). element z.constructors p) (some_inj e) ∙ d)))
constructor_of_type_within (u ∷ ts) (suc i) p t c e d =
    contains_rest u.id c.id (constructor_ids u.constructors ++ type_ids ts)
    (Contains-append_right (constructor_ids u.constructors) (type_ids ts) c.id (constructor_of_type_within ts i p t c e d))

-- Where no id stands twice, the id of a place stands for the place.
constructor_stands : (block : Block) (index place : ℕ) (cs : List ConstructorDeclaration) (p : ℕ) (c : ConstructorDeclaration) → Distinct (constructor_ids cs) →
    element cs p ≡ Some c → constructor_meaning block index place cs c.id ≡ Some (constructor block index (place + p))
constructor_stands block index place [] p c h e = some_is_not_none e
constructor_stands block index place (d ∷ cs) zero c h e =
    let q : place ≡ place + 0 = omega arith in
    ap (λ (z : ConstructorDeclaration). or_else (where_same d.id z.id (constructor block index place)) (constructor_meaning block index (place + 1) cs z.id)) (sym (some_inj e))
    ∙ ap (λ o. or_else o (constructor_meaning block index (place + 1) cs d.id)) (where_same_itself d.id (constructor block index place))
    ∙ ap (λ z. Some (constructor block index z)) q
constructor_stands block index place (d ∷ cs) (suc p) c h e =
    let q : place + 1 + p ≡ place + suc p = omega arith in
    skips (where_same d.id c.id (constructor block index place)) (constructor_meaning block index (place + 1) cs c.id)
    (λ m k. h.0 (subst (Contains (constructor_ids cs)) (sym (where_same_says d.id c.id (constructor block index place) m k).0) (constructor_within cs p c e)))
    ∙ constructor_stands block index (place + 1) cs p c h.1 e
    ∙ ap (λ z. Some (constructor block index z)) q

-- The types before the one that is looked for make nothing of an id of the later ones.
passes_type : (block : Block) (index : ℕ) (t : TypeDeclaration) (ts : List TypeDeclaration) (id : GlobalId) → Distinct (type_ids (t ∷ ts)) → Contains (type_ids ts) id →
    type_meaning block index (t ∷ ts) id ≡ type_meaning block (index + 1) ts id
passes_type block index t ts id h k =
    let own = constructor_meaning block index 0 t.constructors id in
    let further = type_meaning block (index + 1) ts id in
    let parts = distinct_parts (constructor_ids t.constructors) (type_ids ts) h.1 in
    skips (where_same t.id id (whole_type block index)) (or_else own further)
    (λ m e. h.0 (subst (Contains (constructor_ids t.constructors ++ type_ids ts)) (sym (where_same_says t.id id (whole_type block index) m e).0)
    (Contains-append_right (constructor_ids t.constructors) (type_ids ts) id k)))
    ∙ skips own further (λ m e.
    let r = constructor_says block index 0 t.constructors id m e in
    parts.apart id (subst (Contains (constructor_ids t.constructors)) r.3 (constructor_within t.constructors r.0 r.1 r.2)) k)

pub type_stands : (block : Block) (index : ℕ) (ts : List TypeDeclaration) (i : ℕ) (t : TypeDeclaration) → Distinct (type_ids ts) → element ts i ≡ Some t →
    type_meaning block index ts t.id ≡ Some (whole_type block (index + i))
type_stands block index [] i t h e = some_is_not_none e
type_stands block index (u ∷ ts) zero t h e =
    let q : index ≡ index + 0 = omega arith in
    ap (λ (z : TypeDeclaration). type_meaning block index (u ∷ ts) z.id) (sym (some_inj e))
    ∙ ap (λ o. or_else o (or_else (constructor_meaning block index 0 u.constructors u.id) (type_meaning block (index + 1) ts u.id))) (where_same_itself u.id (whole_type block index))
    ∙ ap (λ z. Some (whole_type block z)) q
type_stands block index (u ∷ ts) (suc i) t h e =
    let q : index + 1 + i ≡ index + suc i = omega arith in
    passes_type block index u ts t.id h (type_within ts i t e)
    ∙ type_stands block (index + 1) ts i t (distinct_parts (constructor_ids u.constructors) (type_ids ts) h.1).rest e
    ∙ ap (λ z. Some (whole_type block z)) q

pub constructor_of_type_stands : (block : Block) (index : ℕ) (ts : List TypeDeclaration) (i p : ℕ) (t : TypeDeclaration) (c : ConstructorDeclaration) → Distinct (type_ids ts) →
    element ts i ≡ Some t → element t.constructors p ≡ Some c → type_meaning block index ts c.id ≡ Some (constructor block (index + i) p)
constructor_of_type_stands block index [] i p t c h e d = some_is_not_none e
constructor_of_type_stands block index (u ∷ ts) zero p t c h e d =
    let own = constructor_meaning block index 0 u.constructors c.id in
    let further = type_meaning block (index + 1) ts c.id in
    let parts = distinct_parts (constructor_ids u.constructors) (type_ids ts) h.1 in
    let here : element u.constructors p ≡ Some c = ap (λ (z : TypeDeclaration). element z.constructors p) (some_inj e) ∙ d in
    let q : index ≡ index + 0 = omega arith in
    let z : 0 + p ≡ p = omega arith in
    skips (where_same u.id c.id (whole_type block index)) (or_else own further)
    (λ m k. h.0 (subst (Contains (constructor_ids u.constructors ++ type_ids ts)) (sym (where_same_says u.id c.id (whole_type block index) m k).0)
    (Contains-append_left (constructor_ids u.constructors) (type_ids ts) c.id (constructor_within u.constructors p c here))))
    ∙ ap (λ o. or_else o further) (constructor_stands block index 0 u.constructors p c parts.front here)
    ∙ ap (λ y. Some (constructor block index y)) z
    ∙ ap (λ y. Some (constructor block y p)) q
constructor_of_type_stands block index (u ∷ ts) (suc i) p t c h e d =
    let q : index + 1 + i ≡ index + suc i = omega arith in
    passes_type block index u ts c.id h (constructor_of_type_within ts i p t c e d)
    ∙ constructor_of_type_stands block (index + 1) ts i p t c (distinct_parts (constructor_ids u.constructors) (type_ids ts) h.1).rest e d
    ∙ ap (λ y. Some (constructor block y p)) q

-- The last item of an environment
pub last_ids_distinct : (E : Environment) (item : Item) → Distinct (environment_ids (E ++ item ∷ [])) → Distinct (item_ids item)
last_ids_distinct [] item h = (distinct_parts (item_ids item) [] h).front
last_ids_distinct (first ∷ E) item h = last_ids_distinct E item (distinct_parts (item_ids first) (environment_ids (E ++ item ∷ [])) h).rest

pub last_stands : (E : Environment) (item : Item) (id : GlobalId) (m : Meaning) → Distinct (environment_ids (E ++ item ∷ [])) → item_meaning item id ≡ Some m →
    meaning (E ++ item ∷ []) id ≡ Some m
last_stands E item id m h e =
    meaning_in_any_order (E ++ item ∷ []) (item ∷ E) (IsPermutation-append_comm E (item ∷ [])) h id ∙ ap (λ o. or_else o (meaning E id)) e
