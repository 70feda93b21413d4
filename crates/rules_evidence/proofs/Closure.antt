-- A set of ids that is closed, by a test which computes, under what each of them leads to holds all that is reached
-- from it. So what lies outside of such a set is not reached.
use Rattle.std.proofs.Common.{◌≡◌, Bool, true, false, ◌&&◌, Option, Some, None, List, [], ◌∷◌, Contains, inl, inr, refl, sym, arith, if◌then◌else◌, subst}
use Rattle.cic_terms.specs.Tree.{Former, ConstF, IndF, CtorF, CaseF, Tree, rel, node, Children, no_child, child}
use Rattle.cic_terms.specs.Mentions.{Names, Mentions, ChildrenMention}
use Rattle.cic_names.specs.declared.name.GlobalId.{GlobalId}
use Rattle.cic_rules.specs.Environment.{Environment, Declaration, Item, declared, bare, Meaning, meaning, declared_ids}
use Rattle.cic_rules.specs.Telescopes.{is_among}
use Rattle.cic_rules.specs.Reach.{declaration_terms, meaning_terms, meaning_ids, StandsIn, beside, mentioned, at_first, onward, Reached, Reaches}
use Rattle.cic_metatheory.proofs.basics.Elements.{contains_cases, contains_none}
use Rattle.rules_evidence.proofs.Membership.{both, found, stands}

-- Every id that stands in a term is of the set.
abbrev former_within : List GlobalId → Former → Bool
former_within ids (ConstF id) = is_among id ids
former_within ids (IndF id) = is_among id ids
former_within ids (CtorF id) = is_among id ids
former_within ids (CaseF id) = is_among id ids
former_within ids _ = true

abbrev mutual
  within : List GlobalId → Tree → Bool
  within ids (rel x) = true
  within ids (node f ks) = former_within ids f && parts_within ids ks

  parts_within : List GlobalId → Children → Bool
  parts_within ids no_child = true
  parts_within ids (child b t ks) = within ids t && parts_within ids ks

abbrev pub terms_within : List GlobalId → List Tree → Bool
terms_within ids [] = true
terms_within ids (t ∷ ts) = within ids t && terms_within ids ts

abbrev ids_within : List GlobalId → List GlobalId → Bool
ids_within ids [] = true
ids_within ids (id ∷ others) = is_among id ids && ids_within ids others

named : (ids : List GlobalId) (f : Former) (id : GlobalId) → former_within ids f ≡ true → Names id f → Contains ids id
named ids (ConstF c) id e n = subst (Contains ids) n (stands ids c e)
named ids (IndF c) id e n = subst (Contains ids) n (stands ids c e)
named ids (CtorF c) id e n = subst (Contains ids) n (stands ids c e)
named ids (CaseF c) id e n = subst (Contains ids) n (stands ids c e)
named ids _ id e n = absurd n

mutual
  mentioned_within : (ids : List GlobalId) (t : Tree) (id : GlobalId) → within ids t ≡ true → Mentions id t → Contains ids id
  mentioned_within ids (rel x) id e m = absurd m
  mentioned_within ids (node f ks) id e m =
      let parts = both (former_within ids f) (parts_within ids ks) e in
      elim m as (λ _. Contains ids id) [ inl n ↦ named ids f id parts.0 n | inr k ↦ part_within ids ks id parts.1 k ]

  part_within : (ids : List GlobalId) (ks : Children) (id : GlobalId) → parts_within ids ks ≡ true → ChildrenMention id ks → Contains ids id
  part_within ids no_child id e m = absurd m
  part_within ids (child b t ks) id e m =
      let parts = both (within ids t) (parts_within ids ks) e in
      elim m as (λ _. Contains ids id) [ inl n ↦ mentioned_within ids t id parts.0 n | inr k ↦ part_within ids ks id parts.1 k ]

term_within : (ids : List GlobalId) (ts : List Tree) (t : Tree) → terms_within ids ts ≡ true → Contains ts t → within ids t ≡ true
term_within ids [] t e c = absurd (contains_none t c)
term_within ids (u ∷ ts) t e c =
    let parts = both (within ids u) (terms_within ids ts) e in
    elim (contains_cases u t ts c) as (λ _. within ids t ≡ true) [ inl q ↦ subst (λ z. within ids z ≡ true) q parts.0 | inr k ↦ term_within ids ts t parts.1 k ]

id_within : (ids others : List GlobalId) (id : GlobalId) → ids_within ids others ≡ true → Contains others id → Contains ids id
id_within ids [] id e c = absurd (contains_none id c)
id_within ids (x ∷ others) id e c =
    let parts = both (is_among x ids) (ids_within ids others) e in
    elim (contains_cases x id others c) as (λ _. Contains ids id) [ inl q ↦ subst (Contains ids) q (stands ids x parts.0) | inr k ↦ id_within ids others id parts.1 k ]

led_within : {others : List GlobalId} {ts : List Tree} {id : GlobalId} → StandsIn others ts id → (ids : List GlobalId) → ids_within ids others ≡ true → terms_within ids ts ≡ true → Contains ids id
led_within {others} {id = id} (beside c) ids e f = id_within ids others id e c
led_within {ts = ts} {id = id} (mentioned t c m) ids e f = mentioned_within ids t id (term_within ids ts t f c) m

-- By declarations: each that declares an id of the set brings only ids of the set.
abbrev touches : List GlobalId → List GlobalId → Bool
touches ids [] = false
touches ids (id ∷ others) = if is_among id ids then true else touches ids others

abbrev item_closed : List GlobalId → Item → Bool
item_closed ids (declared d) = if touches ids (declared_ids d) then ids_within ids (declared_ids d) && terms_within ids (declaration_terms d) else true
item_closed ids (bare block) = true

abbrev pub closed_by_declarations : List GlobalId → Environment → Bool
closed_by_declarations ids [] = true
closed_by_declarations ids (item ∷ E) = item_closed ids item && closed_by_declarations ids E

either_way : (a b : Bool) → a ≡ true → (if a then true else b) ≡ true
either_way true b e = refl
either_way false b e = absurd (grind arith)

or_else : (a b : Bool) → b ≡ true → (if a then true else b) ≡ true
or_else true b e = refl
or_else false b e = e

touched : (ids others : List GlobalId) (id : GlobalId) → Contains others id → Contains ids id → touches ids others ≡ true
touched ids [] id c k = absurd (contains_none id c)
touched ids (x ∷ others) id c k =
    elim (contains_cases x id others c) as (λ _. touches ids (x ∷ others) ≡ true) [
      | inl e ↦ either_way (is_among x ids) (touches ids others) (found ids x (subst (Contains ids) (sym e) k))
      | inr h ↦ or_else (is_among x ids) (touches ids others) (touched ids others id h k)
    ]

item_is_closed : (ids : List GlobalId) (E : Environment) (item : Item) → closed_by_declarations ids E ≡ true → Contains E item → item_closed ids item ≡ true
item_is_closed ids [] item e c = absurd (contains_none item c)
item_is_closed ids (x ∷ E) item e c =
    let parts = both (item_closed ids x) (closed_by_declarations ids E) e in
    elim (contains_cases x item E c) as (λ _. item_closed ids item ≡ true) [ inl q ↦ subst (λ z. item_closed ids z ≡ true) q parts.0 | inr k ↦ item_is_closed ids E item parts.1 k ]

where_true : (a b : Bool) → a ≡ true → (if a then b else true) ≡ true → b ≡ true
where_true true b e h = h
where_true false b e h = absurd (grind arith)

pub reaches_within : {E : Environment} {first id : GlobalId} → Reaches E first id → (ids : List GlobalId) → Contains ids first → closed_by_declarations ids E ≡ true → Contains ids id
reaches_within (at_first e) ids c closed = subst (Contains ids) (sym e) c
reaches_within {E} (onward other h l) ids c closed =
    let before = reaches_within h ids c closed in
    let d = l.declaration in
    let test = where_true (touches ids (declared_ids d)) (ids_within ids (declared_ids d) && terms_within ids (declaration_terms d))
    (touched ids (declared_ids d) other l.declares before) (item_is_closed ids E (declared d) closed l.is_there) in
    let parts = both (ids_within ids (declared_ids d)) (terms_within ids (declaration_terms d)) test in
    led_within l.leads ids parts.0 parts.1

-- By what ids stand for.
abbrev meaning_closed : List GlobalId → Option Meaning → Bool
meaning_closed ids None = true
meaning_closed ids (Some m) = ids_within ids (meaning_ids m) && terms_within ids (meaning_terms m)

abbrev pub closed_by_meanings : Environment → (ids : List GlobalId) → (some : List GlobalId) → Bool
closed_by_meanings E ids [] = true
closed_by_meanings E ids (id ∷ some) = meaning_closed ids (meaning E id) && closed_by_meanings E ids some

meaning_is_closed : (E : Environment) (ids some : List GlobalId) (id : GlobalId) → closed_by_meanings E ids some ≡ true → Contains some id → meaning_closed ids (meaning E id) ≡ true
meaning_is_closed E ids [] id e c = absurd (contains_none id c)
meaning_is_closed E ids (x ∷ some) id e c =
    let parts = both (meaning_closed ids (meaning E x)) (closed_by_meanings E ids some) e in
    elim (contains_cases x id some c) as (λ _. meaning_closed ids (meaning E id) ≡ true) [ inl q ↦ subst (λ z. meaning_closed ids (meaning E z) ≡ true) q parts.0 | inr k ↦ meaning_is_closed E ids some id parts.1 k ]

pub reached_within : {E : Environment} (d : Declaration) {id : GlobalId} → Reached E d id → (ids : List GlobalId) → terms_within ids (declaration_terms d) ≡ true → closed_by_meanings E ids ids ≡ true → Contains ids id
reached_within d (at_first h) ids e closed = led_within h ids refl e
reached_within {E} d (onward other h l) ids e closed =
    let before = reached_within d h ids e closed in
    let m = l.stands_for in
    let test : meaning_closed ids (Some m) ≡ true = subst (λ z. meaning_closed ids z ≡ true) l.stands (meaning_is_closed E ids ids other closed before) in
    let parts = both (ids_within ids (meaning_ids m)) (terms_within ids (meaning_terms m)) test in
    led_within l.leads ids parts.0 parts.1
