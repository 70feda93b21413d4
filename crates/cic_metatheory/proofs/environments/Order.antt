-- What an id stands for in an environment is left as it is by items that do not declare it, and, where no id is declared
-- twice, by another order of the items.
use Rattle.std.proofs.Common.{◌≡◌, ◌⊎◌, inl, inr, ℕ, ◌+◌, Bool, true, false, if◌then◌else◌, Option, Some, None, List, [], ◌∷◌, ◌++◌, refl, sym, ap, ◌∙◌, subst, Contains}
use Rattle.std.specs.Prelude.{IsPermutation}
use Rattle.std.proofs.lemmas.List.Elements.{Contains-append_left, Contains-append_right}
use Rattle.std.proofs.lemmas.List.Sorted.{Contains-permutation, IsPermutation-sym}
use Rattle.cic_names.specs.declared.name.GlobalId.{GlobalId}
use Rattle.cic_names.specs.Sameness.{same_id}
use Rattle.cic_rules.specs.Environment.{Environment, axiom_of, transparent, opaque, inductive, Block, TypeDeclaration, ConstructorDeclaration, Item, declared, bare, constructor_ids, type_ids, bare_ids, item_ids, environment_ids, Meaning, whole_type, bare_type, constructor, or_else, where_same, constructor_meaning, type_meaning, bare_meaning, item_meaning, meaning}
use Rattle.cic_rules.specs.Formed.{Distinct}
use Rattle.cic_names.proofs.Equality.{same_id_decides}
use Rattle.cic_metatheory.proofs.basics.Options.{some_inj, some_is_not_none}
use Rattle.cic_metatheory.proofs.basics.Elements.{contains_first, contains_rest, contains_cases, contains_none}

or_else_associates : {A : Type 0} (a b c : Option A) → or_else (or_else a b) c ≡ or_else a (or_else b c)
or_else_associates None b c = refl
or_else_associates (Some a) b c = refl

pub meaning_joined : (E F : Environment) (id : GlobalId) → meaning (E ++ F) id ≡ or_else (meaning E id) (meaning F id)
meaning_joined [] F id = refl
meaning_joined (item ∷ E) F id =
    ap (or_else (item_meaning item id)) (meaning_joined E F id) ∙ sym (or_else_associates (item_meaning item id) (meaning E id) (meaning F id))

-- Answers of a lookup
pub or_else_cases : {A : Type 0} (a b : Option A) (m : A) → or_else a b ≡ Some m → (a ≡ Some m) ⊎ (b ≡ Some m)
or_else_cases None b m e = inr e
or_else_cases (Some x) b m e = inl e

pub or_else_none : {A : Type 0} (a b : Option A) → or_else a b ≡ None → (a ≡ None) × (b ≡ None)
or_else_none None b e = (refl, e)
or_else_none (Some x) b e = some_is_not_none (sym e)

same_says : (test : Bool) (m n : Meaning) → (if test then Some m else None) ≡ Some n → (test ≡ true) × (m ≡ n)
same_says true m n e = (refl, some_inj e)
same_says false m n e = some_is_not_none e

pub where_same_says : (other id : GlobalId) (m n : Meaning) → where_same other id m ≡ Some n → (other ≡ id) × (m ≡ n)
where_same_says other id m n e = let p = same_says (same_id other id) m n e in ((same_id_decides other id).0 p.0, p.1)

constructor_declared : (block : Block) (index place : ℕ) (cs : List ConstructorDeclaration) (id : GlobalId) (m : Meaning) → constructor_meaning block index place cs id ≡ Some m → Contains (constructor_ids cs) id
constructor_declared block index place [] id m e = cc
constructor_declared block index place (c ∷ cs) id m e =
    elim (or_else_cases (where_same c.id id (constructor block index place)) (constructor_meaning block index (place + 1) cs id) m e) [
      | inl h ↦ contains_first c.id id (constructor_ids cs) (where_same_says c.id id (constructor block index place) m h).0
      | inr h ↦ contains_rest c.id id (constructor_ids cs) (constructor_declared block index (place + 1) cs id m h)
    ]

type_declared : (block : Block) (index : ℕ) (ts : List TypeDeclaration) (id : GlobalId) (m : Meaning) → type_meaning block index ts id ≡ Some m → Contains (type_ids ts) id
type_declared block index [] id m e = cc
type_declared block index (t ∷ ts) id m e =
    let own = constructor_meaning block index 0 t.constructors id in
    let further = type_meaning block (index + 1) ts id in
    elim (or_else_cases (where_same t.id id (whole_type block index)) (or_else own further) m e) [
      | inl h ↦ contains_first t.id id (constructor_ids t.constructors ++ type_ids ts) (where_same_says t.id id (whole_type block index) m h).0
      | inr h ↦ contains_rest t.id id (constructor_ids t.constructors ++ type_ids ts) (elim (or_else_cases own further m h) [
        | inl k ↦ Contains-append_left (constructor_ids t.constructors) (type_ids ts) id (constructor_declared block index 0 t.constructors id m k)
        | inr k ↦ Contains-append_right (constructor_ids t.constructors) (type_ids ts) id (type_declared block (index + 1) ts id m k)
      ])
    ]

bare_declared : (block : Block) (index : ℕ) (ts : List TypeDeclaration) (id : GlobalId) (m : Meaning) → bare_meaning block index ts id ≡ Some m → Contains (bare_ids ts) id
bare_declared block index [] id m e = cc
bare_declared block index (t ∷ ts) id m e =
    elim (or_else_cases (where_same t.id id (bare_type block index)) (bare_meaning block (index + 1) ts id) m e) [
      | inl h ↦ contains_first t.id id (bare_ids ts) (where_same_says t.id id (bare_type block index) m h).0
      | inr h ↦ contains_rest t.id id (bare_ids ts) (bare_declared block (index + 1) ts id m h)
    ]

-- An item declares the ids that it gives a meaning.
item_declares : (item : Item) (id : GlobalId) (m : Meaning) → item_meaning item id ≡ Some m → Contains (item_ids item) id
item_declares (declared (axiom_of other type)) id m e = contains_first other id [] (where_same_says other id _ m e).0
item_declares (declared (transparent other type body)) id m e = contains_first other id [] (where_same_says other id _ m e).0
item_declares (declared (opaque other type body)) id m e = contains_first other id [] (where_same_says other id _ m e).0
item_declares (declared (inductive block)) id m e = type_declared block 0 block.types id m e
item_declares (bare block) id m e = bare_declared block 0 block.types id m e

item_within : (E : Environment) (item : Item) (id : GlobalId) → Contains E item → Contains (item_ids item) id → Contains (environment_ids E) id
item_within [] item id h k = absurd (contains_none item h)
item_within (first ∷ E) item id h k =
    elim (contains_cases first item E h) [
      | inl e ↦ Contains-append_left (item_ids first) (environment_ids E) id (subst (λ z. Contains (item_ids z) id) (sym e) k)
      | inr r ↦ Contains-append_right (item_ids first) (environment_ids E) id (item_within E item id r k)
    ]

-- Distinct ids in a front, in the rest, and none in both
pub record DistinctParts (xs ys : List GlobalId) : Type 0 where
  pub front : Distinct xs
  pub rest : Distinct ys
  pub apart : (id : GlobalId) → Contains xs id → Contains ys id → ⊥

pub distinct_parts : (xs ys : List GlobalId) → Distinct (xs ++ ys) → DistinctParts xs ys
distinct_parts [] ys h = record { front = tt; rest = h; apart = λ id a b. contains_none id a }
distinct_parts (x ∷ xs) ys h =
    let r = distinct_parts xs ys h.1 in
    record {
      front = (λ k. h.0 (Contains-append_left xs ys x k), r.front);
      rest = r.rest;
      apart = λ id a b. elim (contains_cases x id xs a) [
        | inl e ↦ h.0 (subst (Contains (xs ++ ys)) (sym e) (Contains-append_right xs ys id b))
        | inr k ↦ r.apart id k b
      ];
    }

-- An id stands for what an item makes of it, and for nothing else where no id is declared twice.
pub found_in : (E : Environment) (id : GlobalId) (m : Meaning) → meaning E id ≡ Some m → (item : Item) × Contains E item × (item_meaning item id ≡ Some m)
found_in [] id m e = cc
found_in (first ∷ E) id m e =
    elim (or_else_cases (item_meaning first id) (meaning E id) m e) [
      | inl h ↦ (first, contains_first first first E refl, h)
      | inr h ↦ let r = found_in E id m h in (r.0, contains_rest first r.0 E r.1, r.2)
    ]

pub stands_for : (E : Environment) (item : Item) (id : GlobalId) (m : Meaning) → Distinct (environment_ids E) → Contains E item → item_meaning item id ≡ Some m → meaning E id ≡ Some m
stands_for [] item id m d h e = absurd (contains_none item h)
stands_for (first ∷ E) item id m d h e =
    elim (contains_cases first item E h) [
      | inl q ↦ ap (λ o. or_else o (meaning E id)) (ap (λ z. item_meaning z id) q ∙ e)
      | inr r ↦ later (item_meaning first id) refl r (stands_for E item id m (distinct_parts (item_ids first) (environment_ids E) d).rest r e)
    ]
  where
    later : (o : Option Meaning) → item_meaning first id ≡ o → Contains E item → meaning E id ≡ Some m → or_else (item_meaning first id) (meaning E id) ≡ Some m
    later None q r found = ap (λ o. or_else o (meaning E id)) q ∙ found
    later (Some n) q r found =
        absurd ((distinct_parts (item_ids first) (environment_ids E) d).apart id (item_declares first id n q) (item_within E item id r (item_declares item id m e)))

some_found : (E : Environment) (item : Item) (id : GlobalId) (m : Meaning) → Contains E item → item_meaning item id ≡ Some m → meaning E id ≡ None → ⊥
some_found [] item id m h e n = contains_none item h
some_found (first ∷ E) item id m h e n =
    let w = or_else_none (item_meaning first id) (meaning E id) n in
    elim (contains_cases first item E h) [
      | inl q ↦ let z : Some m ≡ None = sym e ∙ ap (λ i. item_meaning i id) (sym q) ∙ w.0 in cc
      | inr r ↦ some_found E item id m r e w.1
    ]

pub meaning_in_any_order : (E E' : Environment) → IsPermutation E E' → Distinct (environment_ids E) → (id : GlobalId) → meaning E id ≡ meaning E' id
meaning_in_any_order E E' p d id = by_answer (meaning E' id) refl (meaning E id) refl
  where
    here : (m : Meaning) → meaning E' id ≡ Some m → meaning E id ≡ Some m
    here m e =
        let r = found_in E' id m e in
        stands_for E r.0 id m d (Contains-permutation E' E r.0 (IsPermutation-sym E E' p) r.1) r.2

    by_answer : (o' : Option Meaning) → meaning E' id ≡ o' → (o : Option Meaning) → meaning E id ≡ o → meaning E id ≡ meaning E' id
    by_answer (Some m) q o r = here m q ∙ sym q
    by_answer None q None r = r ∙ sym q
    by_answer None q (Some m) r =
        let f = found_in E id m r in
        absurd (some_found E' f.0 id m (Contains-permutation E E' f.0 p f.1) f.2 q)

-- An environment declares each id that stands for something, and items that do not declare an id leave what it
-- stands for.
pub meaning_declares : (E : Environment) (id : GlobalId) (m : Meaning) → meaning E id ≡ Some m → Contains (environment_ids E) id
meaning_declares E id m e = let f = found_in E id m e in item_within E f.0 id f.1 (item_declares f.0 id m f.2)

undeclared : (E : Environment) (id : GlobalId) → ¬ Contains (environment_ids E) id → (o : Option Meaning) → meaning E id ≡ o → meaning E id ≡ None
undeclared E id n None q = q
undeclared E id n (Some m) q = absurd (n (meaning_declares E id m q))

pub meaning_with_more : (before more after : Environment) (id : GlobalId) → ¬ Contains (environment_ids more) id → meaning (before ++ after) id ≡ meaning (before ++ (more ++ after)) id
meaning_with_more before more after id n =
    let nothing : meaning (more ++ after) id ≡ meaning after id =
    meaning_joined more after id ∙ ap (λ o. or_else o (meaning after id)) (undeclared more id n (meaning more id) refl) in
    meaning_joined before after id ∙ ap (or_else (meaning before id)) (sym nothing) ∙ sym (meaning_joined before (more ++ after) id)
