-- Look-ups by id: the place of an id gives what the id stands for.
use Rattle.std.proofs.Common.{◌≡◌, ℕ, suc, inl, inr, ◌+◌, ◌-◌, ◌<◌, ◌≤◌, List, [], ◌∷◌, ◌++◌, length, Bool, true, false, ◌||◌, cond, refl, sym, ap, subst, ◌∙◌, arith, Contains, slice_index_or, if◌then◌else◌}
use Rattle.std.specs.Prelude.{Option, Some, None, is_some, IsTrue, ◌↔◌}
use Rattle.std.specs.Option.{option_map, option_and_then}
use Rattle.std.specs.List.{list_any}
use Rattle.std.specs.Map.{lookup, keys_of}
use Rattle.std.proofs.lemmas.List.{map-append}
use Rattle.std.proofs.lemmas.List.Elements.{Contains-append_cases}
use Rattle.cic_names.specs.declared.name.GlobalId.{GlobalId}
use Rattle.cic_names.specs.Sameness.{same_id}
use Rattle.cic_names.proofs.Equality.{same_id_decides}
use Rattle.cic_rules.specs.Environment.{ConstructorDeclaration, TypeDeclaration, Block, Declaration, axiom_of, transparent, opaque, inductive, Item, declared, bare, Environment, Meaning, constant, whole_type, bare_type, constructor, or_else, where_same, constructor_meaning, type_meaning, bare_meaning, item_meaning, meaning, constructor_ids, type_ids, bare_ids, declared_ids, item_ids, environment_ids}
use Rattle.cic_rules.specs.Telescopes.{is_among}
use Rattle.cic_env.specs.Environments.{item_of}
use Rattle.cic_env.specs.calls.Places.{Named, place_at, constructor_places, type_places, bare_places, declaration_places, item_places, places_from, in_whole, stands_at}
use Rattle.cic_env.specs.declared.item.Place.{Place}

pub same_id-comm : (a b : GlobalId) → same_id a b ≡ same_id b a
same_id-comm a b = elim (same_id a b) as (λ x. same_id a b ≡ x → x ≡ same_id b a) [
  | true ↦ λ e. sym ((same_id_decides b a).1 (sym ((same_id_decides a b).0 e)))
  | false ↦ λ e. other (same_id b a) refl e
] refl
  where
    other : (y : Bool) → same_id b a ≡ y → same_id a b ≡ false → false ≡ same_id b a
    other true q e = let k : true ≡ false = sym ((same_id_decides a b).1 (sym ((same_id_decides b a).0 q))) ∙ e in cc
    other false q e = sym q

-- The place of an id in a list of ids with their places.
abbrev pub place_of : GlobalId → List Named → Option Place
place_of id = lookup (same_id id)

-- Look-ups in a list of two parts.
pub lookup-append : {K X : Type 0} (t : K → Bool) (xs ys : List (K × X)) → lookup t (xs ++ ys) ≡ or_else (lookup t xs) (lookup t ys)
lookup-append t [] ys = refl
lookup-append {K} {X} t (x ∷ xs) ys =
    elim (t x.0) as (λ b. cond b (Some x.1) (lookup t (xs ++ ys)) ≡ or_else (cond b (Some x.1) (lookup t xs)) (lookup t ys)) [
      | true ↦ refl
      | false ↦ lookup-append t xs ys
    ]

option_map-or_else : {A B : Type 0} (f : A → B) (a b : Option A) → option_map f (or_else a b) ≡ or_else (option_map f a) (option_map f b)
option_map-or_else f None b = refl
option_map-or_else f (Some x) b = refl

-- A first name, and then the others.
first_name : (f : Place → Meaning) (id other : GlobalId) (place : Place) (m : Meaning) (rest : Option Meaning) (others : List Named) →
    f place ≡ m → rest ≡ option_map f (place_of id others) →
    or_else (where_same other id m) rest ≡ option_map f (place_of id ((other, place) ∷ others))
first_name f id other place m rest others e h =
    rw (same_id-comm other id) (elim (same_id id other) as (λ b. or_else (if b then Some m else None) rest ≡ option_map f (cond b (Some place) (place_of id others))) [
      | true ↦ ap Some (sym e)
      | false ↦ h
    ])

constructors-mean : (block : Block) (item index number : ℕ) (cs : List ConstructorDeclaration) (id : GlobalId) →
    constructor_meaning block index number cs id ≡ option_map (λ p. in_whole block p.index p.constructor) (place_of id (constructor_places item index number cs))
constructors-mean block item index number [] id = refl
constructors-mean block item index number (c ∷ cs) id =
    first_name (λ p. in_whole block p.index p.constructor) id c.id (record { item = item; index = index; constructor = Some number }) (constructor block index number)
    (constructor_meaning block index (number + 1) cs id) (constructor_places item index (number + 1) cs) refl
    (constructors-mean block item index (number + 1) cs id)

types-mean : (block : Block) (item index : ℕ) (ts : List TypeDeclaration) (id : GlobalId) →
    type_meaning block index ts id ≡ option_map (λ p. in_whole block p.index p.constructor) (place_of id (type_places item index ts))
types-mean block item index [] id = refl
types-mean block item index (t ∷ ts) id =
    let f : Place → Meaning = λ p. in_whole block p.index p.constructor in
    let inner = constructor_places item index 0 t.constructors in
    let outer = type_places item (index + 1) ts in
    first_name f id t.id (place_at item index) (whole_type block index)
    (or_else (constructor_meaning block index 0 t.constructors id) (type_meaning block (index + 1) ts id)) (inner ++ outer) refl
    (rw (constructors-mean block item index 0 t.constructors id, types-mean block item (index + 1) ts id)
    (sym (option_map-or_else f (place_of id inner) (place_of id outer)) ∙ ap (option_map f) (sym (lookup-append (same_id id) inner outer))))

bares-mean : (block : Block) (item index : ℕ) (ts : List TypeDeclaration) (id : GlobalId) →
    bare_meaning block index ts id ≡ option_map (λ p. bare_type block p.index) (place_of id (bare_places item index ts))
bares-mean block item index [] id = refl
bares-mean block item index (t ∷ ts) id =
    first_name (λ p. bare_type block p.index) id t.id (place_at item index) (bare_type block index)
    (bare_meaning block (index + 1) ts id) (bare_places item (index + 1) ts) refl
    (bares-mean block item (index + 1) ts id)

and_then-some : {A B : Type 0} (f : A → B) (a : Option A) → option_map f a ≡ option_and_then (λ x. Some (f x)) a
and_then-some f None = refl
and_then-some f (Some x) = refl

one-means : (m : Meaning) (item : ℕ) (other id : GlobalId) → where_same other id m ≡ option_and_then (λ _. Some m) (place_of id ((other, place_at item 0) ∷ []))
one-means m item other id =
    rw (same_id-comm other id) (elim (same_id id other) as (λ b. (if b then Some m else None) ≡ option_and_then (λ _. Some m) (cond b (Some (place_at item 0)) None)) [
      | true ↦ refl
      | false ↦ refl
    ])

-- What an item makes of an id, by the id's place in the item.
pub item-means : (n : ℕ) (item : Item) (id : GlobalId) → item_meaning item id ≡ option_and_then (stands_at item) (place_of id (item_places n item))
item-means n (declared (axiom_of other type)) id = one-means (constant type None) n other id
item-means n (declared (transparent other type body)) id = one-means (constant type (Some body)) n other id
item-means n (declared (opaque other type body)) id = one-means (constant type None) n other id
item-means n (declared (inductive block)) id =
    types-mean block n 0 block.types id ∙ and_then-some (λ p. in_whole block p.index p.constructor) (place_of id (type_places n 0 block.types))
item-means n (bare block) id =
    bares-mean block n 0 block.types id ∙ and_then-some (λ p. bare_type block p.index) (place_of id (bare_places n 0 block.types))

-- The ids alone.
constructor-keys : (item index number : ℕ) (cs : List ConstructorDeclaration) → keys_of (constructor_places item index number cs) ≡ constructor_ids cs
constructor-keys item index number [] = refl
constructor-keys item index number (c ∷ cs) = ap (λ (ids : List GlobalId). c.id ∷ ids) (constructor-keys item index (number + 1) cs)

keys-append : (xs ys : List Named) → keys_of (xs ++ ys) ≡ keys_of xs ++ keys_of ys
keys-append xs ys = map-append (λ (e : Named). e.0) xs ys

type-keys : (item index : ℕ) (ts : List TypeDeclaration) → keys_of (type_places item index ts) ≡ type_ids ts
type-keys item index [] = refl
type-keys item index (t ∷ ts) =
    let inner = constructor_places item index 0 t.constructors in
    let outer = type_places item (index + 1) ts in
    ap (λ (ids : List GlobalId). t.id ∷ ids)
    (keys-append inner outer ∙ (λ i. constructor-keys item index 0 t.constructors i ++ type-keys item (index + 1) ts i))

pub bare-keys : (item index : ℕ) (ts : List TypeDeclaration) → keys_of (bare_places item index ts) ≡ bare_ids ts
bare-keys item index [] = refl
bare-keys item index (t ∷ ts) = ap (λ (ids : List GlobalId). t.id ∷ ids) (bare-keys item (index + 1) ts)

pub declaration-keys : (item : ℕ) (d : Declaration) → keys_of (declaration_places item d) ≡ declared_ids d
declaration-keys item (axiom_of id type) = refl
declaration-keys item (transparent id type body) = refl
declaration-keys item (opaque id type body) = refl
declaration-keys item (inductive block) = type-keys item 0 block.types

item-keys : (n : ℕ) (item : Item) → keys_of (item_places n item) ≡ item_ids item
item-keys n (declared d) = declaration-keys n d
item-keys n (bare block) = bare-keys n 0 block.types

pub environment-keys : (n : ℕ) (E : Environment) → keys_of (places_from n E) ≡ environment_ids E
environment-keys n [] = refl
environment-keys n (item ∷ E) =
    keys-append (item_places n item) (places_from (n + 1) E) ∙ (λ i. item-keys n item i ++ environment-keys (n + 1) E i)

-- Whether an id is there, by its place.
among-by_place : (id : GlobalId) (es : List Named) → list_any (same_id id) (keys_of es) ≡ is_some (place_of id es)
among-by_place id [] = refl
among-by_place id (e ∷ es) =
    elim (same_id id e.0) as (λ b. (b || list_any (same_id id) (keys_of es)) ≡ is_some (cond b (Some e.1) (place_of id es))) [
      | true ↦ refl
      | false ↦ among-by_place id es
    ]

item-among : (n : ℕ) (item : Item) (id : GlobalId) → is_among id (item_ids item) ≡ is_some (place_of id (item_places n item))
item-among n item id = rw (← item-keys n item) (among-by_place id (item_places n item))

-- Each place of an item has the item's number.
abbrev pub AllOf : ℕ → List Named → Type 0
AllOf n [] = Unit {0}
AllOf n (e ∷ es) = (e.1.item ≡ n) × AllOf n es

all_of-append : (n : ℕ) (xs ys : List Named) → AllOf n xs → AllOf n ys → AllOf n (xs ++ ys)
all_of-append n [] ys h k = k
all_of-append n (x ∷ xs) ys h k = (h.0, all_of-append n xs ys h.1 k)

constructors-of : (item index number : ℕ) (cs : List ConstructorDeclaration) → AllOf item (constructor_places item index number cs)
constructors-of item index number [] = tt
constructors-of item index number (c ∷ cs) = (refl, constructors-of item index (number + 1) cs)

types-of : (item index : ℕ) (ts : List TypeDeclaration) → AllOf item (type_places item index ts)
types-of item index [] = tt
types-of item index (t ∷ ts) =
    (refl, all_of-append item (constructor_places item index 0 t.constructors) (type_places item (index + 1) ts) (constructors-of item index 0 t.constructors) (types-of item (index + 1) ts))

bares-of : (item index : ℕ) (ts : List TypeDeclaration) → AllOf item (bare_places item index ts)
bares-of item index [] = tt
bares-of item index (t ∷ ts) = (refl, bares-of item (index + 1) ts)

pub places-of : (n : ℕ) (item : Item) → AllOf n (item_places n item)
places-of n (declared (axiom_of id type)) = (refl, tt)
places-of n (declared (transparent id type body)) = (refl, tt)
places-of n (declared (opaque id type body)) = (refl, tt)
places-of n (declared (inductive block)) = types-of n 0 block.types
places-of n (bare block) = bares-of n 0 block.types

place-of_item : (n : ℕ) (es : List Named) (id : GlobalId) (p : Place) → AllOf n es → place_of id es ≡ Some p → p.item ≡ n
place-of_item n [] id p all h = cc
place-of_item n (e ∷ es) id p all h =
    elim (same_id id e.0) as (λ b. cond b (Some e.1) (place_of id es) ≡ Some p → p.item ≡ n) [
      | true ↦ λ k. let q : e.1 ≡ p = cc in subst (λ (z : Place). z.item ≡ n) q all.0
      | false ↦ λ k. place-of_item n es id p all.1 k
    ] h

-- Each place of an item stands for something.
stands-some : (item : Item) (p : Place) → (m : Meaning) × (stands_at item p ≡ Some m)
stands-some (declared (axiom_of id type)) p = (constant type None, refl)
stands-some (declared (transparent id type body)) p = (constant type (Some body), refl)
stands-some (declared (opaque id type body)) p = (constant type None, refl)
stands-some (declared (inductive block)) p = (in_whole block p.index p.constructor, refl)
stands-some (bare block) p = (bare_type block p.index, refl)

-- What is known of an id where its place is known: the item is there, declares the id, and gives it its meaning.
pub record IsFound (n : ℕ) (E : Environment) (id : GlobalId) (p : Place) (other : Item) : Type 0 where
  pub from : n ≤ p.item
  pub within : p.item - n < length E
  pub means : meaning E id ≡ stands_at (slice_index_or E (p.item - n) other) p
  pub whose : item_of E id ≡ Some (slice_index_or E (p.item - n) other)

or_else-some : {A : Type 0} (a b : Option A) (x : A) → a ≡ Some x → or_else a b ≡ a
or_else-some None b x h = cc
or_else-some (Some y) b x h = refl

found-first : (n : ℕ) (item : Item) (E : Environment) (id : GlobalId) (p : Place) (other : Item) → place_of id (item_places n item) ≡ Some p →
    IsFound n (item ∷ E) id p other
found-first n item E id p other h =
    let at : p.item ≡ n = place-of_item n (item_places n item) id p (places-of n item) h in
    let z : p.item - n ≡ 0 = omega (arith, at) in
    let here : item_meaning item id ≡ stands_at item p = item-means n item id ∙ ap (option_and_then (stands_at item)) h in
    let some = stands-some item p in
    let among : is_among id (item_ids item) ≡ true = item-among n item id ∙ ap is_some h in
    record {
      from = omega (arith, at);
      within = omega (arith, at);
      means = rw z (or_else-some (item_meaning item id) (meaning E id) some.0 (here ∙ some.1) ∙ here);
      whose = rw (z, among) refl;
    }

found-later : (n : ℕ) (item : Item) (E : Environment) (id : GlobalId) (p : Place) (other : Item) → place_of id (item_places n item) ≡ None →
    IsFound (n + 1) E id p other → IsFound n (item ∷ E) id p other
found-later n item E id p other h f =
    let z : p.item - n ≡ suc (p.item - (n + 1)) = omega (arith, f.from) in
    let here : item_meaning item id ≡ None = item-means n item id ∙ ap (option_and_then (stands_at item)) h in
    let among : is_among id (item_ids item) ≡ false = item-among n item id ∙ ap is_some h in
    record {
      from = omega (arith, f.from);
      within = omega (arith, f.from, f.within);
      means = rw (z, here) f.means;
      whose = rw (z, among) f.whose;
    }

pub place-found : (n : ℕ) (E : Environment) (id : GlobalId) (p : Place) (other : Item) → place_of id (places_from n E) ≡ Some p → IsFound n E id p other
place-found n [] id p other h = cc
place-found n (item ∷ E) id p other h =
    elim (place_of id (item_places n item)) as (λ first. place_of id (item_places n item) ≡ first → or_else first (place_of id (places_from (n + 1) E)) ≡ Some p → IsFound n (item ∷ E) id p other) [
      | None ↦ λ e k. found-later n item E id p other e (place-found (n + 1) E id p other k)
      | Some q ↦ λ e k. found-first n item E id p other (e ∙ k)
    ] refl (sym (lookup-append (same_id id) (item_places n item) (places_from (n + 1) E)) ∙ h)

pub place-absent : (n : ℕ) (E : Environment) (id : GlobalId) → place_of id (places_from n E) ≡ None → (meaning E id ≡ None) × (item_of E id ≡ None)
place-absent n [] id h = (refl, refl)
place-absent n (item ∷ E) id h =
    elim (place_of id (item_places n item)) as (λ first. place_of id (item_places n item) ≡ first → or_else first (place_of id (places_from (n + 1) E)) ≡ None →
    (meaning (item ∷ E) id ≡ None) × (item_of (item ∷ E) id ≡ None)) [
      | None ↦ λ e k.
          let here : item_meaning item id ≡ None = item-means n item id ∙ ap (option_and_then (stands_at item)) e in
          let among : is_among id (item_ids item) ≡ false = item-among n item id ∙ ap is_some e in
          let ih = place-absent (n + 1) E id k in
          (rw here ih.0, rw among ih.1)
      | Some q ↦ λ e k. cc
    ] refl (sym (lookup-append (same_id id) (item_places n item) (places_from (n + 1) E)) ∙ h)

-- Whether an id is among ids, by its place.
true-false : true ≡ false → ⊥
true-false h = cc

pub there-contains : (id : GlobalId) (ids : List GlobalId) → list_any (same_id id) ids ≡ true → Contains ids id
there-contains id [] h = absurd (true-false (sym h))
there-contains id (x ∷ xs) h =
    elim (same_id id x) as (λ b. same_id id x ≡ b → (b || list_any (same_id id) xs) ≡ true → Contains (x ∷ xs) id) [
      | true ↦ λ q e. (0, omega arith, sym ((same_id_decides id x).0 q))
      | false ↦ λ q e. let ih = there-contains id xs e in (suc ih.0, omega (arith, ih.1), ih.2)
    ] refl h

pub Contains-one : (first id : GlobalId) → Contains (first ∷ []) id → first ≡ id
Contains-one first id has = let z : has.0 ≡ 0 = omega (arith, has.1) in rw z at has.2

pub absent-lacks : (id : GlobalId) (ids : List GlobalId) → list_any (same_id id) ids ≡ false → Contains ids id → ⊥
absent-lacks id [] h has = omega (arith, has.1)
absent-lacks id (x ∷ xs) h has =
    elim (same_id id x) as (λ b. same_id id x ≡ b → (b || list_any (same_id id) xs) ≡ false → ⊥) [
      | true ↦ λ q e. true-false e
      | false ↦ λ q e. elim (Contains-append_cases (x ∷ []) xs id has) [
        | inl here ↦ let k : true ≡ false = sym ((same_id_decides id x).1 (sym (Contains-one x id here))) ∙ q in true-false k
        | inr there ↦ absent-lacks id xs e there
      ]
    ] refl h

pub place-there : (id : GlobalId) (es : List Named) → is_some (place_of id es) ≡ true → Contains (keys_of es) id
place-there id es h = there-contains id (keys_of es) (among-by_place id es ∙ h)

pub place-lacks : (id : GlobalId) (es : List Named) → is_some (place_of id es) ≡ false → Contains (keys_of es) id → ⊥
place-lacks id es h = absent-lacks id (keys_of es) (among-by_place id es ∙ h)

pub none-of_false : (o : Option Place) → is_some o ≡ false → o ≡ None
none-of_false None h = refl
none-of_false (Some p) h = absurd (true-false h)

-- Whether an environment declares an id, by the id's place.
pub declared-by_place : (E : Environment) (es : List Named) (id : GlobalId) (answer : Bool) → es ≡ places_from 0 E → answer ≡ is_some (place_of id es) →
    IsTrue answer ↔ Contains (environment_ids E) id
declared-by_place E es id answer e is =
    let keys : keys_of es ≡ environment_ids E = ap (λ (z : List Named). keys_of z) e ∙ environment-keys 0 E in (
      λ yes. subst (λ (ids : List GlobalId). Contains ids id) keys (place-there id es (sym is ∙ yes)),
      λ has.
          elim answer as (λ b. answer ≡ b → b ≡ true) [
            | true ↦ λ q. refl
            | false ↦ λ q. absurd (place-lacks id es (sym is ∙ q) (subst (λ (ids : List GlobalId). Contains ids id) (sym keys) has))
          ] refl,
    )
