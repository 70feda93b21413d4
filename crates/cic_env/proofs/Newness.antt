-- Ids that are new, one after the other.
use Rattle.std.proofs.Common.{◌≡◌, ℕ, ◌+◌, ◌<◌, ◌≤◌, inl, inr, ◌⊎◌, List, [], ◌∷◌, ◌++◌, length, get_or, take, drop, refl, sym, ap, subst, ◌∙◌, arith, append_assoc, Contains}
use Rattle.std.specs.Map.{keys_of}
use Rattle.std.proofs.lemmas.List.{map-append, drop_more, take_more, take_all, take-append-drop}
use Rattle.memory.specs.Telling.{OrNoMemory}
use Rattle.std.proofs.lemmas.List.Elements.{Contains-append_cases, Contains-append_right, Contains-append_left, Contains-push_cases}
use Rattle.cic_names.specs.declared.name.GlobalId.{GlobalId}
use Rattle.cic_rules.specs.Formed.{Distinct}
use Rattle.cic_env.specs.NewIds.{AreNew, HasTwice, HasTaken}
use Rattle.cic_env.specs.calls.Places.{Named}
use Rattle.cic_env.specs.calls.Naming.{reason}
use Rattle.cic_env.specs.declared.naming.NameFault.{NameFault}
use Rattle.cic_env.specs.declared.naming.NameFault.TheVariants.{Taken, NoMemory}
use Rattle.cic_env.proofs.Lookups.{Contains-one}

pub contains_cases : (x id : GlobalId) (ids : List GlobalId) → Contains (x ∷ ids) id → (x ≡ id) ⊎ Contains ids id
contains_cases x id ids has = elim (Contains-append_cases (x ∷ []) ids id has) [
  | inl here ↦ inl (Contains-one x id here)
  | inr there ↦ inr there
]

pub contains_here : (x : GlobalId) (ids : List GlobalId) → Contains (x ∷ ids) x
contains_here x ids = (0, omega arith, refl)

pub contains_later : (x id : GlobalId) (ids : List GlobalId) → Contains ids id → Contains (x ∷ ids) id
contains_later x id ids has = Contains-append_right (x ∷ []) ids id has

distinct-more : (ids : List GlobalId) (id : GlobalId) → Distinct ids → (Contains ids id → ⊥) → Distinct (ids ++ id ∷ [])
distinct-more [] id d fresh = (λ has. omega (arith, has.1), tt)
distinct-more (x ∷ xs) id d fresh = (
  λ has. elim (Contains-push_cases xs id x has) [
    | inl before ↦ d.0 before
    | inr same ↦ fresh (subst (λ z. Contains (x ∷ xs) z) (sym same) (contains_here x xs))
  ],
  distinct-more xs id d.1 (λ has. fresh (contains_later x id xs has)),
)

pub new-none : (before : List GlobalId) → AreNew before []
new-none before = (tt, λ id has. absurd (omega (arith, has.1)))

-- After no ids, ids are new where they differ.
pub new-alone : (before ids : List GlobalId) → before ≡ [] → Distinct ids → AreNew before ids
new-alone before ids none d = (d, λ id has there. let empty : Contains [] id = subst (λ z. Contains z id) none there in omega (arith, empty.1))

-- One more id that is new.
pub new-more : (before ids : List GlobalId) (id : GlobalId) → AreNew before ids → (Contains (before ++ ids) id → ⊥) → AreNew before (ids ++ id ∷ [])
new-more before ids id new fresh = (
  distinct-more ids id new.0 (λ has. fresh (Contains-append_right before ids id has)),
  λ other has.
      elim (Contains-push_cases ids id other has) [
        | inl earlier ↦ new.1 other earlier
        | inr same ↦ λ there. fresh (Contains-append_left before ids id (subst (λ z. Contains before z) (sym same) there))
      ],
)

twice-more : (ids rest : List GlobalId) (id : GlobalId) → Contains ids id → HasTwice (ids ++ id ∷ rest)
twice-more [] rest id has = absurd (omega (arith, has.1))
twice-more (x ∷ xs) rest id has = elim (contains_cases x id xs has) [
  | inl same ↦ inl (subst (λ z. Contains (xs ++ id ∷ rest) z) (sym same) (Contains-append_right xs (id ∷ rest) id (contains_here id rest)))
  | inr later ↦ inr (twice-more xs rest id later)
]

-- An id that is not new.
pub taken-here : (before ids rest : List GlobalId) (id : GlobalId) → Contains (before ++ ids) id → HasTaken before (ids ++ id ∷ rest)
taken-here before ids rest id has = elim (Contains-append_cases before ids id has) [
  | inl there ↦ inl (id, Contains-append_right ids (id ∷ rest) id (contains_here id rest), there)
  | inr earlier ↦ inr (twice-more ids rest id earlier)
]

distinct-twice : (ids : List GlobalId) → Distinct ids → HasTwice ids → ⊥
distinct-twice [] d h = h
distinct-twice (x ∷ xs) d h = elim h [
  | inl has ↦ d.0 has
  | inr later ↦ distinct-twice xs d.1 later
]

-- Ids that are new have none that is taken.
pub new-taken : (before ids : List GlobalId) → AreNew before ids → HasTaken before ids → ⊥
new-taken before ids new taken = elim taken [
  | inl one ↦ new.1 one.0 one.1 one.2
  | inr twice ↦ distinct-twice ids new.0 twice
]

module _ (before names now : List Named) (i : ℕ) (e : Named) where
  keys_now : now ≡ before ++ take i names → keys_of now ≡ keys_of before ++ keys_of (take i names)
  keys_now at = ap (λ (l : List Named). keys_of l) at ∙ map-append (λ (n : Named). n.0) before (take i names)

  -- An id of a walked list that is there already.
  pub taken-in : i < length names → e ≡ get_or names i e → now ≡ before ++ take i names → Contains (keys_of now) e.0 → HasTaken (keys_of before) (keys_of names)
  taken-in lt is at has =
      let left : drop i names ≡ e ∷ drop (i + 1) names = drop_more names i e lt ∙ ap (λ (x : Named). x ∷ drop (i + 1) names) (sym is) in
      let parts : names ≡ take i names ++ e ∷ drop (i + 1) names = sym (take-append-drop i names) ∙ ap (λ (l : List Named). take i names ++ l) left in
      let keys : keys_of names ≡ keys_of (take i names) ++ e.0 ∷ keys_of (drop (i + 1) names) =
      ap (λ (l : List Named). keys_of l) parts ∙ map-append (λ (n : Named). n.0) (take i names) (e ∷ drop (i + 1) names) in
      rw keys (taken-here (keys_of before) (keys_of (take i names)) (keys_of (drop (i + 1) names)) e.0 (subst (λ ids. Contains ids e.0) (keys_now at) has))

  -- An id of a walked list that is new.
  pub new-in : i < length names → e ≡ get_or names i e → now ≡ before ++ take i names → AreNew (keys_of before) (keys_of (take i names)) →
      (Contains (keys_of now) e.0 → ⊥) → (later : List Named) → later ≡ now ++ e ∷ [] →
      (later ≡ before ++ take (i + 1) names) × AreNew (keys_of before) (keys_of (take (i + 1) names))
  new-in lt is at new fresh later one =
      let more : take (i + 1) names ≡ take i names ++ e ∷ [] = take_more names i e lt ∙ ap (λ (x : Named). take i names ++ x ∷ []) (sym is) in
      let keys : keys_of (take (i + 1) names) ≡ keys_of (take i names) ++ e.0 ∷ [] =
      ap (λ (l : List Named). keys_of l) more ∙ map-append (λ (n : Named). n.0) (take i names) (e ∷ []) in (
        one ∙ ap (λ (l : List Named). l ++ e ∷ []) at ∙ append_assoc before (take i names) (e ∷ []) ∙ ap (λ (l : List Named). before ++ l) (sym more),
        subst (λ ids. AreNew (keys_of before) ids) (sym keys)
            (new-more (keys_of before) (keys_of (take i names)) e.0 new (λ has. fresh (subst (λ ids. Contains ids e.0) (sym (keys_now at)) has))),
      )

-- The walked list as a whole.
pub new-all : (before names : List Named) (i : ℕ) → length names ≤ i → AreNew (keys_of before) (keys_of (take i names)) → AreNew (keys_of before) (keys_of names)
new-all before names i le new = subst (λ (l : List Named). AreNew (keys_of before) (keys_of l)) (take_all i names le) new

-- What a fault says.
pub fault-says : {P Q : Type 0} (fault : NameFault) → (P → Q) → OrNoMemory (reason fault) (λ _. P) → OrNoMemory (reason fault) (λ _. Q)
fault-says Taken f h = f h
fault-says NoMemory f h = tt

pub taken-says : {P : Type 0} (fault : NameFault) → fault ≡ Taken → OrNoMemory (reason fault) (λ _. P) → P
taken-says {P} fault e h = subst (λ (f : NameFault). OrNoMemory (reason f) (λ _. P)) e h

-- One id that is not there is new.
pub new-one : (before : List GlobalId) (id : GlobalId) → (Contains before id → ⊥) → AreNew before (id ∷ [])
new-one before id fresh =
    ((λ has. omega (arith, has.1), tt), λ other has there. fresh (subst (λ z. Contains before z) (sym (Contains-one id other has)) there))
