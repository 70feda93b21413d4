-- Chains that are parted and joined, and lists of tagged constraints.
use Rattle.std.proofs.Common.{◌≡◌, ℕ, zero, suc, ◌+◌, ◌<◌, ◌⊎◌, inl, inr, Bool, true, false, List, [], ◌∷◌, ◌++◌, length, Contains, slice_index_or, get_or, take, drop, ◌≤◌, refl, sym, ap, ◌∙◌, subst, arith, add-one, drop-cons}
use Rattle.std.specs.Prelude.{◌||◌}
use Rattle.cic_names.specs.declared.level.Level.{Level}
use Rattle.cic_names.specs.declared.constraint.Constraint.{Constraint}
use Rattle.cic_names.specs.Orders.{level_order}
use Rattle.cic_rules.specs.Numbering.{Chain, LeftOfNone, DistinctLefts, NoneBelow, IsCycle}
use Rattle.univ_cycles.specs.declared.cycle.Tagged.{Tagged}
use Rattle.univ_cycles.specs.Numbers.{constraints}
use Rattle.std.proofs.Math.Seq.{take-suc}
use Rattle.std.proofs.lemmas.List.{take-append-drop}
use Rattle.std.proofs.lemmas.List.Elements.{Contains-append_left, Contains-append_right, Contains-append_cases}
use Rattle.univ_cycles.specs.calls.Walks.{has_strict, IsLoopOf, IsPartOf, StartsAt}
use Rattle.std.specs.declared.cmp.Ordering.TheVariants.{Less, Equal}
use Rattle.cic_names.proofs.OrderLaws.{level_order_total, level_order_decides}

pub constraints_append : (xs ys : List Tagged) → constraints (xs ++ ys) ≡ constraints xs ++ constraints ys
constraints_append [] ys = refl
constraints_append (x ∷ xs) ys = ap (λ (z : List Constraint). x.constraint ∷ z) (constraints_append xs ys)

pub chain_part : (from : Level) (xs ys : List Constraint) (to : Level) → Chain from (xs ++ ys) to → (m : Level) × Chain from xs m × Chain m ys to
chain_part from [] ys to h = (from, refl, h)
chain_part from (x ∷ xs) ys to h = let r = chain_part x.right xs ys to h.1 in (r.0, (h.0, r.1), r.2)

pub chain_join : (from : Level) (xs ys : List Constraint) (m to : Level) → Chain from xs m → Chain m ys to → Chain from (xs ++ ys) to
chain_join from [] ys m to h k = subst (λ (z : Level). Chain z ys to) (sym h) k
chain_join from (x ∷ xs) ys m to h k = (h.0, chain_join x.right xs ys m to h.1 k)

pub none_append : (l : Level) (xs ys : List Constraint) → LeftOfNone l xs → LeftOfNone l ys → LeftOfNone l (xs ++ ys)
none_append l [] ys h k = k
none_append l (x ∷ xs) ys h k = (h.0, none_append l xs ys h.1 k)

pub none_left : (l : Level) (xs ys : List Constraint) → LeftOfNone l (xs ++ ys) → LeftOfNone l xs
none_left l [] ys h = tt
none_left l (x ∷ xs) ys h = (h.0, none_left l xs ys h.1)

pub none_right : (l : Level) (xs ys : List Constraint) → LeftOfNone l (xs ++ ys) → LeftOfNone l ys
none_right l [] ys h = h
none_right l (x ∷ xs) ys h = none_right l xs ys h.1

pub below_append : (l : Level) (xs ys : List Constraint) → NoneBelow l xs → NoneBelow l ys → NoneBelow l (xs ++ ys)
below_append l [] ys h k = k
below_append l (x ∷ xs) ys h k = (h.0, below_append l xs ys h.1 k)

pub below_left : (l : Level) (xs ys : List Constraint) → NoneBelow l (xs ++ ys) → NoneBelow l xs
below_left l [] ys h = tt
below_left l (x ∷ xs) ys h = (h.0, below_left l xs ys h.1)

pub below_right : (l : Level) (xs ys : List Constraint) → NoneBelow l (xs ++ ys) → NoneBelow l ys
below_right l [] ys h = h
below_right l (x ∷ xs) ys h = below_right l xs ys h.1

not_below_itself : (l : Level) → level_order l l ≡ Less → ⊥
not_below_itself l h = let e : level_order l l ≡ Equal = (level_order_decides l l).1 refl in absurd (cc)

pub none_below_lower : (l m : Level) (xs : List Constraint) → level_order m l ≡ Less → NoneBelow l xs → NoneBelow m xs
none_below_lower l m [] b h = tt
none_below_lower l m (x ∷ xs) b h =
    (λ k. h.0 (level_order_total.trans x.left m l k b), none_below_lower l m xs b h.1)

pub distinct_left : (xs ys : List Constraint) → DistinctLefts (xs ++ ys) → DistinctLefts xs
distinct_left [] ys h = tt
distinct_left (x ∷ xs) ys h = (none_left x.left xs ys h.0, distinct_left xs ys h.1)

pub distinct_right : (xs ys : List Constraint) → DistinctLefts (xs ++ ys) → DistinctLefts ys
distinct_right [] ys h = h
distinct_right (x ∷ xs) ys h = distinct_right xs ys h.1

pub distinct_snoc : (xs : List Constraint) (e : Constraint) → DistinctLefts xs → LeftOfNone e.left xs → DistinctLefts (xs ++ e ∷ [])
distinct_snoc [] e h n = (tt, tt)
distinct_snoc (x ∷ xs) e h n =
    (none_append x.left xs (e ∷ []) h.0 (λ k. n.0 (sym k), tt), distinct_snoc xs e h.1 n.1)

-- No left level of the one is one of the other.
abbrev pub Apart : List Constraint → List Constraint → Type 0
Apart [] ys = Unit {0}
Apart (x ∷ xs) ys = LeftOfNone x.left ys × Apart xs ys

pub distinct_apart : (xs ys : List Constraint) → DistinctLefts (xs ++ ys) → Apart xs ys
distinct_apart [] ys h = tt
distinct_apart (x ∷ xs) ys h = (none_right x.left xs ys h.0, distinct_apart xs ys h.1)

apart_nothing : (xs : List Constraint) → Apart xs []
apart_nothing [] = tt
apart_nothing (x ∷ xs) = (tt, apart_nothing xs)

apart_more : (xs ys : List Constraint) (y : Constraint) → LeftOfNone y.left xs → Apart xs ys → Apart xs (y ∷ ys)
apart_more [] ys y n h = tt
apart_more (x ∷ xs) ys y n h = ((λ k. n.0 (sym k), h.0), apart_more xs ys y n.1 h.1)

apart_fewer : (xs ys : List Constraint) (y : Constraint) → Apart xs (y ∷ ys) → Apart xs ys
apart_fewer [] ys y h = tt
apart_fewer (x ∷ xs) ys y h = (h.0.1, apart_fewer xs ys y h.1)

apart_first : (xs ys : List Constraint) (y : Constraint) → Apart xs (y ∷ ys) → LeftOfNone y.left xs
apart_first [] ys y h = tt
apart_first (x ∷ xs) ys y h = (λ k. h.0.0 (sym k), apart_first xs ys y h.1)

pub apart_turned : (xs ys : List Constraint) → Apart xs ys → Apart ys xs
apart_turned xs [] h = tt
apart_turned xs (y ∷ ys) h = (apart_first xs ys y h, apart_turned xs ys (apart_fewer xs ys y h))

pub distinct_join : (xs ys : List Constraint) → DistinctLefts xs → DistinctLefts ys → Apart xs ys → DistinctLefts (xs ++ ys)
distinct_join [] ys h k a = k
distinct_join (x ∷ xs) ys h k a = (none_append x.left xs ys h.0 a.0, distinct_join xs ys h.1 k a.1)

or_assoc : (a b c : Bool) → (a || (b || c)) ≡ ((a || b) || c)
or_assoc true b c = refl
or_assoc false b c = refl

pub strict_append : (xs ys : List Tagged) → has_strict (xs ++ ys) ≡ (has_strict xs || has_strict ys)
strict_append [] ys = refl
strict_append (x ∷ xs) ys =
    ap (λ (b : Bool). x.constraint.strict || b) (strict_append xs ys) ∙ or_assoc x.constraint.strict (has_strict xs) (has_strict ys)

pub drop_here : (xs : List Tagged) (i : ℕ) (x : Tagged) → i < length xs → x ≡ get_or xs i x → drop i xs ≡ x ∷ drop (i + 1) xs
drop_here xs i x lt at = let d = drop-cons xs i x lt in rw add-one (cc)

pub get_any : (xs : List Tagged) (i : ℕ) (s t : Tagged) → i < length xs → get_or xs i s ≡ get_or xs i t
get_any [] i s t lt = absurd (omega arith)
get_any (x ∷ xs) zero s t lt = refl
get_any (x ∷ xs) (suc i) s t lt = get_any xs i s t (omega arith)

take_all : (xs : List Tagged) (n : ℕ) → length xs ≤ n → take n xs ≡ xs
take_all [] zero h = refl
take_all [] (suc n) h = refl
take_all (x ∷ xs) zero h = absurd (omega arith)
take_all (x ∷ xs) (suc n) h = ap (λ (z : List Tagged). x ∷ z) (take_all xs n (omega arith))

take_here : (xs : List Tagged) (i : ℕ) (x : Tagged) → i < length xs → x ≡ get_or xs i x → constraints (take (i + 1) xs) ≡ constraints (take i xs) ++ x.constraint ∷ []
take_here xs i x lt at =
    let e = take-suc xs i x lt in
    let f : take (i + 1) xs ≡ take i xs ++ x ∷ [] = rw add-one (cc) in
    ap constraints f ∙ constraints_append (take i xs) (x ∷ [])

-- One more step.
below_more_steps : (l : Level) (xs : List Tagged) (i : ℕ) (x : Tagged) → i < length xs → x ≡ get_or xs i x →
    NoneBelow l (constraints (take i xs)) → (level_order x.constraint.left l ≡ Less → ⊥) → NoneBelow l (constraints (take (i + 1) xs))
below_more_steps l xs i x lt at h n =
    subst (λ (z : List Constraint). NoneBelow l z) (sym (take_here xs i x lt at)) (below_append l (constraints (take i xs)) (x.constraint ∷ []) h (n, tt))

-- The place is a new one, or the old one.
pub least_new : (xs : List Tagged) (i p : ℕ) (x y : Tagged) → i < length xs → x ≡ get_or xs i x → p < length xs → y ≡ get_or xs p y →
    level_order x.constraint.left y.constraint.left ≡ Less →
    ((t : Tagged) → NoneBelow (get_or xs p t).constraint.left (constraints (take i xs))) →
    (t : Tagged) → NoneBelow (get_or xs i t).constraint.left (constraints (take (i + 1) xs))
least_new xs i p x y lt at plt pat b h t =
    let old : NoneBelow y.constraint.left (constraints (take i xs)) =
    subst (λ (z : Tagged). NoneBelow z.constraint.left (constraints (take i xs))) (sym pat) (h y) in
    let new : NoneBelow x.constraint.left (constraints (take (i + 1) xs)) =
    below_more_steps x.constraint.left xs i x lt at
    (none_below_lower y.constraint.left x.constraint.left (constraints (take i xs)) b old) (not_below_itself x.constraint.left) in
    subst (λ (z : Tagged). NoneBelow z.constraint.left (constraints (take (i + 1) xs))) (at ∙ get_any xs i x t lt) new

pub least_old : (xs : List Tagged) (i p : ℕ) (x y : Tagged) → i < length xs → x ≡ get_or xs i x → p < length xs → y ≡ get_or xs p y →
    (level_order x.constraint.left y.constraint.left ≡ Less → ⊥) →
    ((t : Tagged) → NoneBelow (get_or xs p t).constraint.left (constraints (take i xs))) →
    (t : Tagged) → NoneBelow (get_or xs p t).constraint.left (constraints (take (i + 1) xs))
least_old xs i p x y lt at plt pat b h t =
    let old : NoneBelow y.constraint.left (constraints (take i xs)) =
    subst (λ (z : Tagged). NoneBelow z.constraint.left (constraints (take i xs))) (sym pat) (h y) in
    let new : NoneBelow y.constraint.left (constraints (take (i + 1) xs)) = below_more_steps y.constraint.left xs i x lt at old b in
    subst (λ (z : Tagged). NoneBelow z.constraint.left (constraints (take (i + 1) xs))) (pat ∙ get_any xs p y t plt) new

pub least_all : (l : Level) (xs : List Tagged) (n : ℕ) → length xs ≤ n → NoneBelow l (constraints (take n xs)) → NoneBelow l (constraints xs)
least_all l xs n h k = subst (λ (z : List Tagged). NoneBelow l (constraints z)) (take_all xs n h) k

-- ---- leaving out what comes back

-- The path so far and what is left of the walk.
pub record IsPath (start : Level) (walk path rest : List Tagged) : Type 0 where
  pub chain : Chain start (constraints path ++ constraints rest) start
  pub distinct : DistinctLefts (constraints path)
  pub strict : (has_strict path || has_strict rest) ≡ true
  pub part : IsPartOf path walk

part_member : (walk : List Tagged) (i : ℕ) (e : Tagged) → i < length walk → e ≡ get_or walk i e → Contains walk e
part_member walk i e lt at = (i, lt, sym at)

part_left : (walk ks ds : List Tagged) → IsPartOf (ks ++ ds) walk → IsPartOf ks walk
part_left walk ks ds h t m = h t (Contains-append_left ks ds t m)

part_right : (walk ks ds : List Tagged) → IsPartOf (ks ++ ds) walk → IsPartOf ds walk
part_right walk ks ds h t m = h t (Contains-append_right ks ds t m)

pub one_member : (e t : Tagged) → Contains (e ∷ []) t → e ≡ t
one_member e t m = by m.0 m.1 m.2
  where
    by : (k : ℕ) → k < 1 → slice_index_or (e ∷ []) k t ≡ t → e ≡ t
    by zero lt at = at
    by (suc k) lt at = absurd (omega arith)

part_snoc : (walk ks : List Tagged) (e : Tagged) → IsPartOf ks walk → Contains walk e → IsPartOf (ks ++ e ∷ []) walk
part_snoc walk ks e h m t k = elim (Contains-append_cases ks (e ∷ []) t k) [
  | inl a ↦ h t a
  | inr b ↦ subst (λ (z : Tagged). Contains walk z) (one_member e t b) m
]

-- Where the path leads to the step at hand, in two parts.
pub record Meets (start : Level) (ks ds rest : List Tagged) (e : Tagged) : Type 0 where
  pub turn : Level
  pub kept : Chain start (constraints ks) turn
  pub returned : Chain turn (constraints ds) e.constraint.left
  pub after : Chain e.constraint.right (constraints rest) start

meets_of : (start : Level) (ks ds rest : List Tagged) (e : Tagged) → Chain start (constraints (ks ++ ds) ++ constraints (e ∷ rest)) start → Meets start ks ds rest e
meets_of start ks ds rest e h =
    let a = chain_part start (constraints (ks ++ ds)) (constraints (e ∷ rest)) start h in
    let path : Chain start (constraints (ks ++ ds)) e.constraint.left =
    subst (λ (z : Level). Chain start (constraints (ks ++ ds)) z) (sym a.2.0) a.1 in
    let split : Chain start (constraints ks ++ constraints ds) e.constraint.left =
    subst (λ (z : List Constraint). Chain start z e.constraint.left) (constraints_append ks ds) path in
    let b = chain_part start (constraints ks) (constraints ds) e.constraint.left split in
    record { turn = b.0; kept = b.1; returned = b.2; after = a.2.1 }

turn_at : (start m : Level) (ds : List Tagged) (to : Level) → StartsAt to ds → Chain m (constraints ds) to → m ≡ to
turn_at start m [] to s h = h
turn_at start m (d ∷ ds) to s h = sym h.0 ∙ s

pub loop_found : (start : Level) (walk ks ds rest : List Tagged) (e : Tagged) → StartsAt e.constraint.left ds → IsPath start walk (ks ++ ds) (e ∷ rest) →
    has_strict ds ≡ true → IsLoopOf walk ds
loop_found start walk ks ds rest e s p st =
    let m = meets_of start ks ds rest e p.chain in
    let t : m.turn ≡ e.constraint.left = turn_at start m.turn ds e.constraint.left s m.returned in
    record {
      start = e.constraint.left;
      closed = subst (λ (z : Level). Chain z (constraints ds) e.constraint.left) t m.returned;
      strict = st;
      distinct = distinct_right (constraints ks) (constraints ds) (subst DistinctLefts (constraints_append ks ds) p.distinct);
      part = part_right walk ks ds p.part;
    }

or_false : (a b : Bool) → b ≡ false → (a || b) ≡ a
or_false true b h = refl
or_false false b h = h

strict_moved : (a b c : Bool) → ((a || (b || false)) || c) ≡ (a || (b || c))
strict_moved true b c = refl
strict_moved false true c = refl
strict_moved false false c = refl

pub path_grows : (start : Level) (walk ks ds rest : List Tagged) (e : Tagged) → Contains walk e → StartsAt e.constraint.left ds → LeftOfNone e.constraint.left (constraints ks) →
    IsPath start walk (ks ++ ds) (e ∷ rest) → has_strict ds ≡ false → IsPath start walk (ks ++ e ∷ []) rest
path_grows start walk ks ds rest e member s n p st =
    let m = meets_of start ks ds rest e p.chain in
    let t : m.turn ≡ e.constraint.left = turn_at start m.turn ds e.constraint.left s m.returned in
    let kept : Chain start (constraints ks) e.constraint.left = subst (λ (z : Level). Chain start (constraints ks) z) t m.kept in
    let last : Chain e.constraint.left (e.constraint ∷ []) e.constraint.right = (refl, refl) in
    let longer = chain_join start (constraints ks) (e.constraint ∷ []) e.constraint.left e.constraint.right kept last in
    let c = sym (constraints_append ks (e ∷ [])) in
    let joined : Chain start (constraints (ks ++ e ∷ [])) e.constraint.right = subst (λ (z : List Constraint). Chain start z e.constraint.right) c longer in
    let d = distinct_left (constraints ks) (constraints ds) (subst DistinctLefts (constraints_append ks ds) p.distinct) in
    let before : has_strict (ks ++ ds) ≡ has_strict ks = strict_append ks ds ∙ or_false (has_strict ks) (has_strict ds) st in
    record {
      chain = chain_join start (constraints (ks ++ e ∷ [])) (constraints rest) e.constraint.right start joined m.after;
      distinct = subst DistinctLefts c (distinct_snoc (constraints ks) e.constraint d n);
      strict =
          ap (λ (b : Bool). b || has_strict rest) (strict_append ks (e ∷ []))
          ∙ strict_moved (has_strict ks) e.constraint.strict (has_strict rest)
          ∙ ap (λ (b : Bool). b || (e.constraint.strict || has_strict rest)) (sym before) ∙ p.strict;
      part = part_snoc walk ks e (part_left walk ks ds p.part) member;
    }

-- ---- beginning at the least level

pub strict_some : (xs : List Tagged) → has_strict xs ≡ true → 1 ≤ length xs
strict_some [] h = absurd (cc)
strict_some (x ∷ xs) h = omega arith

true_or : (b : Bool) → (b ≡ true) ⊎ (b ≡ false)
true_or true = inl refl
true_or false = inr refl

strict_member : (xs : List Tagged) → has_strict xs ≡ true → (c : Constraint) × Contains (constraints xs) c × (c.strict ≡ true)
strict_member [] h = absurd (cc)
strict_member (x ∷ xs) h = elim (true_or x.constraint.strict) [
  | inl t ↦ (x.constraint, (zero, omega arith, refl), t)
  | inr f ↦
      let rest : has_strict xs ≡ true = sym (ap (λ (b : Bool). b || has_strict xs) f) ∙ h in
      let r = strict_member xs rest in
      let lt : r.1.0 < length (constraints xs) = r.1.1 in
      (r.0, (suc r.1.0, omega arith, r.1.2), r.2)
]

or_turned : (a b : Bool) → (a || b) ≡ (b || a)
or_turned true true = refl
or_turned true false = refl
or_turned false true = refl
or_turned false false = refl

pub record IsTurned (walk steps : List Tagged) : Type 0 where
  pub cycle : IsCycle (constraints steps)
  pub part : IsPartOf steps walk

turned_parts : (walk xs ys : List Tagged) (y : Tagged) → IsLoopOf walk (xs ++ y ∷ ys) → NoneBelow y.constraint.left (constraints (xs ++ y ∷ ys)) → IsTurned walk ((y ∷ ys) ++ xs)
turned_parts walk xs ys y h low =
    let c = constraints_append xs (y ∷ ys) in
    let d = sym (constraints_append (y ∷ ys) xs) in
    let a = chain_part h.start (constraints xs) (constraints (y ∷ ys)) h.start (subst (λ (z : List Constraint). Chain h.start z h.start) c h.closed) in
    let m : y.constraint.left ≡ a.0 = a.2.0 in
    let round = chain_join a.0 (constraints (y ∷ ys)) (constraints xs) h.start a.0 a.2 a.1 in
    let at : Chain y.constraint.left (constraints (y ∷ ys) ++ constraints xs) y.constraint.left =
    subst (λ (z : Level). Chain z (constraints (y ∷ ys) ++ constraints xs) z) (sym m) round in
    let apart = subst DistinctLefts c h.distinct in
    let lower = subst (λ (z : List Constraint). NoneBelow y.constraint.left z) c low in
    record {
      cycle = record {
        start = y.constraint.left;
        chain = subst (λ (z : List Constraint). Chain y.constraint.left z y.constraint.left) d at;
        strict = strict_member ((y ∷ ys) ++ xs) (strict_append (y ∷ ys) xs ∙ or_turned (has_strict (y ∷ ys)) (has_strict xs) ∙ sym (strict_append xs (y ∷ ys)) ∙ h.strict);
        distinct = subst DistinctLefts d
            (distinct_join (constraints (y ∷ ys)) (constraints xs) (distinct_right (constraints xs) (constraints (y ∷ ys)) apart) (distinct_left (constraints xs) (constraints (y ∷ ys)) apart)
            (apart_turned (constraints xs) (constraints (y ∷ ys)) (distinct_apart (constraints xs) (constraints (y ∷ ys)) apart)));
        least = subst (λ (z : List Constraint). NoneBelow y.constraint.left z) d
            (below_append y.constraint.left (constraints (y ∷ ys)) (constraints xs)
            (below_right y.constraint.left (constraints xs) (constraints (y ∷ ys)) lower) (below_left y.constraint.left (constraints xs) (constraints (y ∷ ys)) lower));
      };
      part = λ t k. h.part t (elim (Contains-append_cases (y ∷ ys) xs t k) [
        | inl b ↦ Contains-append_right xs (y ∷ ys) t b
        | inr b ↦ Contains-append_left xs (y ∷ ys) t b
      ]);
    }

pub turned : (walk xs zs : List Tagged) (k : ℕ) → IsLoopOf walk xs → k < length xs → zs ≡ drop k xs ++ take k xs →
    ((t : Tagged) → NoneBelow (get_or xs k t).constraint.left (constraints xs)) → IsTurned walk zs
turned walk [] zs k h lt e low = absurd (omega arith)
turned walk (x ∷ rest) zs k h lt e low =
    let xs : List Tagged = x ∷ rest in
    let y : Tagged = get_or xs k x in
    let d : drop k xs ≡ y ∷ drop (suc k) xs = drop-cons xs k x lt in
    let whole : take k xs ++ (y ∷ drop (suc k) xs) ≡ xs = ap (λ (z : List Tagged). take k xs ++ z) (sym d) ∙ take-append-drop k xs in
    let loop = subst (λ (z : List Tagged). IsLoopOf walk z) (sym whole) h in
    let lower = subst (λ (z : List Tagged). NoneBelow y.constraint.left (constraints z)) (sym whole) (low x) in
    let t = turned_parts walk (take k xs) (drop (suc k) xs) y loop lower in
    subst (λ (z : List Tagged). IsTurned walk z) (sym (e ∙ ap (λ (z : List Tagged). z ++ take k xs) d)) t
