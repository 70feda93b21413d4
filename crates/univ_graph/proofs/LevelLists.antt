-- The names of the levels of constraints, each once, and the numbers that are kept for them.
-- So the kept numbers are a numbering, give each level the number at its place, and meet the constraints whose edges are met.
use Rattle.std.proofs.Common.{◌≡◌, ◌∙◌, ◌⊎◌, inl, inr, ◌<◌, ◌≤◌, ◌+◌, ℕ, zero, suc, List, [], ◌∷◌, ◌++◌, length, drop, true, false, refl, ap, sym, subst, arith}
use Rattle.std.specs.Prelude.{Option, Some, None, slice_get, MatchOption}
use Rattle.std.specs.Option.{option_map}
use Rattle.cic_names.specs.declared.level.LevelName.{LevelName}
use Rattle.cic_names.specs.declared.level.Level.{Level}
use Rattle.cic_names.specs.declared.level.Level.TheVariants.{Set, Named}
use Rattle.cic_names.specs.declared.constraint.Constraint.{Constraint}
use Rattle.cic_names.specs.Sameness.{same_level_name}
use Rattle.cic_rules.specs.Numbering.{Numbered, Numbering, level_number, NotNumbered, IsNumbering, MeetsAt, Meets, MeetsAll}
use Rattle.univ_graph.specs.declared.board.Edge.{Edge}
use Rattle.univ_cycles.specs.declared.numbers.LevelNumber.{LevelNumber}
use Rattle.univ_cycles.specs.Numbers.{constraints, numbering}
use Rattle.univ_cycles.specs.calls.Places.{level_at, paired, rest, IsAbsent, IsAbsentLevel, count_one}
use Rattle.univ_graph.specs.Kept.{with_name, with_level, with_ends, levels_from, levels_of}
use Rattle.univ_graph.specs.calls.Boards.{at, tagged, AreNumbers, IsTied, IsMet}
use Rattle.cic_names.proofs.Equality.{same_level_name_decides}
use Rattle.univ_cycles.proofs.LevelNumbers.{true_or_false, number_here, number_later}
use Rattle.univ_nodes.proofs.AtPlaces.{same_some, get_last, get_old}

pub with_known : (names : List LevelName) (l : LevelName) (p : ℕ) → slice_get names p ≡ Some l → with_name names l ≡ names
with_known [] l p h = absurd (cc)
with_known (n ∷ names) l zero h =
    let s : same_level_name n l ≡ true = subst (λ x. same_level_name n x ≡ true) (same_some n l h) ((same_level_name_decides n n).1 refl) in rw s refl
with_known (n ∷ names) l (suc p) h = elim (true_or_false (same_level_name n l)) [
  | inl t ↦ rw t refl
  | inr f ↦ rw f (ap (λ z. n ∷ z) (with_known names l p h))
]

pub with_new : (names : List LevelName) (l : LevelName) → IsAbsent l names → with_name names l ≡ names ++ l ∷ []
with_new [] l h = refl
with_new (n ∷ names) l h = elim (true_or_false (same_level_name n l)) [
  | inl t ↦ absurd (h 0 (ap Some ((same_level_name_decides n l).0 t)))
  | inr f ↦ rw f (ap (λ z. n ∷ z) (with_new names l (λ p. h (suc p))))
]

-- Distinct names.
abbrev pub AreDistinct : List LevelName → Type 0
AreDistinct [] = Unit {0}
AreDistinct (n ∷ names) = IsAbsent n names × AreDistinct names

front_absent : (m n : LevelName) (names : List LevelName) → (m ≡ n → ⊥) → IsAbsent n names → IsAbsent n (m ∷ names)
front_absent m n names ne h zero e = ne (same_some m n e)
front_absent m n names ne h (suc q) e = h q e

absent_with : (names : List LevelName) (n l : LevelName) → IsAbsent n names → (l ≡ n → ⊥) → IsAbsent n (with_name names l)
absent_with [] n l h ne = front_absent l n [] ne h
absent_with (m ∷ names) n l h ne = elim (true_or_false (same_level_name m l)) [
  | inl t ↦ rw t h
  | inr f ↦ rw f (front_absent m n (with_name names l) (λ e. h 0 (ap Some e)) (absent_with names n l (λ q. h (suc q)) ne))
]

pub distinct_with : (names : List LevelName) (l : LevelName) → AreDistinct names → AreDistinct (with_name names l)
distinct_with [] l h = (λ p e. absurd (cc), tt)
distinct_with (n ∷ names) l h = elim (true_or_false (same_level_name n l)) [
  | inl t ↦ rw t h
  | inr f ↦ rw f (absent_with names n l h.0 (λ e. absurd (differ n l f e)), distinct_with names l h.1)
]
  where
    differ : (a b : LevelName) → same_level_name a b ≡ false → b ≡ a → ⊥
    differ a b f e = let t : same_level_name a b ≡ true = subst (λ x. same_level_name a x ≡ true) (sym e) ((same_level_name_decides a a).1 refl) in absurd (cc)

distinct_level : (names : List LevelName) (l : Level) → AreDistinct names → AreDistinct (with_level names l)
distinct_level names Set h = h
distinct_level names (Named l) h = distinct_with names l h

pub distinct_from : (names : List LevelName) (cs : List Constraint) → AreDistinct names → AreDistinct (levels_from names cs)
distinct_from names [] h = h
distinct_from names (c ∷ cs) h = distinct_from (with_ends names c) cs (distinct_level (with_level names c.left) c.right (distinct_level names c.left h))

pub levels_from_more : (names : List LevelName) (cs ds : List Constraint) → levels_from names (cs ++ ds) ≡ levels_from (levels_from names cs) ds
levels_from_more names [] ds = refl
levels_from_more names (c ∷ cs) ds = levels_from_more (with_ends names c) cs ds

-- ---- kept numbers

pub number_absent : (names : List LevelName) (ns : List ℕ) (l : LevelName) → IsAbsent l names → level_number (paired names ns) (Named l) ≡ 1
number_absent [] ns l h = refl
number_absent (n ∷ names) [] l h = refl
number_absent (n ∷ names) (m ∷ ns) l h =
    number_later (record { level = n; number = m }) (paired names ns) l (λ e. h 0 (ap Some e)) ∙ number_absent names ns l (λ p. h (suc p))

pub number_present : (names : List LevelName) (ns : List ℕ) (p : ℕ) (l : LevelName) → AreDistinct names → length names ≤ length ns → slice_get names p ≡ Some l →
    level_number (paired names ns) (Named l) ≡ at ns p
number_present [] ns p l d le is = absurd (cc)
number_present (n ∷ names) [] p l d le is = absurd (omega arith)
number_present (n ∷ names) (m ∷ ns) zero l d le is = number_here (record { level = n; number = m }) (paired names ns) l (same_some n l is)
number_present (n ∷ names) (m ∷ ns) (suc p) l d le is =
    number_later (record { level = n; number = m }) (paired names ns) l (λ e. d.0 p (is ∙ ap Some (sym e))) ∙ number_present names ns p l d.1 (omega arith) is

not_numbered : (names : List LevelName) (ns : List ℕ) (n : LevelName) → IsAbsent n names → NotNumbered n (paired names ns)
not_numbered [] ns n h = tt
not_numbered (m ∷ names) [] n h = tt
not_numbered (m ∷ names) (k ∷ ns) n h = (λ e. h 0 (ap Some e), not_numbered names ns n (λ p. h (suc p)))

are_numbering : (names : List LevelName) (ns : List ℕ) → AreDistinct names → ((p : ℕ) → p < length ns → 1 ≤ at ns p) → IsNumbering (paired names ns)
are_numbering [] ns d h = tt
are_numbering (n ∷ names) [] d h = tt
are_numbering (n ∷ names) (m ∷ ns) d h = (h 0 (omega arith), not_numbered names ns n d.0, are_numbering names ns d.1 (λ p lt. h (suc p) (omega arith)))

pub kept_numbering : (names : List LevelName) (ns : List ℕ) → AreDistinct names → AreNumbers names ns → IsNumbering (paired names (rest ns))
kept_numbering names [] d h = let e = h.lengths in absurd (omega arith)
kept_numbering names (n ∷ ns) d h = are_numbering names ns d (λ p lt. h.positive p (omega arith))

-- The number of the level at a place, and of one that has no place.
named_at : (names : List LevelName) (p : ℕ) (l : Level) → level_at names (suc p) ≡ Some l → (n : LevelName) × (l ≡ Named n) × (slice_get names p ≡ Some n)
named_at [] p l h = absurd (cc)
named_at (n ∷ names) zero l h = (n, sym (same_some (Named n) l h), refl)
named_at (n ∷ names) (suc p) l h = named_at names p l h

pub kept_number : (names : List LevelName) (ns : List ℕ) (p : ℕ) (l : Level) → AreDistinct names → AreNumbers names ns → level_at names p ≡ Some l → level_number (paired names (rest ns)) l ≡ at ns p
kept_number names ns zero l d h is = ap (level_number (paired names (rest ns))) (sym (same_some Set l is)) ∙ sym h.set
kept_number names [] (suc p) l d h is = let e = h.lengths in absurd (omega arith)
kept_number names (n ∷ ns) (suc p) l d h is =
    let f = named_at names p l is in
    ap (level_number (paired names ns)) f.1 ∙ number_present names ns p f.0 d (let e = h.lengths in omega arith) f.2

pub kept_absent : (names : List LevelName) (ns : List ℕ) (l : Level) → IsAbsentLevel l names → level_number (paired names ns) l ≡ 1
kept_absent names ns Set h = absurd h
kept_absent names ns (Named l) h = number_absent names ns l h

edge_meets : (names : List LevelName) (ns : List ℕ) (r : Edge) → AreDistinct names → AreNumbers names ns → IsTied names r → IsMet ns r → Meets (paired names (rest ns)) r.tagged.constraint
edge_meets names ns r d h tied met =
    subst (λ x. MeetsAt r.tagged.constraint.strict x (level_number (paired names (rest ns)) r.tagged.constraint.right)) (sym (kept_number names ns r.left r.tagged.constraint.left d h tied.0))
    (subst (λ y. MeetsAt r.tagged.constraint.strict (at ns r.left) y) (sym (kept_number names ns r.right r.tagged.constraint.right d h tied.1)) met)

pub edges_meet : (names : List LevelName) (ns : List ℕ) (edges : List Edge) → AreDistinct names → AreNumbers names ns → ((k : ℕ) (r : Edge) → slice_get edges k ≡ Some r → IsTied names r) →
    ((k : ℕ) (r : Edge) → slice_get edges k ≡ Some r → IsMet ns r) → MeetsAll (paired names (rest ns)) (constraints (tagged edges))
edges_meet names ns [] d h tied met = tt
edges_meet names ns (r ∷ edges) d h tied met =
    (edge_meets names ns r d h (tied 0 r refl) (met 0 r refl), edges_meet names ns edges d h (λ k. tied (suc k)) (λ k. met (suc k)))

levels_paired : (names : List LevelName) (ns : List ℕ) → length names ≤ length ns → levels_of (paired names ns) ≡ names
levels_paired [] ns le = refl
levels_paired (n ∷ names) [] le = absurd (omega arith)
levels_paired (n ∷ names) (m ∷ ns) le = ap (λ z. n ∷ z) (levels_paired names ns (omega arith))

pub kept_levels : (names : List LevelName) (ns : List ℕ) → AreNumbers names ns → levels_of (paired names (rest ns)) ≡ names
kept_levels names [] h = let e = h.lengths in absurd (omega arith)
kept_levels names (n ∷ ns) h = levels_paired names ns (let e = h.lengths in omega arith)

-- ---- how many levels there are with the ends of a constraint

more_names : (names : List LevelName) (l : LevelName) → length (names ++ l ∷ []) ≡ length names + 1
more_names [] l = refl
more_names (n ∷ names) l = let r = more_names names l in omega arith

named_same : (a b : LevelName) → Named a ≡ Named b → a ≡ b
named_same a b e = cc

not_both : (ns : List LevelName) (k : Level) (q : ℕ) → level_at ns q ≡ Some k → IsAbsentLevel k ns → ⊥
not_both ns Set q is h = h
not_both ns (Named k) zero is h = cc
not_both ns (Named k) (suc q) is h = let f = named_at ns q (Named k) is in h q (f.2 ∙ ap Some (named_same f.0 k (sym f.1)))

pub count_known : (names : List LevelName) (l : Level) (p : ℕ) → level_at names p ≡ Some l → with_level names l ≡ names
count_known names Set p h = refl
count_known names (Named l) zero h = absurd (cc)
count_known names (Named l) (suc p) h =
    let f = named_at names p (Named l) h in
    let e : f.0 ≡ l = named_same f.0 l (sym f.1) in with_known names l p (f.2 ∙ ap Some e)

pub count_new : (names : List LevelName) (l : Level) → IsAbsentLevel l names → length (with_level names l) ≡ length names + 1
count_new names Set h = absurd h
count_new names (Named l) h = ap length (with_new names l h) ∙ more_names names l

absent_more : (names : List LevelName) (m l : LevelName) → IsAbsent l names → (m ≡ l → ⊥) → IsAbsent l (names ++ m ∷ [])
absent_more [] m l h ne = front_absent m l [] ne h
absent_more (n ∷ names) m l h ne = front_absent n l (names ++ m ∷ []) (λ e. h 0 (ap Some e)) (absent_more names m l (λ p. h (suc p)) ne)

pub absent_with_level : (names : List LevelName) (m l : Level) → IsAbsentLevel m names → IsAbsentLevel l names → (m ≡ l → ⊥) → IsAbsentLevel l (with_level names m)
absent_with_level names Set l h k ne = absurd h
absent_with_level names (Named m) Set h k ne = absurd k
absent_with_level names (Named m) (Named l) h k ne = subst (λ z. IsAbsent l z) (sym (with_new names m h)) (absent_more names m l k (λ e. ne (ap Named e)))

pub again : (names : List LevelName) (l : Level) → IsAbsentLevel l names → length (with_level (with_level names l) l) ≡ length names + 1
again names Set h = absurd h
again names (Named l) h =
    let e = with_new names l h in
    ap length (ap (λ z. with_name z l) e ∙ with_known (names ++ l ∷ []) l (length names) (get_last names l)) ∙ more_names names l

-- A place is found still with one more level.
level_more : (names : List LevelName) (m l : Level) (p : ℕ) → IsAbsentLevel m names → level_at names p ≡ Some l → level_at (with_level names m) p ≡ Some l
level_more names Set l p h is = absurd h
level_more names (Named m) l zero h is = is
level_more names (Named m) l (suc p) h is =
    let f = named_at names p l is in
    ap (λ z. level_at z (suc p)) (with_new names m h) ∙ ap (option_map Named) (get_old names (m ∷ []) p f.0 f.2) ∙ ap Some (sym f.1)

-- What is known of a level's place.
abbrev pub IsPlaceIn : List LevelName → Level → Option ℕ → Type 0
IsPlaceIn names l at_ = MatchOption at_ (IsAbsentLevel l names) (λ p. level_at names p ≡ Some l)

pub counted : (names : List LevelName) (c : Constraint) (left right : Option ℕ) → IsPlaceIn names c.left left → IsPlaceIn names c.right right →
    ((c.left ≡ c.right → ⊥) ⊎ (c.left ≡ c.right)) → (n : ℕ) × (length (with_ends names c) ≡ length names + n) × ((c.left ≡ c.right → ⊥) → n ≡ count_one left + count_one right) × (c.left ≡ c.right → n ≡ count_one left)
counted names c (Some p) (Some q) l r way =
    let a = count_known names c.left p l in
    let b = ap (λ z. with_level z c.right) a ∙ count_known names c.right q r in
    (0, (let z : length (with_ends names c) ≡ length names = ap length b in omega arith), (λ n. refl), (λ e. refl))
counted names c (Some p) None l r way =
    let a = count_known names c.left p l in
    let b : length (with_ends names c) ≡ length names + 1 = ap (λ z. length (with_level z c.right)) a ∙ count_new names c.right r in
    (1, b, (λ n. refl), (λ e. absurd (not_both names c.right p (l ∙ ap Some e) r)))
counted names c None (Some q) l r way =
    let b : length (with_ends names c) ≡ length names + 1 =
    ap length (count_known (with_level names c.left) c.right q (level_more names c.left c.right q l r)) ∙ count_new names c.left l in
    (1, b, (λ n. refl), (λ e. refl))
counted names c None None l r (inl ne) =
    let a = count_new names c.left l in
    let b = count_new (with_level names c.left) c.right (absent_with_level names c.left c.right l r ne) in
    (2, omega arith, (λ n. refl), (λ e. absurd (ne e)))
counted names c None None l r (inr e) =
    let b : length (with_ends names c) ≡ length names + 1 = ap (λ z. length (with_level (with_level names c.left) z)) (sym e) ∙ again names c.left l in
    (1, b, (λ n. absurd (n e)), (λ e. refl))

-- ---- telling the kept numbers

numbering_more : (told : List LevelNumber) (x : LevelNumber) → numbering (told ++ x ∷ []) ≡ numbering told ++ record { level = x.level; number = x.number } ∷ []
numbering_more [] x = refl
numbering_more (y ∷ told) x = ap (λ z. record { level = y.level; number = y.number } ∷ z) (numbering_more told x)

append_at : (xs ys : Numbering) (x : Numbered) → xs ++ x ∷ ys ≡ (xs ++ x ∷ []) ++ ys
append_at [] ys x = refl
append_at (z ∷ xs) ys x = ap (λ w. z ∷ w) (append_at xs ys x)

paired_here : (names : List LevelName) (ns : List ℕ) (i : ℕ) (l : LevelName) (n : ℕ) → slice_get names i ≡ Some l → slice_get ns i ≡ Some n →
    paired (drop i names) (drop i ns) ≡ record { level = l; number = n } ∷ paired (drop (suc i) names) (drop (suc i) ns)
paired_here [] ns i l n h k = absurd (cc)
paired_here (m ∷ names) [] i l n h k = absurd (cc)
paired_here (m ∷ names) (k ∷ ns) zero l n h is =
    ap (λ z. record { level = z; number = k } ∷ paired names ns) (same_some m l h) ∙ ap (λ z. record { level = l; number = z } ∷ paired names ns) (same_some k n is)
paired_here (m ∷ names) (k ∷ ns) (suc i) l n h is = paired_here names ns i l n h is

pub told_more : (names : List LevelName) (numbers : List ℕ) (told : List LevelNumber) (i : ℕ) (l : LevelName) (n : ℕ) → slice_get names i ≡ Some l → slice_get numbers (suc i) ≡ Some n →
    paired names (rest numbers) ≡ numbering told ++ paired (drop i names) (drop i (rest numbers)) →
    paired names (rest numbers) ≡ numbering (told ++ record { level = l; number = n } ∷ []) ++ paired (drop (i + 1) names) (drop (i + 1) (rest numbers))
told_more names [] told i l n h k all = absurd (cc)
told_more names (m ∷ numbers) told i l n h k all =
    let x : LevelNumber = record { level = l; number = n } in
    let here = paired_here names numbers i l n h k in
    let next : suc i ≡ i + 1 = omega arith in
    let more = paired (drop (suc i) names) (drop (suc i) numbers) in
    all ∙ ap (λ z. numbering told ++ z) here ∙ append_at (numbering told) more (record { level = l; number = n }) ∙ ap (λ z. z ++ more) (sym (numbering_more told x))
    ∙ ap (λ z. numbering (told ++ x ∷ []) ++ paired (drop z names) (drop z numbers)) next
