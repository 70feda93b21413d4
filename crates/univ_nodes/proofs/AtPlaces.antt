-- Elements of lists at their places: past the end, behind one more element, and after one of them is set anew.
-- The proofs on edges, steps, marks and numbers of a graph rest on these.
use Rattle.std.proofs.Common.{◌≡◌, ◌⊎◌, inl, inr, ◌<◌, ◌≤◌, ◌+◌, ◌*◌, ℕ, zero, suc, List, [], ◌∷◌, ◌++◌, length, refl, ap, sym, arith, get_or}
use Rattle.std.specs.Prelude.{Some, slice_get, slice_set, Contains}
use Rattle.std.specs.Global.{Vec}
use Rattle.std.proofs.lemmas.List.Elements.{Contains-append_right}
use Rattle.univ_nodes.specs.calls.Numbered.{at, total, edges_at}

pub same_some : {X : Type 0} (x y : X) → Some x ≡ Some y → x ≡ y
same_some x y h = cc

pub get_old : {X : Type 0} (xs ys : List X) (p : ℕ) (x : X) → slice_get xs p ≡ Some x → slice_get (xs ++ ys) p ≡ Some x
get_old [] ys p x h = absurd (cc)
get_old (z ∷ xs) ys zero x h = h
get_old (z ∷ xs) ys (suc p) x h = get_old xs ys p x h

pub get_last : {X : Type 0} (xs : List X) (x : X) → slice_get (xs ++ x ∷ []) (length xs) ≡ Some x
get_last [] x = refl
get_last (z ∷ xs) x = get_last xs x

-- An element of a list with one more is one of the list, or the new one.
pub get_more : {X : Type 0} (xs : List X) (x y : X) (p : ℕ) → slice_get (xs ++ x ∷ []) p ≡ Some y → (slice_get xs p ≡ Some y) ⊎ ((p ≡ length xs) × (x ≡ y))
get_more [] x y zero h = inr (refl, (cc))
get_more [] x y (suc p) h = absurd (cc)
get_more (z ∷ xs) x y zero h = inl h
get_more (z ∷ xs) x y (suc p) h = elim (get_more xs x y p h) [
  | inl a ↦ inl a
  | inr b ↦ inr (ap suc b.0, b.1)
]

pub got : {X : Type 0} (xs : List X) (i : ℕ) (x : X) → i < length xs → x ≡ get_or xs i x → slice_get xs i ≡ Some x
got [] i x lt is = absurd (omega arith)
got (z ∷ xs) zero x lt is = ap Some (sym is)
got (z ∷ xs) (suc i) x lt is = got xs i x (omega arith) is

pub has_some : {X : Type 0} (xs : List X) (i : ℕ) → i < length xs → (x : X) × (slice_get xs i ≡ Some x)
has_some [] i lt = absurd (omega arith)
has_some (z ∷ xs) zero lt = (z, refl)
has_some (z ∷ xs) (suc i) lt = has_some xs i (omega arith)

pub at_past : (ns : List ℕ) (p : ℕ) → length ns ≤ p → at ns p ≡ 0
at_past [] p le = refl
at_past (n ∷ ns) zero le = absurd (omega arith)
at_past (n ∷ ns) (suc p) le = at_past ns p (omega arith)

pub at_within : (ns : List ℕ) (p : ℕ) → 1 ≤ at ns p → p < length ns
at_within [] p h = absurd (omega arith)
at_within (n ∷ ns) zero h = omega arith
at_within (n ∷ ns) (suc p) h = let r = at_within ns p h in omega arith

pub at_read : (ns : List ℕ) (p n : ℕ) → p < length ns → n ≡ get_or ns p n → n ≡ at ns p
at_read [] p n lt is = absurd (omega arith)
at_read (m ∷ ns) zero n lt is = is
at_read (m ∷ ns) (suc p) n lt is = at_read ns p n (omega arith) is

pub at_some : (ns : List ℕ) (p n : ℕ) → slice_get ns p ≡ Some n → at ns p ≡ n
at_some [] p n h = absurd (cc)
at_some (m ∷ ns) zero n h = same_some m n h
at_some (m ∷ ns) (suc p) n h = at_some ns p n h

pub at_set_here : (ns : List ℕ) (p m : ℕ) → p < length ns → at (slice_set ns p m) p ≡ m
at_set_here [] p m lt = absurd (omega arith)
at_set_here (n ∷ ns) zero m lt = refl
at_set_here (n ∷ ns) (suc p) m lt = at_set_here ns p m (omega arith)

pub at_set_other : (ns : List ℕ) (p q m : ℕ) → (p ≡ q → ⊥) → at (slice_set ns p m) q ≡ at ns q
at_set_other [] p q m ne = refl
at_set_other (n ∷ ns) zero zero m ne = absurd (ne refl)
at_set_other (n ∷ ns) zero (suc q) m ne = refl
at_set_other (n ∷ ns) (suc p) zero m ne = refl
at_set_other (n ∷ ns) (suc p) (suc q) m ne = at_set_other ns p q m (λ e. ne (ap suc e))

pub set_length : {X : Type 0} (xs : List X) (p : ℕ) (x : X) → length (slice_set xs p x) ≡ length xs
set_length [] p x = refl
set_length (z ∷ xs) zero x = refl
set_length (z ∷ xs) (suc p) x = ap suc (set_length xs p x)

pub total_set : (ms : List ℕ) (p m : ℕ) → p < length ms → at ms p < m → total ms + 1 ≤ total (slice_set ms p m)
total_set [] p m lt h = absurd (omega arith)
total_set (n ∷ ms) zero m lt h = omega arith
total_set (n ∷ ms) (suc p) m lt h = let r = total_set ms p m (omega arith) h in omega arith

pub total_small : (ms : List ℕ) → ((p : ℕ) → at ms p ≤ 2) → total ms ≤ 2 * length ms
total_small [] h = omega arith
total_small (m ∷ ms) h =
    let r = total_small ms (λ p. h (suc p)) in
    let s : m ≤ 2 = h zero in omega arith

pub same_or_not : (p q : ℕ) → (p ≡ q) ⊎ (p ≡ q → ⊥)
same_or_not zero zero = inl refl
same_or_not zero (suc q) = inr (λ e. (omega arith))
same_or_not (suc p) zero = inr (λ e. (omega arith))
same_or_not (suc p) (suc q) = elim (same_or_not p q) [
  | inl e ↦ inl (ap suc e)
  | inr n ↦ inr (λ e. n (omega arith))
]

-- The lists of edges at the places.
pub contains_last : (xs : List ℕ) (x : ℕ) → Contains (xs ++ x ∷ []) x
contains_last xs x = Contains-append_right xs (x ∷ []) x (zero, omega arith, refl)

pub edges_at_more : (out : List (Vec ℕ)) (v : Vec ℕ) (p k : ℕ) → Contains (edges_at out p) k → Contains (edges_at (out ++ v ∷ []) p) k
edges_at_more [] v p k h = let lt : h.0 < 0 = h.1 in absurd (omega arith)
edges_at_more (w ∷ out) v zero k h = h
edges_at_more (w ∷ out) v (suc p) k h = edges_at_more out v p k h

pub edges_at_read : (out : List (Vec ℕ)) (p : ℕ) (v : Vec ℕ) → p < length out → v ≡ get_or out p v → edges_at out p ≡ v.items
edges_at_read [] p v lt is = absurd (omega arith)
edges_at_read (w ∷ out) zero v lt is = ap (λ (z : Vec ℕ). z.items) (sym is)
edges_at_read (w ∷ out) (suc p) v lt is = edges_at_read out p v (omega arith) is

pub edges_at_set_other : (out : List (Vec ℕ)) (p q : ℕ) (v : Vec ℕ) → (p ≡ q → ⊥) → edges_at (slice_set out p v) q ≡ edges_at out q
edges_at_set_other [] p q v ne = refl
edges_at_set_other (w ∷ out) zero zero v ne = absurd (ne refl)
edges_at_set_other (w ∷ out) zero (suc q) v ne = refl
edges_at_set_other (w ∷ out) (suc p) zero v ne = refl
edges_at_set_other (w ∷ out) (suc p) (suc q) v ne = edges_at_set_other out p q v (λ e. ne (ap suc e))

pub edges_at_set_here : (out : List (Vec ℕ)) (p : ℕ) (v : Vec ℕ) → p < length out → edges_at (slice_set out p v) p ≡ v.items
edges_at_set_here [] p v lt = absurd (omega arith)
edges_at_set_here (w ∷ out) zero v lt = refl
edges_at_set_here (w ∷ out) (suc p) v lt = edges_at_set_here out p v (omega arith)
