-- Lists of edges at places keep what they had, with one more list, and with one more edge in a list.
use Rattle.std.proofs.Common.{◌≡◌, ◌∙◌, inl, inr, ◌<◌, ℕ, List, [], ◌∷◌, ◌++◌, length, Bool, true, false, sym, subst, if◌then◌else◌}
use Rattle.std.specs.Prelude.{slice_set, Contains}
use Rattle.std.specs.Global.{Vec}
use Rattle.std.proofs.lemmas.List.Elements.{Contains-append_left}
use Rattle.univ_nodes.specs.calls.Numbered.{edges_at}
use Rattle.univ_nodes.proofs.AtPlaces.{same_or_not, contains_last, edges_at_more, edges_at_set_here, edges_at_set_other}

-- What stood in a list stands there still.
abbrev pub AreKept : List (Vec ℕ) → List (Vec ℕ) → Type 0
AreKept old new = (p k : ℕ) → Contains (edges_at old p) k → Contains (edges_at new p) k

pub kept_room : (t : Bool) (old new : List (Vec ℕ)) (v : Vec ℕ) → new ≡ (if t then old ++ v ∷ [] else old) → AreKept old new
kept_room true old new v is p k h = subst (λ z. Contains (edges_at z p) k) (sym is) (edges_at_more old v p k h)
kept_room false old new v is p k h = subst (λ z. Contains (edges_at z p) k) (sym is) h

pub kept_set : (lists : List (Vec ℕ)) (p : ℕ) (v : Vec ℕ) → p < length lists → ((k : ℕ) → Contains (edges_at lists p) k → Contains v.items k) →
    AreKept lists (slice_set lists p v)
kept_set lists p v lt grew q k h = elim (same_or_not p q) [
  | inl e ↦
      let old : Contains (edges_at lists p) k = subst (λ z. Contains (edges_at lists z) k) (sym e) h in
      let here : Contains (edges_at (slice_set lists p v) p) k = subst (λ z. Contains z k) (sym (edges_at_set_here lists p v lt)) (grew k old) in
      subst (λ z. Contains (edges_at (slice_set lists p v) z) k) e here
  | inr n ↦ subst (λ z. Contains z k) (sym (edges_at_set_other lists p q v n)) h
]

pushed_has : (t : Bool) (xs ys : List ℕ) (x : ℕ) → ys ≡ (if t then xs ++ x ∷ [] else xs) → (k : ℕ) → Contains xs k → Contains ys k
pushed_has true xs ys x e k h = subst (λ z. Contains z k) (sym e) (Contains-append_left xs (x ∷ []) k h)
pushed_has false xs ys x e k h = subst (λ z. Contains z k) (sym e) h

-- The list at a place, with one more edge.
pub kept_put : (t : Bool) (lists : List (Vec ℕ)) (p x : ℕ) (list new : Vec ℕ) → p < length lists → edges_at lists p ≡ list.items →
    new.items ≡ (if t then list.items ++ x ∷ [] else list.items) → AreKept lists (slice_set lists p new)
kept_put t lists p x list new lt read is =
    kept_set lists p new lt (λ k h. pushed_has t list.items new.items x is k (subst (λ z. Contains z k) read h))

pub has_put : (lists : List (Vec ℕ)) (p x : ℕ) (list new : Vec ℕ) → p < length lists → new.items ≡ list.items ++ x ∷ [] →
    Contains (edges_at (slice_set lists p new) p) x
has_put lists p x list new lt is =
    subst (λ z. Contains z x) (sym (edges_at_set_here lists p new lt ∙ is)) (contains_last list.items x)
