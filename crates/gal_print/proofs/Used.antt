-- Flags of used binders, as the parts of a term set them.
use Rattle.std.proofs.Common.{◌≡◌, ℕ, suc, ◌+◌, ◌-◌, ◌<◌, List, ◌++◌, length, get_or, take, replicate, Bool, true, false, ◌||◌, refl, sym, ap, ap₂, ◌∙◌, arith, subst}
use Rattle.std.proofs.lemmas.List.{length-append, length-replicate, get_or_append_left, get_or-take, length-take-le, get_or-append_right, get_or-replicate}
use Rattle.gal_print.specs.Printing.{under}
use Rattle.gal_print.specs.calls.Names.{at}
use Rattle.gal_print.specs.calls.Output.{Marked}
use Rattle.gal_print.proofs.Numbers.{at_under, at_first}

or_false : (p : Bool) → (p || false) ≡ p
or_false true = refl
or_false false = refl

or_assoc : (p q r : Bool) → ((p || q) || r) ≡ (p || (q || r))
or_assoc true q r = refl
or_assoc false q r = refl

pub marked_none : (f g : List Bool) → g ≡ f → Marked (λ i. false) f g
marked_none f g e = record { same = ap length e; each = λ i l. ap (λ (h : List Bool). get_or h i false) e ∙ sym (or_false (get_or f i false)) }

pub marked_as : {U V : ℕ → Bool} (f g : List Bool) → ((i : ℕ) → i < length f → U i ≡ V i) → Marked U f g → Marked V f g
marked_as f g e h = record { same = h.same; each = λ i l. h.each i l ∙ ap (λ (u : Bool). get_or f i false || u) (e i l) }

pub marked_then : {U V : ℕ → Bool} (f g k : List Bool) → Marked U f g → Marked V g k → Marked (λ i. U i || V i) f k
marked_then {U} {V} f g k first last = record {
  same = last.same ∙ first.same;
  each = λ i l. last.each i (subst (λ (n : ℕ). i < n) (sym first.same) l) ∙ ap (λ (u : Bool). u || V i) (first.each i l) ∙ or_assoc (get_or f i false) (U i) (V i);
}

-- Flags of binders that were opened, and closed again.
pub marked_under : (first count : ℕ) (ns : List ℕ) (P : ℕ → Bool) (f g k : List Bool) → length f ≡ first →
    Marked (λ i. at (under first count ns) i P) (f ++ replicate count false) g → k ≡ take first g →
    Marked (λ i. at ns i (λ x. P (x + count))) f k
marked_under first count ns P f g k e h closed =
    let long : length g ≡ first + count = h.same ∙ length-append f (replicate count false) ∙ ap₂ (λ (a b : ℕ). a + b) e (length-replicate count false) in
    record {
      same = ap length closed ∙ length-take-le first g (omega (arith, long)) ∙ sym e;
      each = λ i l.
          let below : i < first = omega (arith, l, e) in
          ap (λ (m : List Bool). get_or m i false) closed ∙ get_or-take first g i false below
          ∙ h.each i (omega (arith, below, length-append f (replicate count false), e, l))
          ∙ ap₂ (λ (a b : Bool). a || b) (get_or_append_left f (replicate count false) false i l) (at_under first count ns i P below);
    }

-- The flag of the first of some binders that were opened tells whether it is used.
pub first_flag : (first count : ℕ) (ns : List ℕ) (P : ℕ → Bool) (f g : List Bool) → length f ≡ first →
    Marked (λ i. at (under first (suc count) ns) i P) (f ++ replicate (suc count) false) g →
    get_or g first false ≡ P count
first_flag first count ns P f g e h =
    let opened : length (f ++ replicate (suc count) false) ≡ first + suc count =
    length-append f (replicate (suc count) false) ∙ ap₂ (λ (a b : ℕ). a + b) e (length-replicate (suc count) false) in
    h.each first (omega (arith, opened))
    ∙ ap (λ (b : Bool). b || at (under first (suc count) ns) first P) (get_or-append_right f (replicate (suc count) false) first first false e (omega arith) ∙ no_flag first count)
    ∙ at_first first count ns P
  where
    no_flag : (n k : ℕ) → get_or (replicate (suc k) false) (n - n) false ≡ false
    no_flag n k = get_or-replicate (suc k) (n - n) false false (omega arith)
