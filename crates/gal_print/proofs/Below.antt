-- Texts with the flags of the binders below a number alone.
use Rattle.std.proofs.Common.{◌≡◌, ℕ, ◌<◌, ◌≤◌, List, [], ◌++◌, length, take, replicate, Bool, false, ◌||◌, sym, ap, ◌∙◌, arith, subst}
use Rattle.std.proofs.lemmas.List.{length-take, length-take-le, get_or-take, take-take, take_at, take-append-le}
use Rattle.gal_print.specs.calls.Output.{in_front, Puts, Prints, PrintsBelow, Marked}
use Rattle.gal_print.specs.declared.output.Output.{Output}
use Rattle.gal_print.proofs.Used.{marked_as, marked_then, marked_none}
use Rattle.gal_print.proofs.Fronts.{in_two}

marked_take : (first : ℕ) (U : ℕ → Bool) (f g : List Bool) → first ≤ length f → Marked U f g → Marked U (take first f) (take first g)
marked_take first U f g l h = record {
  same = length-take-le first g (omega (arith, l, h.same)) ∙ sym (length-take-le first f l);
  each = λ i k.
      let below : i < first = omega (arith, k, length-take-le first f l) in
      get_or-take first g i false below ∙ h.each i (omega (arith, below, l)) ∙ ap (λ (b : Bool). b || U i) (sym (get_or-take first f i false below));
}

pub below_of : {U : ℕ → Bool} (first : ℕ) (text : List ℕ) (old new : Output) → first ≤ length old.used.items → Prints text U old new → PrintsBelow first text U old new
below_of {U} first text old new l h = record { front = h.front; marks = marked_take first U old.used.items new.used.items l h.marks }

pub below_as : {U V : ℕ → Bool} (first : ℕ) (text other : List ℕ) (old new : Output) → text ≡ other → ((i : ℕ) → i < first → U i ≡ V i) → PrintsBelow first text U old new → PrintsBelow first other V old new
below_as first text other old new e f h = record {
  front = h.front ∙ ap (λ (t : List ℕ). t ++ in_front old) e;
  marks = marked_as (take first old.used.items) (take first new.used.items) (λ i l. f i (omega (arith, l, length-take first old.used.items))) h.marks;
}

pub below_both : {U V : ℕ → Bool} (at : ℕ) (first second : List ℕ) (old mid new : Output) → PrintsBelow at first U old mid → PrintsBelow at second V mid new → PrintsBelow at (second ++ first) (λ i. U i || V i) old new
below_both at first second old mid new h k = record {
  front = in_two (in_front old) first second (in_front mid) (in_front new) h.front k.front;
  marks = marked_then (take at old.used.items) (take at mid.used.items) (take at new.used.items) h.marks k.marks;
}

pub below_then_puts : {U : ℕ → Bool} (at : ℕ) (first second : List ℕ) (old mid new : Output) → PrintsBelow at first U old mid → Puts second mid new → PrintsBelow at (second ++ first) U old new
below_then_puts {U} at first second old mid new h k = record {
  front = in_two (in_front old) first second (in_front mid) (in_front new) h.front k.front;
  marks = subst (λ (l : List Bool). Marked U (take at old.used.items) (take at l)) (sym k.used) h.marks;
}

pub puts_then_below : {U : ℕ → Bool} (at : ℕ) (first second : List ℕ) (old mid new : Output) → Puts first old mid → PrintsBelow at second U mid new → PrintsBelow at (second ++ first) U old new
puts_then_below {U} at first second old mid new h k = record {
  front = in_two (in_front old) first second (in_front mid) (in_front new) h.front k.front;
  marks = subst (λ (l : List Bool). Marked U (take at l) (take at new.used.items)) h.used k.marks;
}

-- Nothing was printed yet.
pub below_nothing : (at : ℕ) (old new : Output) → old ≡ new → PrintsBelow at [] (λ i. false) old new
below_nothing at old new e = record {
  front = ap in_front (sym e);
  marks = marked_none (take at old.used.items) (take at new.used.items) (ap (λ (o : Output). take at o.used.items) (sym e));
}

-- Binders from a later number on were opened or closed before.
pub below_from : {U : ℕ → Bool} (at : ℕ) (text : List ℕ) (old mid new : Output) → in_front mid ≡ in_front old → take at mid.used.items ≡ take at old.used.items → PrintsBelow at text U mid new → PrintsBelow at text U old new
below_from {U} at text old mid new same e h = record {
  front = h.front ∙ ap (λ (t : List ℕ). text ++ t) same;
  marks = subst (λ (l : List Bool). Marked U l (take at new.used.items)) e h.marks;
}

pub take_closed : (at first : ℕ) (old new : List Bool) → at ≤ first → new ≡ take first old → take at new ≡ take at old
take_closed at first old new l e = ap (take at) e ∙ take-take at first old l

pub take_opened : (at count : ℕ) (old new : List Bool) → at ≤ length old → new ≡ old ++ replicate count false → take at new ≡ take at old
take_opened at count old new l e = ap (take at) e ∙ take-append-le at old (replicate count false) l

pub below_lower : {U : ℕ → Bool} (at first : ℕ) (text : List ℕ) (old new : Output) → at ≤ first → at ≤ length old.used.items → first ≤ length old.used.items → PrintsBelow first text U old new → PrintsBelow at text U old new
below_lower {U} at first text old new l m n h = record {
  front = h.front;
  marks =
      subst (λ (k : List Bool). Marked U k (take at new.used.items)) (take-take at first old.used.items l)
      (subst (λ (k : List Bool). Marked U (take at (take first old.used.items)) k) (take-take at first new.used.items l)
      (marked_take at U (take first old.used.items) (take first new.used.items) (omega (arith, l, length-take-le first old.used.items n)) h.marks));
}

-- All binders, where those from a number on were opened before and closed after.
pub prints_between : {U : ℕ → Bool} (at count : ℕ) (text : List ℕ) (old opened printed new : Output) →
    length old.used.items ≡ at → in_front opened ≡ in_front old → opened.used.items ≡ old.used.items ++ replicate count false →
    PrintsBelow at text U opened printed → in_front new ≡ in_front printed → new.used.items ≡ take at printed.used.items →
    Prints text U old new
prints_between {U} at count text old opened printed new e same more h closed cut = record {
  front = closed ∙ h.front ∙ ap (λ (t : List ℕ). text ++ t) same;
  marks = subst (λ (l : List Bool). Marked U old.used.items l) (sym cut)
      (subst (λ (l : List Bool). Marked U l (take at printed.used.items)) (ap (take at) more ∙ take_at old.used.items (replicate count false) at e) h.marks);
}
