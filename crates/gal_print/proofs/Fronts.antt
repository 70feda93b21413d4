-- Texts that are put in front of one another, with the flags of the binders that they use.
use Rattle.std.proofs.Common.{◌≡◌, ℕ, ◌+◌, ◌<◌, List, [], ◌∷◌, ◌++◌, length, Bool, false, ◌||◌, replicate, take, sym, ap, ◌∙◌, append_assoc, append-nil, subst}
use Rattle.std.specs.Prelude.{Result, Ok, Err, OnOk}
use Rattle.gal_print.specs.Printing.{under}
use Rattle.gal_print.specs.calls.Names.{at}
use Rattle.gal_print.specs.calls.Output.{piece_text, backward, in_front, Puts, Prints, Marked}
use Rattle.gal_print.specs.declared.output.Piece.{Piece}
use Rattle.gal_print.specs.declared.output.Output.{Output}
use Rattle.gal_print.proofs.Used.{marked_none, marked_as, marked_then, marked_under}

-- What holds where a call was done implies more there.
pub on_ok_more : {A E : Type 0} (r : Result A E) {P Q : Type 0} → OnOk r P → (P → Q) → OnOk r Q
on_ok_more (Ok a) p f = f p
on_ok_more (Err e) p f = tt

-- One more piece.
pub backward_more : (ps : List Piece) (p : Piece) → backward (ps ++ p ∷ []) ≡ piece_text p ++ backward ps
backward_more [] p = sym (append-nil (piece_text p))
backward_more (q ∷ ps) p = ap (λ (t : List ℕ). t ++ piece_text q) (backward_more ps p) ∙ append_assoc (piece_text p) (backward ps) (piece_text q)

-- The last piece moves behind a text.
pub piece_moved : (p : Piece) (old new : List Piece) (text more whole : List ℕ) → old ≡ new ++ p ∷ [] → more ≡ text ++ piece_text p → text ++ backward old ≡ whole → more ++ backward new ≡ whole
piece_moved p old new text more whole e f h =
    ap (λ (t : List ℕ). t ++ backward new) f ∙ append_assoc text (piece_text p) (backward new)
    ∙ ap (λ (t : List ℕ). text ++ t) (sym (ap backward e ∙ backward_more new p)) ∙ h

pub put_is : (text : List ℕ) (p : Piece) (old new : Output) → piece_text p ≡ text → new.pieces.items ≡ old.pieces.items ++ p ∷ [] → new.used.items ≡ old.used.items → Puts text old new
put_is text p old new is more same = record {
  front = ap backward more ∙ backward_more old.pieces.items p ∙ ap (λ (t : List ℕ). t ++ in_front old) is;
  used = same;
}

pub in_two : (old first second mid new : List ℕ) → mid ≡ first ++ old → new ≡ second ++ mid → new ≡ (second ++ first) ++ old
in_two old first second mid new e f = f ∙ ap (λ (z : List ℕ). second ++ z) e ∙ sym (append_assoc second first old)

pub puts_nothing : (old new : Output) → old ≡ new → Puts [] old new
puts_nothing old new e = record { front = ap in_front (sym e); used = ap (λ (o : Output). o.used.items) (sym e) }

pub puts_both : (first second : List ℕ) (old mid new : Output) → Puts first old mid → Puts second mid new → Puts (second ++ first) old new
puts_both first second old mid new h k = record {
  front = in_two (in_front old) first second (in_front mid) (in_front new) h.front k.front;
  used = k.used ∙ h.used;
}

pub puts_as : (text other : List ℕ) (old new : Output) → text ≡ other → Puts text old new → Puts other old new
puts_as text other old new e h = record { front = h.front ∙ ap (λ (t : List ℕ). t ++ in_front old) e; used = h.used }

pub prints_as : {U V : ℕ → Bool} (text other : List ℕ) (old new : Output) → text ≡ other → ((i : ℕ) → i < length old.used.items → U i ≡ V i) → Prints text U old new → Prints other V old new
prints_as {U} {V} text other old new e f h = record {
  front = h.front ∙ ap (λ (t : List ℕ). t ++ in_front old) e;
  marks = marked_as old.used.items new.used.items f h.marks;
}

pub only_puts : (text : List ℕ) (old new : Output) → Puts text old new → Prints text (λ i. false) old new
only_puts text old new h = record { front = h.front; marks = marked_none old.used.items new.used.items h.used }

-- A text behind one that uses nothing, and the other way round.
pub then_puts : {U : ℕ → Bool} (first second : List ℕ) (old mid new : Output) → Prints first U old mid → Puts second mid new → Prints (second ++ first) U old new
then_puts {U} first second old mid new h k = record {
  front = in_two (in_front old) first second (in_front mid) (in_front new) h.front k.front;
  marks = subst (λ (l : List Bool). Marked U old.used.items l) (sym k.used) h.marks;
}

pub puts_then : {U : ℕ → Bool} (first second : List ℕ) (old mid new : Output) → Puts first old mid → Prints second U mid new → Prints (second ++ first) U old new
puts_then {U} first second old mid new h k = record {
  front = in_two (in_front old) first second (in_front mid) (in_front new) h.front k.front;
  marks = subst (λ (l : List Bool). Marked U l new.used.items) h.used k.marks;
}

pub prints_both : {U V : ℕ → Bool} (first second : List ℕ) (old mid new : Output) → Prints first U old mid → Prints second V mid new → Prints (second ++ first) (λ i. U i || V i) old new
prints_both first second old mid new h k = record {
  front = in_two (in_front old) first second (in_front mid) (in_front new) h.front k.front;
  marks = marked_then old.used.items mid.used.items new.used.items h.marks k.marks;
}

-- A text under binders that are opened before it and closed behind it.
pub prints_under : (text : List ℕ) (first count : ℕ) (ns : List ℕ) (P : ℕ → Bool) (old opened printed new : Output) →
    length old.used.items ≡ first →
    in_front opened ≡ in_front old → opened.used.items ≡ old.used.items ++ replicate count false →
    Prints text (λ i. at (under first count ns) i P) opened printed →
    in_front new ≡ in_front printed → new.used.items ≡ take first printed.used.items →
    Prints text (λ i. at ns i (λ x. P (x + count))) old new
prints_under text first count ns P old opened printed new e same more h closed cut = record {
  front = closed ∙ h.front ∙ ap (λ (t : List ℕ). text ++ t) same;
  marks = marked_under first count ns P old.used.items printed.used.items new.used.items e
      (subst (λ (l : List Bool). Marked (λ i. at (under first count ns) i P) l printed.used.items) more h.marks) cut;
}
