-- A term within the limits, and one past them.
use Rattle.std.proofs.Common.{◌≡◌, refl, ap, subst, inl, inr}
use Rattle.std.specs.Prelude.{Some, None, Ok, Err}
use Rattle.cic_terms.specs.Tree.{Tree}
use Rattle.cic_terms.specs.Sizes.{Fits}
use Rattle.gal_scoping.specs.Readings.{Fault, Reading, with_part}
use Rattle.elab_parts.specs.calls.Parts.{cut}
use Rattle.elab_parts.proofs.Cuts.{cut_is}
use Rattle.elab_terms.specs.Elaboration.{IsPast, IsTerm}

whole_of : (a t : Tree) → cut a ≡ Some t → IsTerm (Ok a) t
whole_of a t h = elim (cut_is a) [
  | inl p ↦ let e : a ≡ t = cc in (ap Ok e, subst (Fits 4000) e p.1)
  | inr p ↦ absurd (let e = p.0 in let z : ⊥ = cc in z)
]

pub term_read : (R : Reading Tree) (t : Tree) → with_part cut R ≡ Ok (Some t) → IsTerm R t
term_read (Ok a) t h = whole_of a t (let e : cut a ≡ Some t = cc in e)
term_read (Err e) t h = absurd (let z : ⊥ = cc in z)

past_of : (a : Tree) → cut a ≡ None → IsPast (Ok a)
past_of a h = elim (cut_is a) [
  | inl p ↦ absurd (let e = p.0 in let z : ⊥ = cc in z)
  | inr p ↦ record { read_term = a; is = refl; passes = p.1 }
]

pub term_past : (R : Reading Tree) → with_part cut R ≡ Ok None → IsPast R
term_past (Ok a) h = past_of a (let e : cut a ≡ None = cc in e)
term_past (Err e) h = absurd (let z : ⊥ = cc in z)

pub fault_read : (R : Reading Tree) (e : Fault) → with_part cut R ≡ Err e → R ≡ Err e
fault_read (Ok a) e h = absurd (let z : ⊥ = cc in z)
fault_read (Err e') e h = let z : e' ≡ e = cc in ap Err z
