-- Faults as callers see them.
use Rattle.std.proofs.Common.{◌≡◌, ℕ, ◌-◌, ◌≤◌, ◌<◌, ◌^◌, List, [], ◌∷◌, length, drop, refl, ap, sym, ◌∙◌, subst, arith, length-drop}
use Rattle.std.proofs.lemmas.List.{drop_all}
use Rattle.seg_format.specs.declared.faults.Defect.TheVariants.{Trailing}
use Rattle.seg_format.specs.declared.layout.Segment.{Segment}
use Rattle.term_format.specs.Reading.{Reading, value, wrong, whole}
use Rattle.term_codec.specs.declared.faults.Stop.{Stop}
use Rattle.term_codec.specs.declared.faults.Stop.TheVariants.{Wrong, NoMemory}
use Rattle.term_codec.specs.declared.faults.DecodeFault.{DecodeFault}
use Rattle.term_codec.specs.declared.faults.DecodeFault.TheVariants.{BadFile, NoMemory as Full}
use Rattle.term_codec.specs.calls.Answers.{Stops, Refuses, IsSmall, Names}

pub small_of : {A : Type 0} (size : ℕ) (r : Reading A) (s : Stop) → size < 2 ^ 32 → Stops size r s → IsSmall s
small_of size r (Wrong d p) l h = let k = h.1 in omega arith
small_of size r NoMemory l h = tt

pub refuses_of : {A : Type 0} (segment : Segment) (size : ℕ) (r : Reading A) (s : Stop) (f : DecodeFault) → Stops size r s → Names segment s f → Refuses segment size r f
refuses_of segment size r (Wrong d p) (BadFile bad) h n =
    (n.0, h.0 ∙ (ap (λ x. wrong x (size - p)) (sym n.1) ∙ ap (λ x. wrong bad.defect (size - x)) (sym n.2)), subst (λ x. x ≤ size) (sym n.2) h.1)
refuses_of segment size r (Wrong d p) Full h n = absurd n
refuses_of segment size r NoMemory (BadFile bad) h n = absurd n
refuses_of segment size r NoMemory Full h n = tt

pub whole_ends : {A : Type 0} (r : Reading A) (a : A) (rest : List ℕ) → r ≡ value a rest → rest ≡ [] → whole r ≡ value a []
whole_ends r a rest e n = ap whole (e ∙ ap (λ x. value a x) n)

left_over : {A : Type 0} (a : A) (rest : List ℕ) → 0 < length rest → whole (value a rest) ≡ wrong Trailing (length rest)
left_over a [] l = absurd (omega arith)
left_over a (b ∷ rest) l = refl

pub nothing_left : (bytes : List ℕ) (place : ℕ) → length bytes ≤ place → drop place bytes ≡ []
nothing_left bytes place l = drop_all place bytes l

pub trails : {A : Type 0} (bytes : List ℕ) (place : ℕ) (r : Reading A) (a : A) → r ≡ value a (drop place bytes) → place < length bytes → whole r ≡ wrong Trailing (length bytes - place)
trails bytes place r a e l =
    let some : 0 < length (drop place bytes) = omega (arith, length-drop place bytes) in
    ap whole e ∙ (left_over a (drop place bytes) some ∙ ap (λ x. wrong Trailing x) (length-drop place bytes))

pub whole_stops : {A : Type 0} (size : ℕ) (r : Reading A) (s : Stop) → Stops size r s → Stops size (whole r) s
whole_stops size r (Wrong d p) h = (ap whole h.0, h.1)
whole_stops size r NoMemory h = tt
