-- The head of a file.
use Rattle.std.proofs.Common.{◌≡◌, ℕ, ◌≤◌, ◌<◌, ◌^◌, List, ◌++◌, true, refl, ap, sym, ◌∙◌, arith, lit<, length, drop, append_assoc, length-drop}
use Rattle.std.specs.Prelude.{Option, Some, None, codes, is_some}
use Rattle.std.proofs.lemmas.List.{take-append-drop, drop_at, drop-drop}
use Rattle.std.proofs.lemmas.Slice.Eq.{bytes_eq-Decides}
use Rattle.std.proofs.lemmas.Bool.Decides.{nat_tests}
use Rattle.seg_format.specs.declared.faults.Defect.TheVariants.{Magic, Version, Layout}
use Rattle.seg_format.specs.declared.faults.Defect.TheVariants.{Kind as NoKind}
use Rattle.seg_format.specs.declared.layout.Kind.{Kind}
use Rattle.seg_format.specs.declared.layout.Kind.TheVariants.{Vo, Vos, Vok}
use Rattle.seg_format.specs.declared.layout.Segment.TheVariants.{Head}
use Rattle.seg_format.specs.Numbers.{number, bytes_at, number_at}
use Rattle.seg_format.specs.Files.{segments_of, kind_number, version, head}
use Rattle.seg_format.specs.Defects.{first_unmet, kind_of, kind_at, segments_for, head_demands}
use Rattle.seg_format.proofs.UnmetLaws.{tail_met, head_met, none_unmet, whole_met, number_met, right_met, whole_holds, number_holds}
use Rattle.seg_format.proofs.NumberLaws.{AreBytes, drop_bytes, length-number, number_at-number, number_at-later, number-number_at}

-- the head of a file of that size is right, and names the kind
pub record HeadRight (size : ℕ) (bytes : List ℕ) (kind : Kind) : Type 0 where
  pub fits : 16 ≤ size
  pub magic : bytes_at bytes 0 4 ≡ codes "CICV"
  pub version : number_at bytes 4 ≡ version
  pub named : kind_at bytes ≡ Some kind
  pub count : number_at bytes 12 ≡ length (segments_of kind)

pub kind_of-number : (kind : Kind) → kind_of (kind_number kind) ≡ Some kind
kind_of-number Vo = refl
kind_of-number Vos = refl
kind_of-number Vok = refl

pub number-kind_of : (n : ℕ) (kind : Kind) → kind_of n ≡ Some kind → n ≡ kind_number kind
number-kind_of n Vo h = grind (arith, nat_tests)
number-kind_of n Vos h = grind (arith, nat_tests)
number-kind_of n Vok h = grind (arith, nat_tests)

some_kind : (o : Option Kind) → is_some o ≡ true → (kind : Kind) × (o ≡ Some kind)
some_kind None h = absurd (cc)
some_kind (Some kind) h = (kind, refl)

pub head_holds : (size : ℕ) (bytes : List ℕ) → first_unmet (head_demands size bytes) ≡ None → (kind : Kind) × HeadRight size bytes kind
unfolding head_demands
head_holds size bytes h =
    let h1 = tail_met _ _ h in
    let h2 = tail_met _ _ h1 in
    let h3 = tail_met _ _ h2 in
    let h4 = tail_met _ _ h3 in
    let h5 = tail_met _ _ h4 in
    let h6 = tail_met _ _ h5 in
    let h7 = tail_met _ _ h6 in
    let found : (kind : Kind) × (kind_at bytes ≡ Some kind) = some_kind (kind_at bytes) (head_met _ _ h5) in
    let count : number_at bytes 12 ≡ length (segments_for (kind_at bytes)) = number_holds _ _ _ _ _ _ h7 in (
      found.0,
      record {
        fits = whole_holds _ _ _ _ h6;
        magic = (bytes_eq-Decides (bytes_at bytes 0 4) (codes "CICV")).0 (head_met _ _ h1);
        version = number_holds _ _ _ _ _ _ h3;
        named = found.1;
        count = count ∙ ap (λ (o : Option Kind). length (segments_for o)) found.1;
      },
    )

pub head_demands-right : (size : ℕ) (bytes : List ℕ) (kind : Kind) → HeadRight size bytes kind → first_unmet (head_demands size bytes) ≡ None
unfolding head_demands
head_demands-right size bytes kind h =
    let l4 : 4 ≤ size = omega (arith, h.fits) in
    let l8 : 8 ≤ size = omega (arith, h.fits) in
    let l12 : 12 ≤ size = omega (arith, h.fits) in
    whole_met Head size 4 _ l4
    ∙ (right_met Head Magic 0 _ _ ((bytes_eq-Decides (bytes_at bytes 0 4) (codes "CICV")).1 h.magic)
    ∙ (whole_met Head size 8 _ l8
    ∙ (number_met Head Version 4 _ _ _ h.version
    ∙ (whole_met Head size 12 _ l12
    ∙ (right_met Head NoKind 8 _ _ (ap (λ (o : Option Kind). is_some o) h.named)
    ∙ (whole_met Head size 16 _ h.fits
    ∙ (number_met Head Layout 12 _ _ _ (h.count ∙ ap (λ (o : Option Kind). length (segments_for o)) (sym h.named))
    ∙ none_unmet)))))))

kind_number-fits : (kind : Kind) → kind_number kind < 2 ^ 32
kind_number-fits Vo = lit< tt
kind_number-fits Vos = lit< tt
kind_number-fits Vok = lit< tt

pub length-segments_of-fits : (kind : Kind) → length (segments_of kind) < 2 ^ 32
length-segments_of-fits Vo = lit< tt
length-segments_of-fits Vos = lit< tt
length-segments_of-fits Vok = lit< tt

pub length-head : (kind : Kind) (count : ℕ) → length (head kind count) ≡ 16
unfolding head number
length-head kind count = refl

drop_number : (n : ℕ) (rest : List ℕ) → drop 4 (number n ++ rest) ≡ rest
drop_number n rest = drop_at (number n) rest 4 (length-number n)

-- what begins with the head of a kind has a right head
pub head-right : (size : ℕ) (kind : Kind) (rest : List ℕ) → 16 ≤ size → HeadRight size (head kind (length (segments_of kind)) ++ rest) kind
unfolding head
head-right size kind rest l =
    let count : ℕ = length (segments_of kind) in
    let bytes : List ℕ = (((codes "CICV" ++ number version) ++ number (kind_number kind)) ++ number count) ++ rest in
    let grouped : bytes ≡ codes "CICV" ++ (number version ++ (number (kind_number kind) ++ (number count ++ rest))) = simp append_assoc in
    let from4 : drop 4 bytes ≡ number version ++ (number (kind_number kind) ++ (number count ++ rest)) = ap (λ (xs : List ℕ). drop 4 xs) grouped ∙ drop_at (codes "CICV") _ 4 refl in
    let from8 : drop 8 bytes ≡ number (kind_number kind) ++ (number count ++ rest) = sym (drop-drop 4 4 bytes) ∙ (ap (λ (xs : List ℕ). drop 4 xs) from4 ∙ drop_number version _) in
    let from12 : drop 12 bytes ≡ number count ++ rest = sym (drop-drop 4 8 bytes) ∙ (ap (λ (xs : List ℕ). drop 4 xs) from8 ∙ drop_number (kind_number kind) _) in
    record {
      fits = l;
      magic = refl;
      version = number_at-later bytes 4 ∙ (ap (λ (xs : List ℕ). number_at xs 0) from4 ∙ number_at-number version _ (lit< tt));
      named = ap (λ (n : ℕ). kind_of n) (number_at-later bytes 8 ∙ (ap (λ (xs : List ℕ). number_at xs 0) from8 ∙ number_at-number (kind_number kind) _ (kind_number-fits kind))) ∙ kind_of-number kind;
      count = number_at-later bytes 12 ∙ (ap (λ (xs : List ℕ). number_at xs 0) from12 ∙ number_at-number count _ (length-segments_of-fits kind));
    }

-- and back
pub head-of_right : (size : ℕ) (bytes : List ℕ) (kind : Kind) → AreBytes bytes → size ≡ length bytes → HeadRight size bytes kind → head kind (length (segments_of kind)) ++ drop 16 bytes ≡ bytes
unfolding head
head-of_right size bytes kind b e h =
    let l4 : 4 ≤ length (drop 4 bytes) = omega (arith, length-drop 4 bytes, h.fits) in
    let l8 : 4 ≤ length (drop 8 bytes) = omega (arith, length-drop 8 bytes, h.fits) in
    let l12 : 4 ≤ length (drop 12 bytes) = omega (arith, length-drop 12 bytes, h.fits) in
    let count : ℕ = length (segments_of kind) in
    let n4 : number_at (drop 4 bytes) 0 ≡ version = sym (number_at-later bytes 4) ∙ h.version in
    let n8 : number_at (drop 8 bytes) 0 ≡ kind_number kind = sym (number_at-later bytes 8) ∙ number-kind_of _ kind h.named in
    let n12 : number_at (drop 12 bytes) 0 ≡ count = sym (number_at-later bytes 12) ∙ h.count in
    let e12 : number count ++ drop 16 bytes ≡ drop 12 bytes = ap (λ (xs : List ℕ). number count ++ xs) (sym (drop-drop 4 12 bytes)) ∙ (ap (λ (n : ℕ). number n ++ drop 4 (drop 12 bytes)) (sym n12) ∙ number-number_at (drop 12 bytes) (drop_bytes 12 bytes b) l12) in
    let e8 : number (kind_number kind) ++ drop 12 bytes ≡ drop 8 bytes = ap (λ (xs : List ℕ). number (kind_number kind) ++ xs) (sym (drop-drop 4 8 bytes)) ∙ (ap (λ (n : ℕ). number n ++ drop 4 (drop 8 bytes)) (sym n8) ∙ number-number_at (drop 8 bytes) (drop_bytes 8 bytes b) l8) in
    let e4 : number version ++ drop 8 bytes ≡ drop 4 bytes = ap (λ (xs : List ℕ). number version ++ xs) (sym (drop-drop 4 4 bytes)) ∙ (ap (λ (n : ℕ). number n ++ drop 4 (drop 4 bytes)) (sym n4) ∙ number-number_at (drop 4 bytes) (drop_bytes 4 bytes b) l4) in
    let e0 : codes "CICV" ++ drop 4 bytes ≡ bytes = ap (λ (xs : List ℕ). xs ++ drop 4 bytes) (sym h.magic) ∙ take-append-drop 4 bytes in
    let grouped : (((codes "CICV" ++ number version) ++ number (kind_number kind)) ++ number count) ++ drop 16 bytes ≡ codes "CICV" ++ (number version ++ (number (kind_number kind) ++ (number count ++ drop 16 bytes))) = simp append_assoc in
    grouped ∙ rw e12 (rw e8 (rw e4 e0))
