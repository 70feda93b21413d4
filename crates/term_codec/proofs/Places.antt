-- Numbers and names at a place.
use Rattle.std.proofs.Common.{◌≡◌, ℕ, suc, ◌+◌, ◌*◌, ◌-◌, ◌≤◌, ◌<◌, List, [], ◌∷◌, length, get_or, take, drop, Bool, true, false, refl, ap, sym, ◌∙◌, subst, arith, length-drop}
use Rattle.std.specs.Prelude.{nat_lt, Result, Ok, Err, IfOk, OnOk, IfErr}
use Rattle.std.proofs.lemmas.List.{drop_more, drop-drop}
use Rattle.std.proofs.lemmas.Bool.{le-leb, lt-leb}
use Rattle.cic_names.specs.Identifier.{is_identifier, IsIdentifier}
use Rattle.seg_format.specs.declared.faults.Defect.TheVariants.{Short}
use Rattle.seg_format.specs.declared.faults.Defect.TheVariants.{Name as NoName}
use Rattle.term_format.specs.Reading.{Reading, value, wrong, read_byte, number_of, read_number, read_name}
use Rattle.term_codec.specs.declared.faults.Stop.{Stop}
use Rattle.term_codec.specs.declared.faults.Stop.TheVariants.{Wrong, NoMemory}
use Rattle.term_codec.specs.calls.Answers.{Stops, Reads, IsNoName}

-- What is cut is short at the end.
pub cut_short : {A : Type 0} (size : ℕ) (r : Reading A) → r ≡ wrong Short 0 → Stops size r (Wrong Short size)
cut_short size r e = let z : 0 ≡ size - size = omega arith in (e ∙ ap (λ n. wrong Short n) z, omega arith)

drop_next : (b : List ℕ) (i j : ℕ) → j ≡ i + 1 → i < length b → drop i b ≡ get_or b i 0 ∷ drop j b
drop_next b i j e l = drop_more b i 0 l ∙ ap (λ n. get_or b i 0 ∷ drop n b) (sym e)

pub four_there : (b : List ℕ) (p : ℕ) → p + 4 ≤ length b
    → read_number (drop p b) ≡ value (get_or b p 0 * 16777216 + get_or b (p + 1) 0 * 65536 + get_or b (p + 2) 0 * 256 + get_or b (p + 3) 0) (drop (p + 4) b)
unfolding read_number number_of
four_there b p l =
    let e0 = drop_next b p (p + 1) refl (omega arith) in
    let e1 = drop_next b (p + 1) (p + 2) (omega arith) (omega arith) in
    let e2 = drop_next b (p + 2) (p + 3) (omega arith) (omega arith) in
    let e3 = drop_next b (p + 3) (p + 4) (omega arith) (omega arith) in
    let all : drop p b ≡ get_or b p 0 ∷ (get_or b (p + 1) 0 ∷ (get_or b (p + 2) 0 ∷ (get_or b (p + 3) 0 ∷ drop (p + 4) b))) =
    e0 ∙ ap (λ xs. get_or b p 0 ∷ xs) (e1 ∙ ap (λ xs. get_or b (p + 1) 0 ∷ xs) (e2 ∙ ap (λ xs. get_or b (p + 2) 0 ∷ xs) e3)) in
    ap read_number all

few : (xs : List ℕ) → length xs < 4 → read_number xs ≡ wrong Short 0
unfolding read_number
few [] l = refl
few (a ∷ []) l = refl
few (a ∷ b ∷ []) l = refl
few (a ∷ b ∷ c ∷ []) l = refl
few (a ∷ b ∷ c ∷ d ∷ xs) l = absurd (omega arith)

pub few_left : (b : List ℕ) (p : ℕ) → length b - p < 4 → read_number (drop p b) ≡ wrong Short 0
few_left b p l = few (drop p b) (omega (arith, length-drop p b))

pub name_cut : (b : List ℕ) (p q count : ℕ) → read_byte (drop p b) ≡ value count (drop q b) → length b - q < count → read_name (drop p b) ≡ wrong Short 0
unfolding read_name
name_cut b p q count e l =
    let t : nat_lt (length (drop q b)) count ≡ true = le-leb (suc (length (drop q b))) count (omega (arith, length-drop q b)) in
    rw (e, t) refl

pub name_there : (b : List ℕ) (p q count : ℕ) → read_byte (drop p b) ≡ value count (drop q b) → count ≤ length b - q → is_identifier (take count (drop q b)) ≡ true
    → read_name (drop p b) ≡ value (take count (drop q b)) (drop (q + count) b)
unfolding read_name
name_there b p q count e l i =
    let t : nat_lt (length (drop q b)) count ≡ false = lt-leb (suc (length (drop q b))) count (omega (arith, length-drop q b)) in
    let d : drop count (drop q b) ≡ drop (q + count) b = drop-drop count q b in
    rw (e, t, i, d) refl

pub name_wrong : (b : List ℕ) (p q count : ℕ) → read_byte (drop p b) ≡ value count (drop q b) → count ≤ length b - q → is_identifier (take count (drop q b)) ≡ false
    → read_name (drop p b) ≡ wrong NoName (length (drop p b))
unfolding read_name
name_wrong b p q count e l i =
    let t : nat_lt (length (drop q b)) count ≡ false = lt-leb (suc (length (drop q b))) count (omega (arith, length-drop q b)) in
    rw (e, t, i) refl

no_identifier : (t : Bool) → (t ≡ true → ⊥) → t ≡ false
no_identifier true h = absurd (h refl)
no_identifier false h = refl

-- What was made of the bytes after the length is what the name is read as.
pub name_made : (b : List ℕ) (p q count : ℕ) (bytes : List ℕ) (result : Result (List ℕ) Stop) → p ≤ length b → q ≤ length b → read_byte (drop p b) ≡ value count (drop q b) → count ≤ length b - q → bytes ≡ take count (drop q b)
    → IfOk result (λ name. name ≡ bytes) → OnOk result (IsIdentifier bytes) → IfErr result (λ stop. IsNoName bytes p stop) → Reads (λ v. v) b (read_name (drop p b)) (q + count) result
name_made b p q count bytes (Ok name) lp lq e l is v i w = record {
  ok = name_there b p q count e l (subst (λ x. is_identifier x ≡ true) is i) ∙ ap (λ x. value x (drop (q + count) b)) (sym (v ∙ is));
  within = omega arith;
  stops = tt;
}
name_made b p q count bytes (Err (Wrong d at)) lp lq e l is v i w =
    let no = no_identifier (is_identifier (take count (drop q b))) (λ t. w.2 (subst (λ x. is_identifier x ≡ true) (sym is) t)) in
    let left : length (drop p b) ≡ length b - at = length-drop p b ∙ ap (λ n. length b - n) (sym w.1) in
    record { ok = tt; within = tt; stops = (name_wrong b p q count e l no ∙ (ap (λ n. wrong NoName n) left ∙ ap (λ x. wrong x (length b - at)) (sym w.0)), omega (arith, w.1)) }
name_made b p q count bytes (Err NoMemory) lp lq e l is v i w = record { ok = tt; within = tt; stops = tt }
