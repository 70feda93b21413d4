-- Bytes, readings that follow one another, and what a reading shows of its bytes.
use Rattle.std.proofs.Common.{◌≡◌, ℕ, zero, suc, ◌<◌, List, [], ◌∷◌, ◌++◌, drop, Bool, true, false, refl, ap, sym, ◌∙◌, subst, arith, append_assoc}
use Rattle.std.specs.Prelude.{All, if◌then◌else◌, ◌&&◌}
use Rattle.seg_format.specs.declared.faults.Defect.{Defect}
use Rattle.term_format.specs.Reading.{Reading, value, wrong, and_then, if_right}

abbrev pub AreBytes : List ℕ → Type 0
AreBytes [] = Unit {0}
AreBytes (b ∷ bs) = (b < 256) × AreBytes bs

pub are_bytes : (bs : List ℕ) → All (λ b. b < 256) bs → AreBytes bs
are_bytes [] h = tt
are_bytes (b ∷ bs) h = (h 0 0 (omega arith), are_bytes bs (λ k d l. h (suc k) d (omega arith)))

pub drop_are_bytes : (n : ℕ) (bs : List ℕ) → AreBytes bs → AreBytes (drop n bs)
drop_are_bytes zero bs h = h
drop_are_bytes (suc n) [] h = h
drop_are_bytes (suc n) (b ∷ bs) h = drop_are_bytes n bs h.1

-- The bytes begin with the spelling of something that may be spelled.
pub record Spelled (Ok : Type 0) (spelling bytes rest : List ℕ) : Type 0 where
  pub ok : Ok
  pub is : bytes ≡ spelling ++ rest
  pub left : AreBytes rest

-- A value, and what follows it.
pub then_value : {A B : Type 0} {r : Reading A} {a : A} {rest : List ℕ} (f : A → List ℕ → Reading B) → r ≡ value a rest → and_then r f ≡ f a rest
then_value f e = ap (λ r. and_then r f) e

pub record Follows {A B : Type 0} (r : Reading A) (f : A → List ℕ → Reading B) (b : B) (rest : List ℕ) : Type 0 where
  pub first : A
  pub after : List ℕ
  pub read : r ≡ value first after
  pub next : f first after ≡ value b rest

pub follows : {A B : Type 0} (r : Reading A) (f : A → List ℕ → Reading B) (b : B) (rest : List ℕ) → and_then r f ≡ value b rest → Follows r f b rest
follows (value a after) f b rest e = record { first = a; after = after; read = refl; next = e }
follows (wrong d left) f b rest e = absurd (cc)

pub record Right {A : Type 0} (t : Bool) (r : Reading A) (a : A) (rest : List ℕ) : Type 0 where
  pub holds : t ≡ true
  pub read : r ≡ value a rest

pub right_of : {A : Type 0} (t : Bool) (d : Defect) (bytes : List ℕ) (r : Reading A) (a : A) (rest : List ℕ) → if_right t d bytes r ≡ value a rest → Right t r a rest
right_of true d bytes r a rest e = record { holds = refl; read = e }
right_of false d bytes r a rest e = absurd (cc)

-- A value that was read is this one.
pub record Same {A : Type 0} (a b : A) (rest rest' : List ℕ) : Type 0 where
  pub value_is : a ≡ b
  pub rest_is : rest ≡ rest'

pub same_of : {A : Type 0} {a b : A} {rest rest' : List ℕ} → value a rest ≡ value b rest' → Same a b rest rest'
same_of e = record { value_is = cc; rest_is = cc }

-- A spelling of one value is one of an equal value.
pub moved : {A : Type 0} (Ok : A → Type 0) (spelling : A → List ℕ) {a b : A} {bytes rest rest' : List ℕ} → Same a b rest rest' → Spelled (Ok a) (spelling a) bytes rest → Spelled (Ok b) (spelling b) bytes rest'
moved Ok spelling {a} {b} {bytes} {rest} {rest'} s p =
    subst (λ x. Spelled (Ok x) (spelling x) bytes rest') s.value_is (subst (λ r. Spelled (Ok a) (spelling a) bytes r) s.rest_is p)

-- One spelling after another.
pub both : {A B C : Type 0} {s t bytes after rest : List ℕ} → (A → B → C) → Spelled A s bytes after → Spelled B t after rest → Spelled C (s ++ t) bytes rest
both {A} {B} {C} {s} {t} {bytes} {after} {rest} f p q =
    record { ok = f p.ok q.ok; is = p.is ∙ (ap (λ xs. s ++ xs) q.is ∙ sym (append_assoc s t rest)); left = q.left }

-- Nothing at all.
pub nothing : (bytes : List ℕ) → AreBytes bytes → Spelled (Unit {0}) [] bytes bytes
nothing bytes h = record { ok = tt; is = refl; left = h }

-- The same, by what else it means.
pub so : {A B : Type 0} {s bytes rest : List ℕ} → (A → B) → Spelled A s bytes rest → Spelled B s bytes rest
so f p = record { ok = f p.ok; is = p.is; left = p.left }

-- A byte before a spelling.
pub after_byte : {A : Type 0} {s bytes rest : List ℕ} (b c : ℕ) → b ≡ c → Spelled A s bytes rest → Spelled A (c ∷ s) (b ∷ bytes) rest
after_byte {A} {s} {bytes} {rest} b c e p = record { ok = p.ok; is = ap (λ x. x ∷ bytes) e ∙ ap (λ xs. c ∷ xs) p.is; left = p.left }

-- A choice by a test.
pub case_on : {A P : Type 0} {a : A} {rest : List ℕ} (t : Bool) (x y : Reading A) → (if t then x else y) ≡ value a rest → (t ≡ true → x ≡ value a rest → P) → (t ≡ false → y ≡ value a rest → P) → P
case_on true x y e f g = f refl e
case_on false x y e f g = g refl e

pub both_true : (a b : Bool) → a && b ≡ true → (a ≡ true) × (b ≡ true)
both_true true b h = (refl, h)
both_true false b h = absurd (cc)
