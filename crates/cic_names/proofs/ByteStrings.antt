-- Different names, levels and constraints have different byte strings, whatever follows them.
use Rattle.std.proofs.Common.{◌≡◌, ℕ, Bool, true, false, List, [], ◌∷◌, ◌++◌, length, refl, sym, ap, ap₂, ◌∙◌, arith, append_assoc}
use Rattle.std.proofs.lemmas.List.{append-nil}
use Rattle.cic_names.specs.Orders.{name_bytes, part_byte, digits, number_bytes, owner_bytes, level_bytes, strict_byte, right_bytes, constraint_bytes}
use Rattle.cic_names.specs.declared.level.Part.{Part}
use Rattle.cic_names.specs.declared.level.Part.TheVariants.{Declared, Visible, Proof}
use Rattle.cic_names.specs.declared.level.Level.{Level}
use Rattle.cic_names.specs.declared.level.Level.TheVariants.{Set, Named}
use Rattle.cic_names.specs.declared.constraint.Constraint.{Constraint}
use Rattle.cic_names.proofs.Blocks.{part_not_set}

-- Equal lists begin alike and go on alike.
pub heads : {A : Type 0} {x y : A} {xs ys : List A} → x ∷ xs ≡ y ∷ ys → x ≡ y
heads e = cc

pub tails : {A : Type 0} {x y : A} {xs ys : List A} → x ∷ xs ≡ y ∷ ys → xs ≡ ys
tails e = cc

same_length_parts : (xs ys r s : List ℕ) → length xs ≡ length ys → xs ++ r ≡ ys ++ s → (xs ≡ ys) × (r ≡ s)
same_length_parts [] [] r s l e = (refl, e)
same_length_parts [] (y ∷ ys) r s l e = absurd (omega (arith, l))
same_length_parts (x ∷ xs) [] r s l e = absurd (omega (arith, l))
same_length_parts (x ∷ xs) (y ∷ ys) r s l e =
    let p = same_length_parts xs ys r s (omega (arith, l)) (tails e) in (ap₂ ◌∷◌ (heads e) p.0, p.1)

name_parts : (a b r s : List ℕ) → name_bytes a ++ r ≡ name_bytes b ++ s → (a ≡ b) × (r ≡ s)
name_parts a b r s e = same_length_parts a b r s (heads e) (tails e)

digits_is : (m n : ℕ) → digits m ≡ digits n → m ≡ n
digits_is m n e =
    let a = heads e in
    let b = heads (tails e) in
    let c = heads (tails (tails e)) in
    let d = heads (tails (tails (tails e))) in
    omega (arith, a, b, c, d)

number_parts : (p q : Part) (r s : List ℕ) → part_byte p ≡ part_byte q → number_bytes p ++ r ≡ number_bytes q ++ s → (p ≡ q) × (r ≡ s)
number_parts Declared Declared r s b e = (refl, e)
number_parts (Visible i) (Visible j) r s b e =
    let p = same_length_parts (digits i) (digits j) r s refl e in (ap Visible (digits_is i j p.0), p.1)
number_parts (Proof i) (Proof j) r s b e =
    let p = same_length_parts (digits i) (digits j) r s refl e in (ap Proof (digits_is i j p.0), p.1)
number_parts Declared (Visible j) r s b e = absurd (omega (arith, b))
number_parts Declared (Proof j) r s b e = absurd (omega (arith, b))
number_parts (Visible i) Declared r s b e = absurd (omega (arith, b))
number_parts (Visible i) (Proof j) r s b e = absurd (omega (arith, b))
number_parts (Proof i) Declared r s b e = absurd (omega (arith, b))
number_parts (Proof i) (Visible j) r s b e = absurd (omega (arith, b))

level_parts : (l m : Level) (r s : List ℕ) → level_bytes l ++ r ≡ level_bytes m ++ s → (l ≡ m) × (r ≡ s)
level_parts Set Set r s e = (refl, tails e)
level_parts Set (Named b) r s e = absurd (part_not_set b.part (heads e))
level_parts (Named a) Set r s e = absurd (part_not_set a.part (sym (heads e)))
level_parts (Named a) (Named b) r s e =
    let lib = name_parts a.lib b.lib (owner_bytes a ++ r) (owner_bytes b ++ s)
    (sym (append_assoc (name_bytes a.lib) (owner_bytes a) r) ∙ tails e ∙ append_assoc (name_bytes b.lib) (owner_bytes b) s) in
    let owner = name_parts a.owner b.owner (number_bytes a.part ++ r) (number_bytes b.part ++ s)
    (sym (append_assoc (name_bytes a.owner) (number_bytes a.part) r) ∙ lib.1 ∙ append_assoc (name_bytes b.owner) (number_bytes b.part) s) in
    let part = number_parts a.part b.part r s (heads e) owner.1 in
    (λ i. Named (record { lib = lib.0 i; owner = owner.0 i; part = part.0 i }), part.1)

strict_is : (x y : Bool) → strict_byte x ≡ strict_byte y → x ≡ y
strict_is true true e = refl
strict_is false false e = refl
strict_is true false e = absurd (omega (arith, e))
strict_is false true e = absurd (omega (arith, e))

pub name_bytes_injective : (a b : List ℕ) → name_bytes a ≡ name_bytes b → a ≡ b
name_bytes_injective a b e = tails e

pub level_bytes_injective : (a b : Level) → level_bytes a ≡ level_bytes b → a ≡ b
level_bytes_injective a b e = (level_parts a b [] [] (append-nil (level_bytes a) ∙ e ∙ sym (append-nil (level_bytes b)))).0

pub constraint_bytes_injective : (c d : Constraint) → constraint_bytes c ≡ constraint_bytes d → c ≡ d
constraint_bytes_injective c d e =
    let left = level_parts c.left d.left (right_bytes c) (right_bytes d) e in
    let strict = strict_is c.strict d.strict (heads left.1) in
    let right = level_bytes_injective c.right d.right (tails left.1) in
    λ i. record { left = left.0 i; strict = strict i; right = right i }
