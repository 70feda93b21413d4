-- Byte strings that are compared before what follows them.
use Rattle.std.proofs.Common.{◌≡◌, ℕ, ◌<◌, List, [], ◌∷◌, ◌++◌, length, refl, sym, ap, ◌∙◌, append_assoc, arith}
use Rattle.std.proofs.lemmas.Cmp.{ranked}
use Rattle.std.specs.Ordering.{nat_cmp, ordering_then, MatchOrdering}
use Rattle.std.specs.declared.cmp.Ordering.{Ordering}
use Rattle.std.specs.declared.cmp.Ordering.TheVariants.{Less, Equal, Greater}
use Rattle.cic_names.specs.Orders.{byte_order, name_bytes, part_byte, digits, number_bytes, owner_bytes, named_bytes, level_bytes}
use Rattle.cic_names.specs.declared.level.Part.{Part}
use Rattle.cic_names.specs.declared.level.Part.TheVariants.{Declared, Visible, Proof}
use Rattle.cic_names.specs.declared.level.Level.{Level}
use Rattle.cic_names.specs.declared.level.LevelName.{LevelName}
use Rattle.cic_names.specs.declared.level.Level.TheVariants.{Set, Named}

-- the order of two strings decides, whatever follows them
abbrev pub Leads : List ℕ → List ℕ → Type 0
Leads a b = (r s : List ℕ) → byte_order (a ++ r) (b ++ s) ≡ ordering_then (byte_order a b) (byte_order r s)

then_assoc : (o p q : Ordering) → ordering_then (ordering_then o p) q ≡ ordering_then o (ordering_then p q)
then_assoc Less p q = refl
then_assoc Equal p q = refl
then_assoc Greater p q = refl

pub same_length_leads : (a b : List ℕ) → length a ≡ length b → Leads a b
same_length_leads [] [] e r s = refl
same_length_leads [] (y ∷ b) e r s = absurd (cc)
same_length_leads (x ∷ a) [] e r s = absurd (cc)
same_length_leads (x ∷ a) (y ∷ b) e r s =
    ap (ordering_then (nat_cmp x y)) (same_length_leads a b (cc) r s) ∙ sym (then_assoc (nat_cmp x y) (byte_order a b) (byte_order r s))

pub name_leads : (a b : List ℕ) → Leads (name_bytes a) (name_bytes b)
name_leads a b r s = by (nat_cmp (length a) (length b)) (ranked (length a) (length b) (nat_cmp (length a) (length b)) refl)
  where
    by : (o : Ordering) → MatchOrdering o (length a < length b) (length a ≡ length b) (length b < length a) →
        ordering_then o (byte_order (a ++ r) (b ++ s)) ≡ ordering_then (ordering_then o (byte_order a b)) (byte_order r s)
    by Less h = refl
    by Equal h = same_length_leads a b h r s
    by Greater h = refl

pub leads_append : (a b c d : List ℕ) → Leads a b → Leads c d → Leads (a ++ c) (b ++ d)
leads_append a b c d f g r s =
    ap (λ z. byte_order z ((b ++ d) ++ s)) (append_assoc a c r) ∙ ap (λ z. byte_order (a ++ (c ++ r)) z) (append_assoc b d s)
    ∙ f (c ++ r) (d ++ s) ∙ ap (ordering_then (byte_order a b)) (g r s)
    ∙ sym (ap (λ o. ordering_then o (byte_order r s)) (f c d) ∙ then_assoc (byte_order a b) (byte_order c d) (byte_order r s))

pub part_not_set : (p : Part) → 0 ≡ part_byte p → ⊥
part_not_set Declared e = omega (arith, e)
part_not_set (Visible i) e = omega (arith, e)
part_not_set (Proof i) e = omega (arith, e)

number_leads : (p q : Part) → part_byte p ≡ part_byte q → Leads (number_bytes p) (number_bytes q)
number_leads Declared Declared e = same_length_leads [] [] refl
number_leads (Visible i) (Visible j) e = same_length_leads (digits i) (digits j) refl
number_leads (Proof i) (Proof j) e = same_length_leads (digits i) (digits j) refl
number_leads Declared (Visible j) e = absurd (omega (arith, e))
number_leads Declared (Proof j) e = absurd (omega (arith, e))
number_leads (Visible i) Declared e = absurd (omega (arith, e))
number_leads (Visible i) (Proof j) e = absurd (omega (arith, e))
number_leads (Proof i) Declared e = absurd (omega (arith, e))
number_leads (Proof i) (Visible j) e = absurd (omega (arith, e))

-- two strings whose first byte decides, or else what follows it
first_byte_leads : (x y : ℕ) (a b : List ℕ) → (x ≡ y → Leads a b) → Leads (x ∷ a) (y ∷ b)
first_byte_leads x y a b f r s = by (nat_cmp x y) (ranked x y (nat_cmp x y) refl)
  where
    by : (o : Ordering) → MatchOrdering o (x < y) (x ≡ y) (y < x) →
        ordering_then o (byte_order (a ++ r) (b ++ s)) ≡ ordering_then (ordering_then o (byte_order a b)) (byte_order r s)
    by Less h = refl
    by Equal h = f h r s
    by Greater h = refl

named_leads : (a b : LevelName) → Leads (part_byte a.part ∷ named_bytes a) (part_byte b.part ∷ named_bytes b)
named_leads a b = first_byte_leads (part_byte a.part) (part_byte b.part) (named_bytes a) (named_bytes b)
    (λ e. leads_append (name_bytes a.lib) (name_bytes b.lib) (owner_bytes a) (owner_bytes b) (name_leads a.lib b.lib)
    (leads_append (name_bytes a.owner) (name_bytes b.owner) (number_bytes a.part) (number_bytes b.part) (name_leads a.owner b.owner)
    (number_leads a.part b.part e)))

pub level_leads : (a b : Level) → Leads (level_bytes a) (level_bytes b)
level_leads Set Set = same_length_leads (0 ∷ []) (0 ∷ []) refl
level_leads Set (Named b) = first_byte_leads 0 (part_byte b.part) [] (named_bytes b) (λ e. absurd (part_not_set b.part e))
level_leads (Named a) Set = first_byte_leads (part_byte a.part) 0 (named_bytes a) [] (λ e. absurd (part_not_set a.part (sym e)))
level_leads (Named a) (Named b) = named_leads a b

-- where the first strings are equal, the rest decides
pub rest_decides : (a b r s : List ℕ) (o p : Ordering) → Leads a b → o ≡ byte_order a b → o ≡ Equal → p ≡ byte_order r s → p ≡ byte_order (a ++ r) (b ++ s)
rest_decides a b r s o p f e h g = g ∙ sym (f r s ∙ ap (λ z. ordering_then z (byte_order r s)) (sym e ∙ h))

unequal : (o p : Ordering) → (o ≡ Equal → ⊥) → ordering_then o p ≡ o
unequal Less p h = refl
unequal Equal p h = absurd (h refl)
unequal Greater p h = refl

-- where they differ, they decide
pub first_decides : (a b r s : List ℕ) (o : Ordering) → Leads a b → o ≡ byte_order a b → (o ≡ Equal → ⊥) → o ≡ byte_order (a ++ r) (b ++ s)
first_decides a b r s o f e h = sym (f r s ∙ ap (λ z. ordering_then z (byte_order r s)) (sym e) ∙ unequal o (byte_order r s) h)
