-- Sameness of names as an equivalence, and lists of names as sets.
use Rattle.std.proofs.Common.{◌≡◌, ℕ, Bool, true, false, ◌||◌, ◌&&◌, List, [], ◌∷◌, ◌++◌, refl, sym, ap, subst, ◌∙◌, if◌then◌else◌, true≢false}
use Rattle.std.specs.Prelude.{Result, Ok, Err, OnOk, OnErr}
use Rattle.std.specs.List.{list_any}
use Rattle.std.specs.Prelude.{leb, length, ◌<◌, ◌≤◌}
use Rattle.std.proofs.lemmas.Bool.{le-leb, lt-leb}
use Rattle.cic_names.specs.Identifier.{is_identifier, IsIdentifier}
use Rattle.cic_names.specs.Sameness.{same_name}
use Rattle.cic_names.proofs.Equality.{same_name_decides}
use Rattle.gal_scoping.specs.Names.{has_own, is_name}
use Rattle.name_scope.specs.calls.Changes.{Joins, with_name, with_names}

pub name_is : (a b : List ℕ) → same_name a b ≡ true → a ≡ b
name_is a b e = (same_name_decides a b).0 e

pub same_self : (a : List ℕ) → same_name a a ≡ true
same_self a = (same_name_decides a a).1 refl

pub same_turned : (a b : List ℕ) → same_name a b ≡ true → same_name b a ≡ true
same_turned a b e = (same_name_decides b a).1 (sym (name_is a b e))

pub differs : (b : Bool) → (b ≡ true → ⊥) → b ≡ false
differs true h = absurd (h refl)
differs false h = refl

pub other_turned : (a b : List ℕ) → same_name a b ≡ false → same_name b a ≡ false
other_turned a b e = differs (same_name b a) (λ t. true≢false (sym (same_turned b a t) ∙ e))

pub and_left : (a b : Bool) → (a && b) ≡ true → a ≡ true
and_left true b h = refl
and_left false b h = h

pub and_right : (a b : Bool) → (a && b) ≡ true → b ≡ true
and_right true b h = h
and_right false b h = absurd (true≢false (sym h))

pub and_both : (a b : Bool) → a ≡ true → b ≡ true → (a && b) ≡ true
and_both true b h k = k
and_both false b h k = h

pub any-append : {X : Type 0} (test : X → Bool) (xs ys : List X) → list_any test (xs ++ ys) ≡ (list_any test xs || list_any test ys)
any-append test [] ys = refl
any-append test (x ∷ xs) ys = elim (test x) as (λ b. (b || list_any test (xs ++ ys)) ≡ ((b || list_any test xs) || list_any test ys)) [
  | true ↦ refl
  | false ↦ any-append test xs ys
]

or_comm : (a b : Bool) → (a || (b || false)) ≡ (b || a)
or_comm true true = refl
or_comm true false = refl
or_comm false true = refl
or_comm false false = refl

-- A name that is put behind the others joins them.
pub joins : (names : List (List ℕ)) (name : List ℕ) → Joins name names (with_name names name)
joins names name other = elim (has_own names name) as (λ b. has_own names name ≡ b → has_own (if b then names else names ++ name ∷ []) other ≡ (same_name other name || has_own names other)) [
  | true ↦ λ e. there e (same_name other name) refl
  | false ↦ λ e. any-append (same_name other) names (name ∷ []) ∙ or_comm (has_own names other) (same_name other name)
] refl
  where
    there : has_own names name ≡ true → (b : Bool) → same_name other name ≡ b → has_own names other ≡ (b || has_own names other)
    there e true s = subst (λ n. has_own names n ≡ true) (sym (name_is other name s)) e
    there e false s = refl

pub with_there : (names : List (List ℕ)) (name : List ℕ) → has_own names name ≡ true → names ≡ with_name names name
with_there names name e = sym (ap (λ b. if b then names else names ++ name ∷ []) e)

pub with_new : (names : List (List ℕ)) (name : List ℕ) → has_own names name ≡ false → names ++ name ∷ [] ≡ with_name names name
with_new names name e = sym (ap (λ b. if b then names else names ++ name ∷ []) e)

or_three : (a b c : Bool) → ((a || b) || c) ≡ (b || (a || c))
or_three true true c = refl
or_three true false c = refl
or_three false b c = refl

-- Several names that are put behind the others.
pub has_more : (names more : List (List ℕ)) (name : List ℕ) → has_own (with_names names more) name ≡ (has_own names name || has_own more name)
has_more names [] name = or_none (has_own names name)
  where
    or_none : (b : Bool) → b ≡ (b || false)
    or_none true = refl
    or_none false = refl
has_more names (m ∷ more) name =
    has_more (with_name names m) more name
    ∙ ap (λ b. b || has_own more name) (joins names m name)
    ∙ or_three (same_name name m) (has_own names name) (has_own more name)

pub on_ok : {T E : Type 0} {P Q : Type 0} (r : Result T E) → (P → Q) → OnOk r P → OnOk r Q
on_ok (Ok x) f h = f h
on_ok (Err e) f h = tt

pub on_err : {T E : Type 0} {P Q : Type 0} (r : Result T E) → (P → Q) → OnErr r P → OnErr r Q
on_err (Ok x) f h = tt
on_err (Err e) f h = f h

-- Which bytes are a name.
and_false : (b : Bool) → (b && false) ≡ false
and_false true = refl
and_false false = refl

pub name_holds : (text : List ℕ) → IsIdentifier text → length text ≤ 255 → is_name text ≡ true
name_holds text i short = ap (λ b. b && leb (length text) 255) i ∙ le-leb (length text) 255 short

pub no_identifier : (text : List ℕ) → (IsIdentifier text → ⊥) → is_name text ≡ false
no_identifier text other = ap (λ b. b && leb (length text) 255) (differs (is_identifier text) other)

pub long_name : (text : List ℕ) → 255 < length text → is_name text ≡ false
long_name text long = ap (λ b. is_identifier text && b) (lt-leb (length text) 255 long) ∙ and_false (is_identifier text)
