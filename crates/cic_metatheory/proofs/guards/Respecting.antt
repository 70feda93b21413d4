-- A substitution that fits marks does so under more binders, and what fits a mark stays so past them. The
-- guard under a substitution needs it at each binder that it goes under.
use Rattle.std.proofs.Common.{◌≡◌, ◌≢◌, ℕ, zero, suc, List, [], ◌∷◌, length, replicate, refl, sym, ◌∙◌}
use Rattle.std.proofs.lemmas.List.{length-replicate}
use Rattle.cic_terms.specs.Tree.{over, Tree, rel, node, Children, no_child, child}
use Rattle.cic_rules.specs.Guard.{Mark, plain, function, Marks, under_mark, under_marks, under_plain}
use Rattle.cic_metatheory.specs.Substitution.{renaming_under_one, renaming_under, rename, rename_children, substitution_under_one, substitution_under}
use Rattle.cic_metatheory.specs.calls.Guards.{WithoutFunctions, no_function, in_no_part, PartsWithoutFunctions, no_part, part_without, RespectsMark, for_plain, same_mark, KeepsMarks, RespectsMarks}

-- A renaming under binders
keeps_under_one : (r : ℕ → ℕ) (f f' : Marks) (m : Mark) → KeepsMarks r f f' → KeepsMarks (renaming_under_one r) (under_mark m f) (under_mark m f')
unfolding renaming_under_one
keeps_under_one r f f' m h zero = refl
keeps_under_one r f f' m h (suc x) = h x

keeps_under : (n : ℕ) (r : ℕ → ℕ) (f f' : Marks) → KeepsMarks r f f' → KeepsMarks (renaming_under n r) (under_plain n f) (under_plain n f')
unfolding renaming_under
keeps_under zero r f f' h = h
keeps_under (suc n) r f f' h =
    keeps_under n (renaming_under_one r) (under_mark plain f) (under_mark plain f') (keeps_under_one r f f' plain h)

mutual
  unfolding rename

  rename_without_functions : {f : Marks} {t : Tree} → WithoutFunctions f t → (r : ℕ → ℕ) (f' : Marks) → KeepsMarks r f f' → WithoutFunctions f' (rename r t)
  rename_without_functions (no_function {x = x} n) r f' h = no_function (λ j e. n j (sym (h x) ∙ e))
  rename_without_functions (in_no_part c) r f' h = in_no_part (rename_parts_without_functions c r f' h)

  rename_parts_without_functions : {f : Marks} {ks : Children} → PartsWithoutFunctions f ks → (r : ℕ → ℕ) (f' : Marks) → KeepsMarks r f f' → PartsWithoutFunctions f' (rename_children r ks)
  rename_parts_without_functions no_part r f' h = no_part
  rename_parts_without_functions (part_without {marks = f} {b = b} c cs) r f' h =
      part_without
      (rename_without_functions c (renaming_under (over b 0) r) (under_plain (over b 0) f') (keeps_under (over b 0) r f f' h))
      (rename_parts_without_functions cs r f' h)

-- A substitution under binders
respects_past_one : {f : Marks} {m : Mark} {t : Tree} → RespectsMark f m t → (q : Mark) → RespectsMark (under_mark q f) m (rename suc t)
unfolding rename
respects_past_one {f = f} (for_plain c) q = for_plain (rename_without_functions c suc (under_mark q f) (λ x. refl))
respects_past_one (same_mark e) q = same_mark e

pub respects_under_one : (f : Marks) (s : ℕ → Tree) (f' : Marks) (q : Mark) → RespectsMarks s f f' → RespectsMarks (substitution_under_one s) (under_mark q f) (under_mark q f')
unfolding substitution_under_one
respects_under_one f s f' q h zero = same_mark refl
respects_under_one f s f' q h (suc x) = respects_past_one (h x) q

pub respects_under_marks : (ms : List Mark) (f : Marks) (s : ℕ → Tree) (f' : Marks) → RespectsMarks s f f' → RespectsMarks (substitution_under (length ms) s) (under_marks ms f) (under_marks ms f')
unfolding substitution_under
respects_under_marks [] f s f' h = h
respects_under_marks (q ∷ ms) f s f' h =
    respects_under_marks ms (under_mark q f) (substitution_under_one s) (under_mark q f') (respects_under_one f s f' q h)

pub respects_under : (ms : List Mark) (n : ℕ) (f : Marks) (s : ℕ → Tree) (f' : Marks) → n ≡ length ms → RespectsMarks s f f' → RespectsMarks (substitution_under n s) (under_marks ms f) (under_marks ms f')
respects_under ms n f s f' e h = rw e (respects_under_marks ms f s f' h)

pub respects_under_plain : (n : ℕ) (f : Marks) (s : ℕ → Tree) (f' : Marks) → RespectsMarks s f f' → RespectsMarks (substitution_under n s) (under_plain n f) (under_plain n f')
respects_under_plain n f s f' h = respects_under (replicate n plain) n f s f' (sym (length-replicate n plain)) h

-- What is put in for a variable that is not plain is a variable with its mark
pub record Variable (f : Marks) (m : Mark) (t : Tree) : Type 0 where
  pub place : ℕ
  pub is_variable : t ≡ rel place
  pub mark : f place ≡ m

pub stays_variable : (f : Marks) (m : Mark) (t : Tree) → RespectsMark f m t → m ≢ plain → Variable f m t
stays_variable f m t (for_plain c) n = absurd (n refl)
stays_variable f m t (same_mark {y = y} e) n = record { place = y; is_variable = refl; mark = e }

-- Where all variables are plain, every substitution fits
plain_under_one : (f : Marks) → ((x : ℕ) → f x ≡ plain) → (x : ℕ) → under_mark plain f x ≡ plain
plain_under_one f h zero = refl
plain_under_one f h (suc x) = h x

plain_under : (n : ℕ) (f : Marks) → ((x : ℕ) → f x ≡ plain) → (x : ℕ) → under_plain n f x ≡ plain
plain_under zero f h = h
plain_under (suc n) f h = plain_under n (under_mark plain f) (plain_under_one f h)

mutual
  without_functions : (t : Tree) (f : Marks) → ((x : ℕ) → f x ≡ plain) → WithoutFunctions f t
  without_functions (rel x) f h = no_function (λ j e. let z : plain ≡ function j = sym (h x) ∙ e in cc)
  without_functions (node g ks) f h = in_no_part (parts_without_functions ks f h)

  parts_without_functions : (ks : Children) (f : Marks) → ((x : ℕ) → f x ≡ plain) → PartsWithoutFunctions f ks
  parts_without_functions no_child f h = no_part
  parts_without_functions (child b t ks) f h =
      part_without (without_functions t (under_plain (over b 0) f) (plain_under (over b 0) f h)) (parts_without_functions ks f h)

pub all_respect : (f' : Marks) (t : Tree) → ((x : ℕ) → f' x ≡ plain) → RespectsMark f' plain t
all_respect f' t h = for_plain (without_functions t f' h)
