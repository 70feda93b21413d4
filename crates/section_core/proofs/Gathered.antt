-- Lists that a loop puts together, part by part.
use Rattle.std.proofs.Common.{◌≡◌, ℕ, ◌+◌, ◌≤◌, ◌<◌, Bool, true, false, cond, is_none, List, [], ◌∷◌, ◌++◌, map, length, drop, get_or, refl, sym, ap, ◌∙◌, append_assoc}
use Rattle.std.proofs.lemmas.List.{append-nil}
use Rattle.cic_terms.proofs.Children.{drop_at, drop_whole}
use Rattle.section_terms.specs.Hypotheses.{ids_of, without_lets}
use Rattle.section_uses.specs.Kept.{hypothesis}
use Rattle.section_uses.specs.declared.hypothesis.Hypothesis.{Hypothesis as Kept}

module _ {A B : Type 0} (f : List A → List B) (part : A → List B) (each : (x : A) (xs : List A) → f (x ∷ xs) ≡ part x ++ f xs) where
  -- One more item
  pub gathered_more : (xs : List A) (i : ℕ) (x : A) (old new whole : List B) → i < length xs → x ≡ get_or xs i x →
      old ++ f (drop i xs) ≡ whole → new ≡ old ++ part x → new ++ f (drop (i + 1) xs) ≡ whole
  gathered_more xs i x old new whole lt at e more =
      ap (λ (ys : List B). ys ++ f (drop (i + 1) xs)) more
      ∙ append_assoc old (part x) (f (drop (i + 1) xs))
      ∙ ap (λ (ys : List B). old ++ ys) (sym (each x (drop (i + 1) xs)) ∙ ap f (sym (drop_at xs i x lt at)))
      ∙ e

-- No item is left
pub gathered_all : {A B : Type 0} (f : List A → List B) (xs : List A) (i : ℕ) (new whole : List B) → f [] ≡ [] → length xs ≤ i →
    new ++ f (drop i xs) ≡ whole → new ≡ whole
gathered_all {B = B} f xs i new whole none le e =
    sym (append-nil new) ∙ ap (λ (ys : List B). new ++ ys) (sym none ∙ ap f (sym (drop_whole xs i le))) ∙ e

-- The variables among hypotheses, one by one
pub each_variable : (h : Kept) (hs : List Kept) →
    ids_of (without_lets (map hypothesis (h ∷ hs))) ≡ ids_of (without_lets (hypothesis h ∷ [])) ++ ids_of (without_lets (map hypothesis hs))
each_variable h hs = go (is_none (hypothesis h).body)
  where
    go : (b : Bool) → ids_of (cond b (hypothesis h ∷ without_lets (map hypothesis hs)) (without_lets (map hypothesis hs))) ≡ ids_of (cond b (hypothesis h ∷ []) []) ++ ids_of (without_lets (map hypothesis hs))
    go true = refl
    go false = refl
