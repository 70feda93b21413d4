-- How many variables there are among hypotheses.
use Rattle.std.proofs.Common.{◌≡◌, ℕ, ◌+◌, ◌≤◌, ◌<◌, Option, Some, None, List, [], ◌∷◌, length, map, drop, get_or, is_none, if◌then◌else◌, refl, sym, ap, ◌∙◌, arith}
use Rattle.cic_terms.specs.Tree.{Tree}
use Rattle.cic_terms.proofs.Children.{drop_at, drop_whole}
use Rattle.section_terms.specs.Hypotheses.{Hypothesis, without_lets}
use Rattle.section_uses.specs.Kept.{hypothesis}
use Rattle.section_uses.specs.declared.hypothesis.Hypothesis.{Hypothesis as Kept}

abbrev pub variables_from : ℕ → List Kept → ℕ
variables_from i hs = length (without_lets (map hypothesis (drop i hs)))

count_split : (h : Hypothesis) (hs : List Hypothesis) → length (without_lets (h ∷ hs)) ≡ length (without_lets (h ∷ [])) + length (without_lets hs)
count_split h hs = go h.body
  where
    go : (o : Option Tree) → length (if is_none o then h ∷ without_lets hs else without_lets hs) ≡ length (if is_none o then h ∷ [] else []) + length (without_lets hs)
    go None = omega arith
    go (Some t) = omega arith

pub count_more : (hs : List Kept) (i : ℕ) (h : Kept) → i < length hs → h ≡ get_or hs i h →
    variables_from i hs ≡ length (without_lets (hypothesis h ∷ [])) + variables_from (i + 1) hs
count_more hs i h lt at =
    ap (λ (xs : List Kept). length (without_lets (map hypothesis xs))) (drop_at hs i h lt at)
    ∙ count_split (hypothesis h) (map hypothesis (drop (i + 1) hs))

pub count_end : (hs : List Kept) (i : ℕ) → length hs ≤ i → variables_from i hs ≡ 0
count_end hs i le = ap (λ (xs : List Kept). length (without_lets (map hypothesis xs))) (drop_whole hs i le)
