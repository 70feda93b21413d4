-- Terms that are within the limits, as the test reads it and as the calls that make terms say it.
use Rattle.std.proofs.Common.{◌≡◌, ℕ, ◌+◌, ◌<◌, ◌≤◌, true, false, nat_le, List, [], ◌∷◌, ◌++◌, length, drop, get_or, refl, sym, ap, subst, ◌∙◌, append_assoc, arith}
use Rattle.std.proofs.lemmas.Bool.{false_from_ne_true, and_parts, and_from}
use Rattle.std.proofs.lemmas.Bool.Decides.{nat_tests}
use Rattle.std.proofs.lemmas.List.{map_push}
use Rattle.std.specs.declared.rc.Rc.{Rc}
use Rattle.std.specs.declared.alloc.Global.{Global}
use Rattle.cic_terms.specs.declared.term.Term.{Term}
use Rattle.cic_terms.specs.Tree.{Tree}
use Rattle.cic_terms.specs.Lift.{lift_tree}
use Rattle.cic_terms.specs.Sizes.{Fits, depth_tree, max_rel}
use Rattle.cic_terms.proofs.Children.{drop_at}
use Rattle.cic_ind.proofs.Judged.{one_more_fits, one_is_too_deep}
use Rattle.cic_rules.specs.Telescopes.{lift_all}
use Rattle.cic_counted.specs.NestedTest.{are_small}
use Rattle.cic_counted.specs.Outcome.{is_small}
use Rattle.cic_spines.specs.Lists.{shared_tree, shared_trees}
use Rattle.cic_spines.specs.Several.{AllFit}

within : (m n : ℕ) → m ≤ n → nat_le m n ≡ true
within m n h = grind (arith, nat_tests)

is_within : (m n : ℕ) → nat_le m n ≡ true → m ≤ n
is_within m n h = grind (arith, nat_tests)

small_if_fits : (t : Tree) → Fits 4000 t → is_small t ≡ true
small_if_fits t h = and_from _ _ (within (depth_tree t) 4000 h.depth) (within (max_rel t) 1048576 h.rels)

fits_if_small : (t : Tree) → is_small t ≡ true → Fits 4000 t
fits_if_small t h =
    let p = and_parts (nat_le (depth_tree t) 4000) (nat_le (max_rel t) 1048576) h in
    record { depth = is_within (depth_tree t) 4000 p.0; rels = is_within (max_rel t) 1048576 p.1 }

pub all_small : (ts : List Tree) → AllFit ts → are_small ts ≡ true
all_small [] h = refl
all_small (t ∷ ts) h = and_from _ _ (small_if_fits t h.0) (all_small ts h.1)

all_fit : (ts : List Tree) → are_small ts ≡ true → AllFit ts
all_fit [] h = tt
all_fit (t ∷ ts) h = let p = and_parts (is_small t) (are_small ts) h in (fits_if_small t p.0, all_fit ts p.1)

pub not_all_small : (ts : List Tree) → ¬ AllFit ts → are_small ts ≡ false
not_all_small ts n = false_from_ne_true (are_small ts) (λ h. n (all_fit ts h))

-- Terms lifted one after the other
next_lifted : (made : List Tree) (terms : List (Rc Term Global)) (i : ℕ) (x : Rc Term Global) → i < length terms → x ≡ get_or terms i x →
    made ++ lift_all 1 (shared_trees (drop i terms)) ≡ lift_all 1 (shared_trees terms) →
    made ++ lift_tree 0 1 (shared_tree x) ∷ lift_all 1 (shared_trees (drop (i + 1) terms)) ≡ lift_all 1 (shared_trees terms)
next_lifted made terms i x h e inv = ap (λ l. made ++ lift_all 1 (shared_trees l)) (sym (drop_at terms i x h e)) ∙ inv

pub lifted_too_deep : (made : List Tree) (terms : List (Rc Term Global)) (i : ℕ) (x : Rc Term Global) → i < length terms → x ≡ get_or terms i x →
    made ++ lift_all 1 (shared_trees (drop i terms)) ≡ lift_all 1 (shared_trees terms) → ¬ Fits 4000 (lift_tree 0 1 (shared_tree x)) → ¬ AllFit (lift_all 1 (shared_trees terms))
lifted_too_deep made terms i x h e inv n =
    let Passes : List Tree → Type 0 = λ ts. ¬ AllFit ts in
    subst Passes (next_lifted made terms i x h e inv) (one_is_too_deep made (lift_tree 0 1 (shared_tree x)) (lift_all 1 (shared_trees (drop (i + 1) terms))) n)

pub one_lifted : (made new : List (Rc Term Global)) (r : Rc Term Global) (terms : List (Rc Term Global)) (i : ℕ) (x : Rc Term Global) → i < length terms → x ≡ get_or terms i x →
    new ≡ made ++ r ∷ [] → shared_tree r ≡ lift_tree 0 1 (shared_tree x) → shared_trees made ++ lift_all 1 (shared_trees (drop i terms)) ≡ lift_all 1 (shared_trees terms) →
    shared_trees new ++ lift_all 1 (shared_trees (drop (i + 1) terms)) ≡ lift_all 1 (shared_trees terms)
one_lifted made new r terms i x h e p q inv =
    ap (λ l. shared_trees l ++ lift_all 1 (shared_trees (drop (i + 1) terms))) p
    ∙ ap (λ l. l ++ lift_all 1 (shared_trees (drop (i + 1) terms))) (map_push shared_tree made r)
    ∙ append_assoc (shared_trees made) (shared_tree r ∷ []) (lift_all 1 (shared_trees (drop (i + 1) terms)))
    ∙ ap (λ t. shared_trees made ++ t ∷ lift_all 1 (shared_trees (drop (i + 1) terms))) q
    ∙ next_lifted (shared_trees made) terms i x h e inv

pub one_fits : (made new : List (Rc Term Global)) (r : Rc Term Global) (t : Tree) → new ≡ made ++ r ∷ [] → shared_tree r ≡ t → AllFit (shared_trees made) → Fits 4000 t → AllFit (shared_trees new)
one_fits made new r t p q all f =
    subst AllFit (sym (ap shared_trees p ∙ map_push shared_tree made r)) (one_more_fits (shared_trees made) (shared_tree r) all (subst (Fits 4000) (sym q) f))
