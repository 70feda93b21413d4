-- Lists of terms within the limits.
use Rattle.std.proofs.Common.{◌≡◌, ℕ, ◌+◌, ◌<◌, List, [], ◌∷◌, ◌++◌, length, drop, get_or, sym, ap, subst, ◌∙◌, append_assoc}
use Rattle.std.proofs.lemmas.List.{map_push}
use Rattle.std.specs.declared.rc.Rc.{Rc}
use Rattle.std.specs.declared.alloc.Global.{Global}
use Rattle.cic_terms.specs.declared.term.Term.{Term}
use Rattle.cic_terms.proofs.Children.{drop_at}
use Rattle.cic_spines.specs.Lists.{shared_tree, shared_trees}
use Rattle.cic_ind.specs.declared.pending.Part.{Part}
use Rattle.cic_ind.specs.calls.Pending.{part_tree, part_trees}
use Rattle.cic_terms.specs.Tree.{Tree}
use Rattle.cic_terms.specs.Sizes.{Fits}
use Rattle.cic_spines.specs.Several.{AllFit}

pub one_more_fits : (ts : List Tree) (t : Tree) → AllFit ts → Fits 4000 t → AllFit (ts ++ t ∷ [])
one_more_fits [] t h f = (f, tt)
one_more_fits (u ∷ ts) t h f = (h.0, one_more_fits ts t h.1 f)

pub one_is_too_deep : (ts : List Tree) (t : Tree) (us : List Tree) → ¬ Fits 4000 t → ¬ AllFit (ts ++ t ∷ us)
one_is_too_deep [] t us n h = n h.0
one_is_too_deep (u ∷ ts) t us n h = one_is_too_deep ts t us n h.1

-- The next of several parts, which are made one after the other
next_part : (made : List Tree) (parts : List Part) (i : ℕ) (part : Part) → i < length parts → part ≡ get_or parts i part →
    made ++ part_trees (drop i parts) ≡ part_trees parts → made ++ part_tree part ∷ part_trees (drop (i + 1) parts) ≡ part_trees parts
next_part made parts i part h e inv = ap (λ l. made ++ part_trees l) (sym (drop_at parts i part h e)) ∙ inv

pub part_too_deep : (made : List Tree) (parts : List Part) (i : ℕ) (part : Part) → i < length parts → part ≡ get_or parts i part →
    made ++ part_trees (drop i parts) ≡ part_trees parts → ¬ Fits 4000 (part_tree part) → ¬ AllFit (part_trees parts)
part_too_deep made parts i part h e inv n =
    let Passes : List Tree → Type 0 = λ ts. ¬ AllFit ts in
    subst Passes (next_part made parts i part h e inv) (one_is_too_deep made (part_tree part) (part_trees (drop (i + 1) parts)) n)

pub part_made : (made new : List (Rc Term Global)) (x : Rc Term Global) (parts : List Part) (i : ℕ) (part : Part) → i < length parts → part ≡ get_or parts i part →
    new ≡ made ++ x ∷ [] → shared_tree x ≡ part_tree part → shared_trees made ++ part_trees (drop i parts) ≡ part_trees parts →
    shared_trees new ++ part_trees (drop (i + 1) parts) ≡ part_trees parts
part_made made new x parts i part h e p q inv =
    ap (λ l. shared_trees l ++ part_trees (drop (i + 1) parts)) p
    ∙ ap (λ l. l ++ part_trees (drop (i + 1) parts)) (map_push shared_tree made x)
    ∙ append_assoc (shared_trees made) (shared_tree x ∷ []) (part_trees (drop (i + 1) parts))
    ∙ ap (λ t. shared_trees made ++ t ∷ part_trees (drop (i + 1) parts)) q
    ∙ next_part (shared_trees made) parts i part h e inv

pub part_fits : (made new : List (Rc Term Global)) (x : Rc Term Global) (part : Part) → new ≡ made ++ x ∷ [] → shared_tree x ≡ part_tree part →
    AllFit (shared_trees made) → Fits 4000 (part_tree part) → AllFit (shared_trees new)
part_fits made new x part p q all f =
    subst AllFit (sym (ap shared_trees p ∙ map_push shared_tree made x)) (one_more_fits (shared_trees made) (shared_tree x) all (subst (Fits 4000) (sym q) f))
