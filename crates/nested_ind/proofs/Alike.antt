-- Two lists that are compared element by element.
use Rattle.std.proofs.Common.{◌≡◌, ℕ, ◌+◌, ◌<◌, Bool, true, false, ◌&&◌, List, length, drop, get_or, ap₂}
use Rattle.std.specs.declared.rc.Rc.{Rc}
use Rattle.std.specs.declared.alloc.Global.{Global}
use Rattle.cic_terms.specs.declared.term.Term.{Term}
use Rattle.cic_terms.proofs.Children.{drop_at}
use Rattle.cic_counted.specs.BlockTests.{same_trees}
use Rattle.cic_counted.specs.Sameness.{same_tree}
use Rattle.cic_spines.specs.Lists.{shared_tree, shared_trees}

pub next_parameters : (some other : List (Rc Term Global)) (i : ℕ) (x y : Rc Term Global) → i < length some → x ≡ get_or some i x → i < length other → y ≡ get_or other i y →
    same_trees (shared_trees (drop i some)) (shared_trees (drop i other))
    ≡ (same_tree (shared_tree x) (shared_tree y) && same_trees (shared_trees (drop (i + 1) some)) (shared_trees (drop (i + 1) other)))
next_parameters some other i x y h e k f =
    ap₂ (λ l m. same_trees (shared_trees l) (shared_trees m)) (drop_at some i x h e) (drop_at other i y k f)

pub first_same : (b rest whole : Bool) → b ≡ true → (b && rest) ≡ whole → rest ≡ whole
first_same true rest whole e h = h
first_same false rest whole e h = cc

pub first_differs : (b rest whole : Bool) → b ≡ false → (b && rest) ≡ whole → false ≡ whole
first_differs false rest whole e h = h
first_differs true rest whole e h = cc
