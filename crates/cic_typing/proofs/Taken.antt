-- The first of several terms, and the others.
use Rattle.std.proofs.Common.{◌≡◌, ℕ, zero, suc, List, [], ◌∷◌, take, drop, refl, ap}
use Rattle.std.specs.declared.rc.Rc.{Rc}
use Rattle.std.specs.declared.alloc.Global.{Global}
use Rattle.cic_terms.specs.declared.term.Term.{Term}
use Rattle.cic_spines.specs.Lists.{shared_tree, shared_trees}

pub first_trees : (n : ℕ) (xs : List (Rc Term Global)) → shared_trees (take n xs) ≡ take n (shared_trees xs)
first_trees zero xs = refl
first_trees (suc n) [] = refl
first_trees (suc n) (x ∷ xs) = ap (λ ts. shared_tree x ∷ ts) (first_trees n xs)

pub last_trees : (n : ℕ) (xs : List (Rc Term Global)) → shared_trees (drop n xs) ≡ drop n (shared_trees xs)
last_trees zero xs = refl
last_trees (suc n) [] = refl
last_trees (suc n) (x ∷ xs) = last_trees n xs
