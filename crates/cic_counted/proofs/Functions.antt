-- The functions of a Fix are read off its parts, and the arguments of an application off the application. So what
-- the tests of the check read off a term is what the rules put it together from.
use Rattle.std.proofs.Common.{◌≡◌, ℕ, ◌+◌, Some, List, [], ◌∷◌, ◌++◌, length, take, drop, refl, ap, ap₂, sym, ◌∙◌}
use Rattle.std.proofs.Math.Nat.{zero-add, add-zero, suc-add}
use Rattle.std.proofs.Math.Seq.{take-append_seam, drop-append-add}
use Rattle.std.proofs.lemmas.List.{append-nil, append_assoc}
use Rattle.cic_terms.specs.Tree.{Tree, Children, no_child, child, join, app}
use Rattle.cic_rules.specs.Telescopes.{Function, domain_parts, function_parts, function_shapes, apply}
use Rattle.cic_counted.specs.Readings.{trees_of, tree_at, split_functions, functions_if_parts, functions_of, arguments_of}
use Rattle.cic_counted.proofs.Decided.{same_children-refl}

pub trees_of-join : (ks ls : Children) → trees_of (join ks ls) ≡ trees_of ks ++ trees_of ls
trees_of-join no_child ls = refl
trees_of-join (child b t ks) ls = ap (λ z. t ∷ z) (trees_of-join ks ls)

pub trees_of-domains : (above : ℕ) (as_ : List Tree) → trees_of (domain_parts above as_) ≡ as_
trees_of-domains above [] = refl
trees_of-domains above (a ∷ as_) = ap (λ z. a ∷ z) (trees_of-domains (above + 1) as_)

-- The tree that stands `i` places after the domains.
tree_at-append : (as_ ts : List Tree) (i : ℕ) → tree_at (as_ ++ ts) (length as_ + i) ≡ tree_at ts i
tree_at-append [] ts i = ap (tree_at ts) (zero-add i)
tree_at-append (a ∷ as_) ts i = ap (tree_at (a ∷ (as_ ++ ts))) (suc-add (length as_) i) ∙ tree_at-append as_ ts i

make : ℕ → List Tree → Tree → Tree → Function
make k domains codomain body = record { recursive_place = k; domains = domains; codomain = codomain; body = body }

split_parts : (all : ℕ) (fs : List Function) → split_functions (function_shapes fs) (trees_of (function_parts all fs)) ≡ fs
unfolding make
split_parts all [] = refl
split_parts all (f ∷ fs) =
    let tail = f.codomain ∷ f.body ∷ trees_of (function_parts all fs) in
    let parts : trees_of (function_parts all (f ∷ fs)) ≡ f.domains ++ tail =
    trees_of-join (domain_parts 0 f.domains) _ ∙ ap (λ z. z ++ tail) (trees_of-domains 0 f.domains) in
    let codomain : tree_at (f.domains ++ tail) (length f.domains) ≡ f.codomain =
    ap (tree_at (f.domains ++ tail)) (sym (add-zero (length f.domains))) ∙ tree_at-append f.domains tail 0 in
    let first : make f.recursive_place (take (length f.domains) (f.domains ++ tail)) (tree_at (f.domains ++ tail) (length f.domains)) (tree_at (f.domains ++ tail) (length f.domains + 1)) ≡ f =
    ap (λ d. make f.recursive_place d (tree_at (f.domains ++ tail) (length f.domains)) (tree_at (f.domains ++ tail) (length f.domains + 1))) (take-append_seam f.domains tail)
    ∙ ap₂ (make f.recursive_place f.domains) codomain (tree_at-append f.domains tail 1) in
    let others : split_functions (function_shapes fs) (drop (length f.domains + 2) (f.domains ++ tail)) ≡ fs =
    ap (split_functions (function_shapes fs)) (drop-append-add f.domains tail 2) ∙ split_parts all fs in
    ap (split_functions (function_shapes (f ∷ fs))) parts ∙ ap₂ ◌∷◌ first others

pub functions_of-parts : (fs : List Function) → functions_of (function_shapes fs) (function_parts (length fs) fs) ≡ Some fs
functions_of-parts fs =
    let parts = function_parts (length fs) fs in
    let are_parts : functions_if_parts parts fs ≡ Some fs = rw (same_children-refl parts) refl in
    ap (functions_if_parts parts) (split_parts (length fs) fs) ∙ are_parts

-- The arguments of an application in a row.
pub arguments_of_apply : (us : List Tree) (f : Tree) → arguments_of (apply f us) ≡ arguments_of f ++ us
arguments_of_apply [] f = sym (append-nil (arguments_of f))
arguments_of_apply (u ∷ us) f = arguments_of_apply us (app f u) ∙ append_assoc (arguments_of f) (u ∷ []) us
