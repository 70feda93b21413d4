-- Parameters put in for the products of a type, one after the other.
use Rattle.std.proofs.Common.{◌≡◌, ℕ, ◌+◌, ◌-◌, ◌<◌, ◌≤◌, List, [], ◌∷◌, ◌++◌, length, take, drop, get_or, refl, sym, ap, ap₂, ◌∙◌, add-one, arith}
use Rattle.std.proofs.lemmas.List.{length_push, length-map, take-map, drop-map, get_or-drop, length-drop, drop_more}
use Rattle.std.proofs.Math.Seq.{take-suc}
use Rattle.std.proofs.lemmas.Bool.Decides.{nat_tests}
use Rattle.std.specs.declared.rc.Rc.{Rc}
use Rattle.std.specs.declared.alloc.Global.{Global}
use Rattle.cic_terms.specs.declared.term.Term.{Term}
use Rattle.cic_terms.specs.Denotes.{tree}
use Rattle.cic_terms.specs.Tree.{Tree, rel, node, Children, no_child, child, prod, lam, over}
use Rattle.cic_terms.specs.Lift.{lift_tree, lift_children, subst_tree}
use Rattle.cic_terms.specs.calls.Walk.{map_tree}
use Rattle.cic_rules.specs.Telescopes.{substitute_all, domains_of}
use Rattle.cic_counted.specs.Readings.{codomain_at, instantiate}
use Rattle.cic_spines.specs.Lists.{shared_tree, shared_trees}
use Rattle.cic_spines.specs.calls.Several.{several}
use Rattle.cic_spines.proofs.Together.{put_in_at_once}
use Rattle.cic_ind.specs.calls.Pending.{begun_tree}

-- Terms put in under one binder
under_one : List Tree → Tree → Tree
under_one [] b = b
under_one (u ∷ us) b = under_one us (subst_tree (length us + 1) u b)

into_body : (us : List Tree) (a b : Tree) → substitute_all us (lam a b) ≡ lam (substitute_all us a) (under_one us b)
unfolding under_one
into_body [] a b = refl
into_body (u ∷ us) a b = into_body us (subst_tree (length us) u a) (subst_tree (length us + 1) u b)

body_of : Tree → Tree
body_of (lam a b) = b
body_of t = t

walked_body : (us : List Tree) (b : Tree) → map_tree (several us) 1 b ≡ under_one us b
unfolding body_of
walked_body us b = ap body_of (put_in_at_once us (lam b b) ∙ into_body us b b)

last_one : (us : List Tree) (u b : Tree) → substitute_all (us ++ u ∷ []) b ≡ subst_tree 0 u (under_one us b)
unfolding under_one
last_one [] u b = refl
last_one (v ∷ us) u b =
    ap (λ n. substitute_all (us ++ u ∷ []) (subst_tree n v b)) (length_push us u) ∙ last_one us u (subst_tree (length us + 1) v b)

pub one_more_put_in : (us : List Tree) (u b : Tree) → map_tree (several (us ++ u ∷ [])) 0 b ≡ subst_tree 0 u (map_tree (several us) 1 b)
one_more_put_in us u b =
    put_in_at_once (us ++ u ∷ []) b ∙ last_one us u b ∙ ap (subst_tree 0 u) (sym (walked_body us b))

pub none_put_in : (t : Tree) → map_tree (several []) 0 t ≡ t
none_put_in t = put_in_at_once [] t

-- A lift by none
lift_rel_by_none : (from x : ℕ) → lift_tree from 0 (rel x) ≡ rel x
lift_rel_by_none from x = grind (arith, nat_tests)

mutual
  pub lift_none : (from : ℕ) (t : Tree) → lift_tree from 0 t ≡ t
  lift_none from (rel x) = lift_rel_by_none from x
  lift_none from (node f ks) = ap (node f) (lift_none_children from ks)

  lift_none_children : (from : ℕ) (ks : Children) → lift_children from 0 ks ≡ ks
  lift_none_children from no_child = refl
  lift_none_children from (child b t ks) = ap₂ (child b) (lift_none (over b from) t) (lift_none_children from ks)

-- The terms that are put in, with one more
one_further : (ts : List Tree) (begin end : ℕ) → begin ≤ end → end < length ts →
    take (end + 1 - begin) (drop begin ts) ≡ take (end - begin) (drop begin ts) ++ get_or ts end (rel 0) ∷ []
one_further ts begin end h k =
    let less : end - begin < length (drop begin ts) = omega (arith, length-drop begin ts) in
    let e : end + 1 - begin ≡ (end - begin) + 1 = omega arith in
    let f : begin + (end - begin) ≡ end = omega arith in
    ap (λ n. take n (drop begin ts)) (e ∙ add-one (end - begin))
    ∙ take-suc (drop begin ts) (end - begin) (rel 0) less
    ∙ ap (λ u. take (end - begin) (drop begin ts) ++ u ∷ []) (get_or-drop begin ts (end - begin) (rel 0) ∙ ap (λ n. get_or ts n (rel 0)) f)

slice_trees : (all : List (Rc Term Global)) (begin n : ℕ) → shared_trees (take n (drop begin all)) ≡ take n (drop begin (shared_trees all))
slice_trees all begin n = sym (take-map shared_tree n (drop begin all)) ∙ ap (take n) (sym (drop-map shared_tree begin all))

slice_further : (all : List (Rc Term Global)) (begin end : ℕ) → begin ≤ end → end < length all →
    shared_trees (take (end + 1 - begin) (drop begin all)) ≡ shared_trees (take (end - begin) (drop begin all)) ++ get_or (shared_trees all) end (rel 0) ∷ []
slice_further all begin end h k =
    slice_trees all begin (end + 1 - begin)
    ∙ one_further (shared_trees all) begin end h (let n = length-map all shared_tree in omega arith)
    ∙ ap (λ ts. ts ++ get_or (shared_trees all) end (rel 0) ∷ []) (sym (slice_trees all begin (end - begin)))

-- The codomain of a type that is a product as it is written
pub codomain_begun : (all : List (Rc Term Global)) (begin end : ℕ) (at rest : Term) (domain : Tree) → begin ≤ end → end < length all → tree at ≡ prod domain (tree rest) →
    begun_tree all begin (end + 1) rest ≡ codomain_at (get_or (shared_trees all) end (rel 0)) (begun_tree all begin end at)
codomain_begun all begin end at rest domain h k e =
    ap (λ us. map_tree (several us) 0 (tree rest)) (slice_further all begin end h k)
    ∙ one_more_put_in (shared_trees (take (end - begin) (drop begin all))) (get_or (shared_trees all) end (rel 0)) (tree rest)
    ∙ ap (λ t. codomain_at (get_or (shared_trees all) end (rel 0)) (map_tree (several (shared_trees (take (end - begin) (drop begin all)))) 0 t)) (sym e)

-- The same where it is a variable for which a product is put in
pub codomain_put_in : (all : List (Rc Term Global)) (begin end : ℕ) (at rest : Term) (shown domain : Tree) → end < length all →
    begun_tree all begin end at ≡ lift_tree 0 0 shown → shown ≡ prod domain (tree rest) →
    begun_tree all end (end + 1) rest ≡ codomain_at (get_or (shared_trees all) end (rel 0)) (begun_tree all begin end at)
codomain_put_in all begin end at rest shown domain k e f =
    let u = get_or (shared_trees all) end (rel 0) in
    let none : end - end ≡ 0 = omega arith in
    let same : end ≤ end = omega arith in
    ap (λ us. map_tree (several us) 0 (tree rest)) (slice_further all end end same k ∙ ap (λ n. shared_trees (take n (drop end all)) ++ u ∷ []) none)
    ∙ put_in_at_once (u ∷ []) (tree rest)
    ∙ ap (codomain_at u) (sym (e ∙ lift_none 0 shown ∙ f))

-- What has no domain is no product, so a parameter changes nothing.
no_codomain : (t u : Tree) → domains_of t ≡ [] → codomain_at u t ≡ t
no_codomain (prod a b) u h = cc
no_codomain t u h = refl

pub not_instantiated : (us : List Tree) (t : Tree) → domains_of t ≡ [] → instantiate us t ≡ t
not_instantiated [] t h = refl
not_instantiated (u ∷ us) t h = ap (instantiate us) (no_codomain t u h) ∙ not_instantiated us t h

-- The parameters from one on
pub one_instantiated : (all : List (Rc Term Global)) (i : ℕ) (t : Tree) → i < length all →
    instantiate (shared_trees (drop i all)) t ≡ instantiate (shared_trees (drop (i + 1) all)) (codomain_at (get_or (shared_trees all) i (rel 0)) t)
one_instantiated all i t h =
    let less : i < length (shared_trees all) = (let n = length-map all shared_tree in omega arith) in
    ap (λ us. instantiate us t) (sym (drop-map shared_tree i all) ∙ drop_more (shared_trees all) i (rel 0) less)
    ∙ ap (λ us. instantiate us (codomain_at (get_or (shared_trees all) i (rel 0)) t)) (drop-map shared_tree (i + 1) all)
