-- A motive at a constructor, by one walk; and what of its parts passes the limits where a part does.
use Rattle.std.proofs.Common.{◌≡◌, ℕ, ◌+◌, ◌-◌, ◌<◌, ◌≤◌, ◌⊎◌, inl, inr, List, [], ◌∷◌, ◌++◌, length, drop, get_or, if◌then◌else◌, ltb, Some, Ok, Err, refl, sym, ap, ap₂, ◌∙◌, arith, max}
use Rattle.std.proofs.lemmas.Bool.Decides.{nat_tests}
use Rattle.std.proofs.lemmas.Bool.{cases_lt}
use Rattle.std.proofs.lemmas.List.{length-map, length_push, get_or-map, get_or_append_left}
use Rattle.std.specs.declared.rc.Rc.{Rc}
use Rattle.std.specs.declared.alloc.Global.{Global}
use Rattle.cic_terms.specs.declared.term.Term.{Term}
use Rattle.cic_terms.specs.declared.term.TermFault.{TermFault}
use Rattle.cic_terms.specs.calls.Answer.{Changes, MakesShared}
use Rattle.cic_terms.specs.Tree.{Tree, rel, node, Children, no_child, child, over, app, ctor}
use Rattle.cic_terms.specs.Lift.{lift_tree, lift_children}
use Rattle.cic_terms.specs.Sizes.{Fits, depth_tree, depth_children, max_rel, max_rel_children}
use Rattle.cic_terms.specs.calls.Walk.{map_tree, map_children}
use Rattle.cic_terms.proofs.Laws.{over_adds}
use Rattle.cic_rules.specs.Environment.{ConstructorDeclaration}
use Rattle.cic_rules.specs.Telescopes.{apply, conclusion_of, domains_of, lift_all, substitute_all, variables}
use Rattle.cic_counted.specs.Inference.{branch_goal}
use Rattle.cic_counted.specs.Readings.{arguments_of, instantiate}
use Rattle.cic_spines.specs.calls.Several.{several}
use Rattle.cic_spines.proofs.Together.{put_in_at_once}
use Rattle.cic_ind.specs.declared.pending.Part.{Part}
use Rattle.cic_ind.specs.calls.Goals.{goal_variable, goal_terms}
use Rattle.cic_ind.specs.calls.Pending.{part_tree, part_trees}

-- One walk does what a lift and then a walk do.
walked_rel : (us : List Tree) (a m at n : ℕ) → map_tree (goal_variable us a m) at (rel n) ≡ map_tree (several us) at (lift_tree (at + (a + 1)) m (rel n))
walked_rel us a m at n = go (cases_lt n at) (cases_lt n (at + (a + 1)))
  where
    go : (n < at) ⊎ (at ≤ n) → (n < at + (a + 1)) ⊎ (at + (a + 1) ≤ n) → map_tree (goal_variable us a m) at (rel n) ≡ map_tree (several us) at (lift_tree (at + (a + 1)) m (rel n))
    go (inl lt) (inl own) = grind (arith, nat_tests)
    go (inl lt) (inr outer) = absurd (omega arith)
    go (inr ge) (inl own) = grind (arith, nat_tests)
    go (inr ge) (inr outer) = grind (arith, nat_tests)

mutual
  walked : (us : List Tree) (a m at place : ℕ) (t : Tree) → place ≡ at + (a + 1) → map_tree (goal_variable us a m) at t ≡ map_tree (several us) at (lift_tree place m t)
  walked us a m at place (rel n) e = walked_rel us a m at n ∙ ap (λ k. map_tree (several us) at (lift_tree k m (rel n))) (sym e)
  walked us a m at place (node f ks) e = ap (node f) (walked_children us a m at place ks e)

  walked_children : (us : List Tree) (a m at place : ℕ) (ks : Children) → place ≡ at + (a + 1) → map_children (goal_variable us a m) at ks ≡ map_children (several us) at (lift_children place m ks)
  walked_children us a m at place no_child e = refl
  walked_children us a m at place (child b t ks) e =
      ap₂ (child b) (walked us a m (over b at) (over b place) t (omega (arith, over_adds b at, over_adds b place))) (walked_children us a m at place ks e)

pub goal_at_once : (us : List Tree) (a m : ℕ) (p : Tree) → map_tree (goal_variable us a m) 0 p ≡ substitute_all us (lift_tree (a + 1) m p)
goal_at_once us a m p = walked us a m 0 (a + 1) p (omega arith) ∙ put_in_at_once us (lift_tree (a + 1) m p)

-- Applications to more arguments, and lifted
pub apply_further : (f : Tree) (us vs : List Tree) → apply f (us ++ vs) ≡ apply (apply f us) vs
apply_further f [] vs = refl
apply_further f (u ∷ us) vs = apply_further (app f u) us vs

pub lifted_application : (m : ℕ) (f : Tree) (us : List Tree) → lift_tree 0 m (apply f us) ≡ apply (lift_tree 0 m f) (lift_all m us)
lifted_application m f [] = refl
lifted_application m f (u ∷ us) = lifted_application m (app f u) us

-- A lift keeps the depth, and makes no variable smaller.
mutual
  lifted_depth : (from by : ℕ) (t : Tree) → depth_tree (lift_tree from by t) ≡ depth_tree t
  lifted_depth from by (rel n) = refl
  lifted_depth from by (node f ks) = ap (λ d. d + 1) (lifted_depths from by ks)

  lifted_depths : (from by : ℕ) (ks : Children) → depth_children (lift_children from by ks) ≡ depth_children ks
  lifted_depths from by no_child = refl
  lifted_depths from by (child b t ks) = ap₂ max (lifted_depth (over b from) by t) (lifted_depths from by ks)

lifted_number : (from by n : ℕ) → n ≤ max_rel (lift_tree from by (rel n))
lifted_number from by n = go (cases_lt n from)
  where
    go : (n < from) ⊎ (from ≤ n) → n ≤ max_rel (lift_tree from by (rel n))
    go (inl lt) = grind (arith, nat_tests)
    go (inr ge) = grind (arith, nat_tests)

mutual
  lifted_rels : (from by : ℕ) (t : Tree) → max_rel t ≤ max_rel (lift_tree from by t)
  lifted_rels from by (rel n) = lifted_number from by n
  lifted_rels from by (node f ks) = lifted_all_rels from by ks

  lifted_all_rels : (from by : ℕ) (ks : Children) → max_rel_children ks ≤ max_rel_children (lift_children from by ks)
  lifted_all_rels from by no_child = omega arith
  lifted_all_rels from by (child b t ks) =
      let p = lifted_rels (over b from) by t in
      let q = lifted_all_rels from by ks in omega arith

-- So what is lifted passes the limits where the term itself passes wider ones.
pub too_deep_lifted : (wide room from by : ℕ) (t : Tree) → room ≤ wide → ¬ Fits wide t → ¬ Fits room (lift_tree from by t)
too_deep_lifted wide room from by t le n h =
    n (record { depth = (let e = lifted_depth from by t in let d = h.depth in omega arith); rels = (let e = lifted_rels from by t in let d = h.rels in omega arith) })

-- And what is applied
deeper : (f : Tree) (us : List Tree) → depth_tree f ≤ depth_tree (apply f us)
deeper f [] = omega arith
deeper f (u ∷ us) = let h = deeper (app f u) us in omega arith

greater : (f : Tree) (us : List Tree) → max_rel f ≤ max_rel (apply f us)
greater f [] = omega arith
greater f (u ∷ us) = let h = greater (app f u) us in omega arith

pub too_deep_applied : (room : ℕ) (f : Tree) (us : List Tree) → ¬ Fits room f → ¬ Fits room (apply f us)
too_deep_applied room f us n h =
    n (record { depth = (let e = deeper f us in let d = h.depth in omega arith); rels = (let e = greater f us in let d = h.rels in omega arith) })

pub constructor_too_deep : (room by m : ℕ) (h head : Tree) (vs : List Tree) → room ≤ 4294967295 → lift_tree 0 m h ≡ head → ¬ Fits 4294967295 (lift_tree 0 m h) → ¬ Fits room (lift_tree 0 by (apply head vs))
constructor_too_deep room by m h head vs le e n =
    too_deep_lifted 4294967295 room 0 by (apply head vs) le (too_deep_applied 4294967295 head vs (rw e at n))

-- An index of the constructor
raised_number : (a m at n raise : ℕ) → at ≤ n → ((n - at ≤ a) × (raise ≡ 0)) ⊎ ((a < n - at) × (raise ≡ m)) → (if ltb n (at + (a + 1)) then n else n + m) ≡ n + raise
raised_number a m at n raise h (inl w) = let p = w.0 in let q = w.1 in grind (arith, nat_tests)
raised_number a m at n raise h (inr w) = let p = w.0 in let q = w.1 in grind (arith, nat_tests)

several_index : (us : List Tree) (last : Tree) (at n place : ℕ) → n ≡ at + place → 0 < place → place ≤ length us → several (us ++ last ∷ []) at n ≡ lift_tree 0 at (get_or us (length us - place) (rel 0))
several_index us last at n place e pos le =
    inside (length (us ++ last ∷ [])) (omega (arith, length_push us last))
    ∙ ap (λ i. lift_tree 0 at (get_or (us ++ last ∷ []) i (rel 0))) (let k = length_push us last in omega arith)
    ∙ ap (lift_tree 0 at) (get_or_append_left us (last ∷ []) (rel 0) (length us - place) (omega arith))
  where
    inside : (count : ℕ) → n - at < count → (if ltb (n - at) count then lift_tree 0 at (get_or (us ++ last ∷ []) (count - 1 - (n - at)) (rel 0)) else rel (n - count)) ≡ lift_tree 0 at (get_or (us ++ last ∷ []) (count - 1 - (n - at)) (rel 0))
    inside count lt = grind (arith, nat_tests)

pub goal_index : (us : List Tree) (last : Tree) (a m at n raise : ℕ) → at ≤ n → ((n - at ≤ a) × (raise ≡ 0)) ⊎ ((a < n - at) × (raise ≡ m)) → 0 < n - at + raise → n - at + raise ≤ length us →
    goal_variable (us ++ last ∷ []) a m at n ≡ lift_tree 0 at (get_or us (length us - (n - at + raise)) (rel 0))
goal_index us last a m at n raise h w pos le =
    ap (several (us ++ last ∷ []) at) (raised_number a m at n raise h w)
    ∙ several_index us last at (n + raise) (n - at + raise) (omega arith) pos le

-- What is made for a variable
pub made_for_variable : (room : ℕ) (old want made : Tree) (r : Rc Term Global) → want ≡ made → MakesShared room made (Ok r) → Changes room old want (Ok (Some r))
made_for_variable room old want made r e h = rw e (record { ok = h.ok; fits = h.fits; deep = tt })

pub refused_for_variable : (room : ℕ) (old want made : Tree) (fault : TermFault) → want ≡ made → MakesShared room made (Err fault) → Changes room old want (Err fault)
refused_for_variable room old want made fault e h = rw e (record { ok = tt; fits = tt; deep = h.deep })

pub goal_part : (parts : List Part) (last : Tree) (a m at n raise place : ℕ) (d : Part) → at ≤ n → ((n - at ≤ a) × (raise ≡ 0)) ⊎ ((a < n - at) × (raise ≡ m)) →
    0 < n - at + raise → n - at + raise ≤ length parts → place ≡ length parts - (n - at + raise) →
    goal_variable (part_trees parts ++ last ∷ []) a m at n ≡ lift_tree 0 at (part_tree (get_or parts place d))
goal_part parts last a m at n raise place d h w pos le e =
    let k = length-map parts part_tree in
    goal_index (part_trees parts) last a m at n raise h w pos (omega arith)
    ∙ ap (λ i. lift_tree 0 at (get_or (part_trees parts) i (rel 0))) (let i : length (part_trees parts) - (n - at + raise) ≡ place = omega arith in i)
    ∙ ap (lift_tree 0 at) (get_or-map part_tree parts place d (rel 0) (omega arith))

-- The goal of a branch, from the parts of its constructor's type
pub goal_of_parts : (a m : ℕ) (us : List Tree) (p : Tree) (c : ConstructorDeclaration) (parts : List Tree) →
    m ≡ length (domains_of (instantiate us c.type)) → parts ≡ arguments_of (conclusion_of (instantiate us c.type)) →
    map_tree (goal_variable (goal_terms c.id us (drop (length us) parts) m) a m) 0 p ≡ branch_goal a us p c
goal_of_parts a m us p c parts e f =
    goal_at_once (goal_terms c.id us (drop (length us) parts) m) a m p
    ∙ ap (λ whole. substitute_all (drop (length us) parts ++ whole ∷ []) (lift_tree (a + 1) m p)) (sym (apply_further (ctor c.id) (lift_all m us) (variables m)))
    ∙ ap₂ (λ n l. substitute_all (drop (length us) l ++ apply (ctor c.id) (lift_all n us ++ variables n) ∷ []) (lift_tree (a + 1) n p)) e f
