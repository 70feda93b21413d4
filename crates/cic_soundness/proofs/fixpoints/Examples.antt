-- Worked examples by the rules: a tree over a list of trees is positive, its size is guarded, and so for other types
-- that hold trees; a list of functions out of the type is not positive, nor a chain of 65 instances; and a call on a
-- constructor, or on an argument without a shape, is not guarded. It shows that the rules take what they should, and
-- refuse what they should.
use Rattle.std.proofs.Common.{◌≡◌, ℕ, zero, suc, Bool, true, ◌&&◌, nat_eq, Option, Some, None, List, [], ◌∷◌, length, refl, sym, ap, ◌∙◌, arith, subst, codes}
use Rattle.std.proofs.lemmas.Bool.{eqb-true, and_parts}
use Rattle.cic_terms.specs.Tree.{Binders, none, many, more, over, Tree, rel, node, Children, no_child, child, app, ctor, case, fix}
use Rattle.cic_names.specs.declared.name.GlobalId.{GlobalId}
use Rattle.cic_rules.specs.Environment.{Environment, inductive, Block, element}
use Rattle.cic_rules.specs.Telescopes.{Function}
use Rattle.cic_counted.specs.Readings.{arguments_of, trees_of}
use Rattle.cic_rules.specs.Shapes.{GuardShape}
use Rattle.cic_rules.specs.Guard.{Mark, function, Marks, under_marks, under_plain, Smaller, smaller_variable, smaller_application, smaller_abstraction, smaller_empty_match, smaller_match, GuardedTerm, guarded_variable, guarded_call, guarded_parts, guarded_match, guarded_inner_fix, GuardedParts, no_guarded_part, guarded_part, GuardedBranches, no_guarded_branch, guarded_branch, guarded_plain_branch, Guarded}
use Rattle.cic_rules.specs.Nested.{NestedPositiveBlock}
use Rattle.cic_counted.specs.calls.Examples.{id_of, environment, nat}
use Rattle.cic_counted.specs.calls.NestedExamples.{list_block, tree_block, trees, size_function, again_function, nested_bad_block, containers, contained, grid_block, cells_function, binary_block, leaves_function, wide_block, path_function, held_block, open_function, links, chain_block, nest_block, bush_block}
use Rattle.cic_counted.proofs.InstanceLimit.{bush_fault, chain_of_64, chain_of_65}
use Rattle.cic_soundness.proofs.exactness.Positivity.{nested_block_passes}
use Rattle.cic_counted.specs.BlockTests.{shape_fault, PositivityFault}
use Rattle.cic_counted.specs.GuardTest.{Unguarded, guard_fault}
use Rattle.cic_counted.specs.NestedTest.{nested_fault}
use Rattle.cic_soundness.proofs.exactness.Guard.{guarded_passes}
use Rattle.cic_counted.proofs.Functions.{arguments_of_apply}
use Rattle.cic_soundness.specs.calls.FixParts.{part_count, HasAllParts, PartsHaveAllParts}
use Rattle.cic_soundness.proofs.fixpoints.Sound.{guard_is_right}
use Rattle.cic_soundness.proofs.blocks.Shapes.{shaped_block}
use Rattle.cic_soundness.proofs.blocks.Positivity.{nested_positive_block}

-- Each Fix has its parts.
abbrev mutual
  has_parts : Tree → Bool
  has_parts (rel x) = true
  has_parts (fix which shapes ks) = nat_eq (part_count shapes) (length (trees_of ks)) && parts_have ks
  has_parts (node f ks) = parts_have ks

  parts_have : Children → Bool
  parts_have no_child = true
  parts_have (child b t ks) = has_parts t && parts_have ks

mutual
  parts_there : (t : Tree) → has_parts t ≡ true → HasAllParts t
  parts_there (rel x) e = tt
  parts_there (fix which shapes ks) e =
      let p = and_parts (nat_eq (part_count shapes) (length (trees_of ks))) (parts_have ks) e in
      (eqb-true (part_count shapes) (length (trees_of ks)) p.0, all_parts_there ks p.1)
  parts_there (node f ks) e = (tt, all_parts_there ks e)

  all_parts_there : (ks : Children) → parts_have ks ≡ true → PartsHaveAllParts ks
  all_parts_there no_child e = tt
  all_parts_there (child b t ks) e = let p = and_parts (has_parts t) (parts_have ks) e in (parts_there t p.0, all_parts_there ks p.1)

pub tree_is_positive : NestedPositiveBlock (environment (inductive list_block ∷ [])) tree_block
tree_is_positive = nested_positive_block (environment (inductive list_block ∷ [])) tree_block (shaped_block tree_block refl) refl

pub size_is_guarded : Guarded trees (size_function ∷ [])
size_is_guarded = guard_is_right trees (size_function ∷ []) (parts_there size_function.body refl, tt) refl

-- The same through a list of lists, a pair, and a function whose values are lists
module _ (E : Environment) (block : Block) (shape : shape_fault block ≡ None) (test : nested_fault E block ≡ None) where
  pub passes_positive : NestedPositiveBlock E block
  passes_positive = nested_positive_block E block (shaped_block block shape) test

module _ (E : Environment) (f : Function) (parts : has_parts f.body ≡ true) where
  pub passes_guarded : guard_fault E (f ∷ []) ≡ None → Guarded E (f ∷ [])
  passes_guarded = guard_is_right E (f ∷ []) (parts_there f.body parts, tt)

  pub fails_guarded : (fault : Unguarded) → guard_fault E (f ∷ []) ≡ Some fault → ¬ Guarded E (f ∷ [])
  fails_guarded fault e g = let q = guarded_passes E (f ∷ []) (parts_there f.body parts, tt) g in cc

pub grid_is_positive : NestedPositiveBlock containers grid_block
grid_is_positive = passes_positive containers grid_block refl refl

pub binary_is_positive : NestedPositiveBlock containers binary_block
binary_is_positive = passes_positive containers binary_block refl refl

pub wide_is_positive : NestedPositiveBlock containers wide_block
wide_is_positive = passes_positive containers wide_block refl refl

pub held_is_positive : NestedPositiveBlock containers held_block
held_is_positive = passes_positive containers held_block refl refl

pub cells_is_guarded : Guarded contained (cells_function ∷ [])
cells_is_guarded = passes_guarded contained cells_function refl refl

pub leaves_is_guarded : Guarded contained (leaves_function ∷ [])
leaves_is_guarded = passes_guarded contained leaves_function refl refl

pub path_is_guarded : Guarded contained (path_function ∷ [])
path_is_guarded = passes_guarded contained path_function refl refl

-- A list of functions out of the type, chains of 64 and of 65 instances, and one that does not end
fails_positive : (E : Environment) (block : Block) (fault : PositivityFault) → nested_fault E block ≡ Some fault → ¬ NestedPositiveBlock E block
fails_positive E block fault e h = let q = nested_block_passes E block h in cc

pub list_of_functions_is_not_positive : ¬ NestedPositiveBlock (environment (inductive list_block ∷ [])) nested_bad_block
list_of_functions_is_not_positive = fails_positive (environment (inductive list_block ∷ [])) nested_bad_block (record { index = 0; place = 0; argument = 1 }) refl

pub chain_of_64_is_positive : NestedPositiveBlock (environment (links 64)) (chain_block 63)
chain_of_64_is_positive = nested_positive_block (environment (links 64)) (chain_block 63) (shaped_block (chain_block 63) refl) chain_of_64

pub chain_of_65_is_not_positive : ¬ NestedPositiveBlock (environment (links 65)) (chain_block 64)
chain_of_65_is_not_positive = fails_positive (environment (links 65)) (chain_block 64) (record { index = 0; place = 0; argument = 1 }) chain_of_65

pub bush_is_not_positive : ¬ NestedPositiveBlock (environment (inductive list_block ∷ inductive nest_block ∷ [])) bush_block
bush_is_not_positive = fails_positive (environment (inductive list_block ∷ inductive nest_block ∷ [])) bush_block (record { index = 0; place = 0; argument = 1 }) bush_fault

-- An argument whose type is a parameter applied
pub open_is_not_guarded : ¬ Guarded contained (open_function ∷ [])
open_is_not_guarded = fails_guarded contained open_function refl (record { which = 0; call = 1 }) refl

-- A call on a constructor
no_element : (k : ℕ) (u : Tree) → element {A = Tree} [] k ≡ Some u → ⊥
no_element k u e = grind arith

only_one : (k : ℕ) (v u : Tree) → element (v ∷ []) k ≡ Some u → u ≡ v
only_one zero v u e = cc
only_one (suc k) v u e = absurd (no_element k u e)

-- The one branch of a match, under marks for its one argument
one_mark : (ms : List Mark) (marks : Marks) → 1 ≡ length ms → under_marks ms marks 2 ≡ marks 1
one_mark [] marks e = absurd (grind arith)
one_mark (m ∷ []) marks e = refl
one_mark (m ∷ n ∷ ms) marks e = absurd (omega (arith, e))

module _ {recursive : (known : Option GuardShape) → GlobalId → (place : ℕ) → Option (List Mark)} {places : List ℕ} where
  constructor_not_smaller : {marks : Marks} {t : Tree} {s : GuardShape} → Smaller recursive places marks t s → (c : GlobalId) → t ≡ ctor c → ⊥
  constructor_not_smaller (smaller_variable m) c e = grind arith
  constructor_not_smaller (smaller_application h) c e = grind arith
  constructor_not_smaller (smaller_abstraction h) c e = grind arith
  constructor_not_smaller smaller_empty_match c e = grind arith
  constructor_not_smaller (smaller_match known k h) c e = grind arith

  applied_not_smaller : {marks : Marks} {t : Tree} {s : GuardShape} → Smaller recursive places marks t s → (c : GlobalId) (u : Tree) → t ≡ app (ctor c) u → ⊥
  applied_not_smaller (smaller_variable m) c u e = grind arith
  applied_not_smaller (smaller_application {f = f} h) c u e = let is : f ≡ ctor c = cc in constructor_not_smaller h c is
  applied_not_smaller (smaller_abstraction h) c u e = grind arith
  applied_not_smaller smaller_empty_match c u e = grind arith
  applied_not_smaller (smaller_match known k h) c u e = grind arith

  function_not_guarded : {marks : Marks} {t : Tree} → GuardedTerm recursive places marks t → (n j : ℕ) → t ≡ rel n → marks n ≡ function j → ⊥
  function_not_guarded {marks} (guarded_variable {x = x} n) y j e q = let z : x ≡ y = cc in n j (ap marks z ∙ q)
  function_not_guarded (guarded_call x j k us u s a m p el h hs) y i e q =
      let none_left : us ≡ [] = sym (arguments_of_apply us (rel x)) ∙ ap arguments_of (sym a ∙ e) in
      no_element k u (ap (λ z. element z k) (sym none_left) ∙ el)
  function_not_guarded (guarded_parts h) y j e q = grind arith
  function_not_guarded (guarded_match known k p v h) y j e q = grind arith
  function_not_guarded (guarded_inner_fix which f parts us u s a el h b hs) y j e q =
      let none_left : us ≡ [] = sym (arguments_of_apply us (fix which (f ∷ []) parts)) ∙ ap arguments_of (sym a ∙ e) in
      no_element f.k u (ap (λ z. element z f.k) (sym none_left) ∙ el)

  first_part : {marks : Marks} {ks : Children} → GuardedParts recursive places marks ks → (b : Binders) (t : Tree) (ls : Children) → ks ≡ child b t ls → GuardedTerm recursive places (under_plain (over b 0) marks) t × GuardedParts recursive places marks ls
  first_part no_guarded_part b t ls e = absurd (grind arith)
  first_part {marks} (guarded_part {b = c} {t = u} {ks = ks} h hs) b t ls e =
      let same : c ≡ b = cc in
      let same_term : u ≡ t = cc in
      let same_rest : ks ≡ ls = cc in
      (subst (λ z. GuardedTerm recursive places (under_plain (over b 0) marks) z) same_term (subst (λ z. GuardedTerm recursive places (under_plain (over z 0) marks) u) same h), subst (GuardedParts recursive places marks) same_rest hs)

  call_not_guarded : {marks : Marks} {t : Tree} → GuardedTerm recursive places marks t → (c : GlobalId) (u : Tree) (j : ℕ) → t ≡ app (rel 2) (app (ctor c) u) → marks 2 ≡ function j → ⊥
  call_not_guarded (guarded_variable n) c u j e q = grind arith
  call_not_guarded (guarded_call x i k us v s a f p el h hs) c u j e q =
      let one_left : us ≡ app (ctor c) u ∷ [] = sym (arguments_of_apply us (rel x)) ∙ ap arguments_of (sym a ∙ e) in
      applied_not_smaller h c u (only_one k (app (ctor c) u) v (ap (λ z. element z k) (sym one_left) ∙ el))
  call_not_guarded (guarded_parts {ks = ks} h) c u j e q =
      let parts : ks ≡ child none (rel 2) (child none (app (ctor c) u) no_child) = cc in
      function_not_guarded (first_part h none (rel 2) (child none (app (ctor c) u) no_child) parts).0 2 j refl q
  call_not_guarded (guarded_match known k p v h) c u j e q = grind arith
  call_not_guarded (guarded_inner_fix which f parts us v s a el h b hs) c u j e q =
      let one_left : us ≡ app (ctor c) u ∷ [] = sym (arguments_of_apply us (fix which (f ∷ []) parts)) ∙ ap arguments_of (sym a ∙ e) in
      applied_not_smaller h c u (only_one f.k (app (ctor c) u) v (ap (λ z. element z f.k) (sym one_left) ∙ el))

  branch_not_guarded : {marks : Marks} {known : Option GuardShape} {id : GlobalId} {place : ℕ} {ks : Children} → GuardedBranches recursive places marks known id place ks → (c : GlobalId) (u : Tree) (j : ℕ) →
      ks ≡ child (many 1) (app (rel 2) (app (ctor c) u)) no_child → marks 1 ≡ function j → ⊥
  branch_not_guarded no_guarded_branch c u j e q = grind arith
  branch_not_guarded {marks} (guarded_branch {b = b} {t = t} ms r n h hs) c u j e q =
      let same : b ≡ many 1 = cc in
      let is_call : t ≡ app (rel 2) (app (ctor c) u) = cc in
      let as_many : 1 ≡ length ms = sym (ap (λ z. over z 0) same) ∙ n in
      call_not_guarded h c u j is_call (one_mark ms marks as_many ∙ q)
  branch_not_guarded {marks} (guarded_plain_branch {b = b} {t = t} h hs) c u j e q =
      let same : b ≡ many 1 = cc in
      let is_call : t ≡ app (rel 2) (app (ctor c) u) = cc in
      let under_one : GuardedTerm recursive places (under_plain 1 marks) t = subst (λ z. GuardedTerm recursive places (under_plain (over z 0) marks) t) same h in
      call_not_guarded under_one c u j is_call q

  match_not_guarded : {marks : Marks} {t : Tree} → GuardedTerm recursive places marks t → (id : GlobalId) (p v : Tree) (c : GlobalId) (u : Tree) (j : ℕ) →
      t ≡ case id 0 p v (child (many 1) (app (rel 2) (app (ctor c) u)) no_child) → marks 1 ≡ function j → ⊥
  match_not_guarded (guarded_variable n) id p v c u j e q = grind arith
  match_not_guarded (guarded_call x i k us w s a f pl el h hs) id p v c u j e q =
      let none_left : us ≡ [] = sym (arguments_of_apply us (rel x)) ∙ ap arguments_of (sym a ∙ e) in
      no_element k w (ap (λ z. element z k) (sym none_left) ∙ el)
  match_not_guarded {marks} (guarded_parts {ks = ks} h) id p v c u j e q =
      let X : Tree = app (rel 2) (app (ctor c) u) in
      let parts : ks ≡ child (more 0) p (child none v (child (many 1) X no_child)) = cc in
      let first = first_part h (more 0) p (child none v (child (many 1) X no_child)) parts in
      let second = first_part first.1 none v (child (many 1) X no_child) refl in
      let third = first_part second.1 (many 1) X no_child refl in
      call_not_guarded third.0 c u j refl q
  match_not_guarded (guarded_match {branches = branches} known k m w h) id p v c u j e q =
      let same : branches ≡ child (many 1) (app (rel 2) (app (ctor c) u)) no_child = cc in
      branch_not_guarded h c u j same q
  match_not_guarded (guarded_inner_fix which f parts us w s a el h b hs) id p v c u j e q =
      let none_left : us ≡ [] = sym (arguments_of_apply us (fix which (f ∷ []) parts)) ∙ ap arguments_of (sym a ∙ e) in
      no_element f.k w (ap (λ z. element z f.k) (sym none_left) ∙ el)

pub call_on_constructor_is_not_guarded : (E : Environment) → Guarded E (again_function ∷ []) → ⊥
call_on_constructor_is_not_guarded E h = let g = h.0 in match_not_guarded g.guarded_body (id_of (codes "tree")) nat (rel 0) (id_of (codes "node")) (rel 0) 0 refl refl
