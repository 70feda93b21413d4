-- A Fix that calls itself on its own recursive variable, or stands in its body alone, is not guarded.
use Rattle.std.proofs.Common.{◌≡◌, ℕ, zero, suc, Option, Some, List, [], ◌∷◌, refl, sym, ap, ◌∙◌, arith, subst}
use Rattle.cic_terms.specs.Tree.{Binders, none, over, Tree, rel, Children, no_child, child, app, fix}
use Rattle.cic_names.specs.declared.name.GlobalId.{GlobalId}
use Rattle.cic_rules.specs.Environment.{Environment, element}
use Rattle.cic_rules.specs.Shapes.{GuardShape}
use Rattle.cic_rules.specs.Guard.{Mark, main, smaller, function, Marks, under_plain, Smaller, smaller_variable, smaller_application, smaller_abstraction, smaller_empty_match, smaller_match, GuardedTerm, guarded_variable, guarded_call, guarded_parts, guarded_match, guarded_inner_fix, GuardedParts, no_guarded_part, guarded_part, Guarded}
use Rattle.cic_rules.proofs.Spines.{one_argument_left, no_argument_left, rel_is_no_app}

element_of_none : (k : ℕ) (u : Tree) → element {A = Tree} [] k ≡ Some u → ⊥
element_of_none k u e = grind arith

element_of_one : (k : ℕ) (v u : Tree) → element (v ∷ []) k ≡ Some u → u ≡ v
element_of_one zero v u e = cc
element_of_one (suc k) v u e = absurd (element_of_none k u e)

binders_of : {x y : Binders} {t u : Tree} {ks ls : Children} → child x t ks ≡ child y u ls → x ≡ y
binders_of e = cc

module _ {recursive : (known : Option GuardShape) → GlobalId → (place : ℕ) → Option (List Mark)} {places : List ℕ} where
  main_not_smaller : {marks : Marks} {t : Tree} {s : GuardShape} → Smaller recursive places marks t s → t ≡ rel 0 → marks 0 ≡ main → ⊥
  main_not_smaller {marks} (smaller_variable {x = x} {s = s} m) e q =
      let z : x ≡ 0 = cc in
      let f : smaller s ≡ main = sym m ∙ ap marks z ∙ q in grind arith
  main_not_smaller (smaller_application h) e q = grind arith
  main_not_smaller (smaller_abstraction h) e q = grind arith
  main_not_smaller smaller_empty_match e q = grind arith
  main_not_smaller (smaller_match known k h) e q = grind arith

  function_not_guarded : {marks : Marks} {t : Tree} → GuardedTerm recursive places marks t → t ≡ rel 1 → marks 1 ≡ function 0 → ⊥
  function_not_guarded {marks} (guarded_variable {x = x} n) e q = let z : x ≡ 1 = cc in n 0 (ap marks z ∙ q)
  function_not_guarded (guarded_call x j k us u s a m p el h hs) e q =
      element_of_none k u (ap (λ z. element z k) (sym (no_argument_left us (rel x) 1 (sym a ∙ e))) ∙ el)
  function_not_guarded (guarded_parts h) e q = grind arith
  function_not_guarded (guarded_match known k p v h) e q = grind arith
  function_not_guarded (guarded_inner_fix which f parts us u s a el h b hs) e q =
      element_of_none f.k u (ap (λ z. element z f.k) (sym (no_argument_left us (fix which (f ∷ []) parts) 1 (sym a ∙ e))) ∙ el)

  parts_not_guarded : {marks : Marks} {ks : Children} → GuardedParts recursive places marks ks → (u : Tree) → ks ≡ child none (rel 1) (child none u no_child) → marks 1 ≡ function 0 → ⊥
  parts_not_guarded no_guarded_part u e q = grind arith
  parts_not_guarded {marks} (guarded_part {b = b} {t = t} h hs) u e q =
      let at_none : GuardedTerm recursive places marks t = subst (λ z. GuardedTerm recursive places (under_plain (over z 0) marks) t) (binders_of e) h in
      let is_function : t ≡ rel 1 = cc in
      function_not_guarded at_none is_function q

  call_not_guarded : {marks : Marks} {t : Tree} → GuardedTerm recursive places marks t → t ≡ app (rel 1) (rel 0) → marks 1 ≡ function 0 → marks 0 ≡ main → ⊥
  call_not_guarded (guarded_variable n) e q m = grind arith
  call_not_guarded (guarded_call x j k us u s a f p el h hs) e q m =
      let one_left = one_argument_left us (rel x) (rel 1) (rel 0) (rel_is_no_app x) (rel_is_no_app 1) (sym a ∙ e) in
      main_not_smaller h (element_of_one k (rel 0) u (ap (λ z. element z k) (sym one_left.1) ∙ el)) m
  call_not_guarded (guarded_parts {ks = ks} h) e q m =
      let parts : ks ≡ child none (rel 1) (child none (rel 0) no_child) = cc in
      parts_not_guarded h (rel 0) parts q
  call_not_guarded (guarded_match known k p v h) e q m = grind arith
  call_not_guarded (guarded_inner_fix which f parts us u s a el h b hs) e q m =
      let one_left = one_argument_left us (fix which (f ∷ []) parts) (rel 1) (rel 0) (λ g x r. grind arith) (rel_is_no_app 1) (sym a ∙ e) in
      main_not_smaller h (element_of_one f.k (rel 0) u (ap (λ z. element z f.k) (sym one_left.1) ∙ el)) m

pub call_on_itself_is_not_guarded : (E : Environment) (domain codomain : Tree) → ¬ Guarded E (record { recursive_place = 0; domains = domain ∷ []; codomain = codomain; body = app (rel 1) (rel 0) } ∷ [])
call_on_itself_is_not_guarded E domain codomain h = let g = h.0 in call_not_guarded g.guarded_body refl refl refl

pub function_alone_is_not_guarded : (E : Environment) (domain codomain : Tree) → ¬ Guarded E (record { recursive_place = 0; domains = domain ∷ []; codomain = codomain; body = rel 1 } ∷ [])
function_alone_is_not_guarded E domain codomain h = let g = h.0 in function_not_guarded g.guarded_body refl refl
