-- The test of the guard reads the marks of constructors at the ids of its terms alone: where two environments agree
-- there, it has the same answer over both. Inference of a Fix over two environments rests on it.
use Rattle.std.proofs.Common.{◌≡◌, ℕ, ◌+◌, Bool, true, false, if◌then◌else◌, ◌&&◌, Option, Some, None, List, [], ◌∷◌, ◌++◌, length, drop, refl, sym, ap, ap₂, ◌∙◌}
use Rattle.std.specs.Prelude.{option_map, replicate}
use Rattle.cic_terms.specs.Tree.{Shape, over, Tree, rel, node, Children, no_child, child, prod, lam, app, ind, case, fix}
use Rattle.cic_names.specs.declared.name.GlobalId.{GlobalId}
use Rattle.cic_rules.specs.Environment.{Environment, TypeInBlock, Block, TypeDeclaration, ConstructorDeclaration, bare_ids, whole_block, whole_block_in, element, or_else, meaning}
use Rattle.cic_rules.specs.Telescopes.{is_among, domains_of, Function}
use Rattle.cic_rules.specs.Inductive.{Each}
use Rattle.cic_rules.specs.Shapes.{GuardShape, own_block, nest, GuardShapes, no_more, unshaped, shaped, before_shapes, under_shapes, shape_of_other, shape_of_type}
use Rattle.cic_rules.specs.Guard.{Mark, plain, main, smaller, function, Marks, under_mark, under_marks, under_plain, mark_of_shape, argument_marks, constructor_marks, type_marks, marks_in_block, marks_with_own, recursive_marks, inner_marks, body_marks, recursive_places}
use Rattle.cic_counted.specs.Outcome.{next_number}
use Rattle.cic_counted.specs.GuardTest.{has_guard_shape, marks_or_plain, shape_if, known_value, smaller_shape, branches_shape, have_shape, Walk, passed, failed, then_walk, argument_shape, call_shape, occurrence_at, occurrence, body_flags, fix_marks, walk, walk_children, walk_branches, walk_chosen, failed_call, walk_fault, head_of_domain, Unguarded, functions_fault, guard_fault}
use Rattle.cic_soundness.proofs.independence.Terms.{TreeIn, PartsIn, TreesIn, FunctionsIn, naming}
use Rattle.cic_soundness.proofs.independence.Calls.{MeaningIn, ConstructorIn, TypeIn, block_in}
use Rattle.cic_soundness.proofs.independence.Formers.{domains_in, head_in}
use Rattle.cic_metatheory.proofs.basics.Elements.{IfThere, each_element, each_dropped}

shape_if_same : (test test' : GuardShape → Bool) → ((g : GuardShape) → test g ≡ test' g) → (o : Option GuardShape) → shape_if test o ≡ shape_if test' o
shape_if_same test test' h None = refl
shape_if_same test test' h (Some g) = ap (λ b. if b then Some g else None) (h g)

module _ (S : GlobalId → Type 0) (r r' : (known : Option GuardShape) → GlobalId → (place : ℕ) → Option (List Mark)) (e : (id : GlobalId) → S id → (known : Option GuardShape) (place : ℕ) → r known id place ≡ r' known id place) (places : List ℕ) where
  value_same : (marks : Marks) (t : Tree) (o : Option GuardShape) → known_value r places marks t o ≡ known_value r' places marks t o
  value_same marks (rel x) o = refl
  value_same marks (node f ks) o = refl

  mutual
    smaller_same : (marks : Marks) (t : Tree) → TreeIn S t → smaller_shape r places marks t ≡ smaller_shape r' places marks t
    smaller_same marks (rel x) h = refl
    smaller_same marks (app f u) h = smaller_same marks f h.1.0
    smaller_same marks (lam a t) h = smaller_same (under_mark plain marks) t h.1.1.0
    smaller_same marks (case id n p v branches) h =
        ap (λ k. branches_shape r places marks k id branches) (ap (known_value r places marks v) (smaller_same marks v h.1.1.0) ∙ value_same marks v (smaller_shape r' places marks v))
        ∙ branches_shape_same marks (known_value r' places marks v (smaller_shape r' places marks v)) id branches h.0 h.1.1.1
    smaller_same marks t h = refl

    branches_shape_same : (marks : Marks) (known : Option GuardShape) (id : GlobalId) (ks : Children) → S id → PartsIn S ks → branches_shape r places marks known id ks ≡ branches_shape r' places marks known id ks
    branches_shape_same marks known id no_child s h = refl
    branches_shape_same marks known id (child b t ks) s h =
        ap (λ ms. shape_if (λ g. have_shape r places marks known id 1 g ks) (smaller_shape r places (under_marks (marks_or_plain (over b 0) ms) marks) t)) (e id s known 0)
        ∙ ap (shape_if (λ g. have_shape r places marks known id 1 g ks)) (smaller_same (under_marks (marks_or_plain (over b 0) (r' known id 0)) marks) t h.0)
        ∙ shape_if_same (λ g. have_shape r places marks known id 1 g ks) (λ g. have_shape r' places marks known id 1 g ks) (λ g. have_same marks known id 1 g ks s h.1)
        (smaller_shape r' places (under_marks (marks_or_plain (over b 0) (r' known id 0)) marks) t)

    have_same : (marks : Marks) (known : Option GuardShape) (id : GlobalId) (place : ℕ) (g : GuardShape) (ks : Children) → S id → PartsIn S ks → have_shape r places marks known id place g ks ≡ have_shape r' places marks known id place g ks
    have_same marks known id place g no_child s h = refl
    have_same marks known id place g (child b t ks) s h =
        ap₂ (λ x y. x && y)
        (ap (λ ms. has_guard_shape g (smaller_shape r places (under_marks (marks_or_plain (over b 0) ms) marks) t)) (e id s known place)
        ∙ ap (has_guard_shape g) (smaller_same (under_marks (marks_or_plain (over b 0) (r' known id place)) marks) t h.0))
        (have_same marks known id (place + 1) g ks s h.1)

  known_same : (marks : Marks) (v : Tree) → TreeIn S v → known_value r places marks v (smaller_shape r places marks v) ≡ known_value r' places marks v (smaller_shape r' places marks v)
  known_same marks v h = ap (known_value r places marks v) (smaller_same marks v h) ∙ value_same marks v (smaller_shape r' places marks v)

  -- A walk by the marks of one environment as a walk by those of the other.
  abbrev carry : Walk r places → Walk r' places
  carry (passed call) = passed call
  carry (failed call) = failed call

  then_same : (w : Walk r places) (w' : Walk r' places) (next : ℕ → Walk r places) (next' : ℕ → Walk r' places) → w' ≡ carry w → ((call : ℕ) → next' call ≡ carry (next call)) → then_walk r' places w' next' ≡ carry (then_walk r places w next)
  then_same (passed call) w' next next' p q = ap (λ w. then_walk r' places w next') p ∙ q call
  then_same (failed call) w' next next' p q = ap (λ w. then_walk r' places w next') p

  argument_same : (marks : Marks) (o : Option Tree) → IfThere (TreeIn S) o → argument_shape r places marks o ≡ argument_shape r' places marks o
  argument_same marks None h = refl
  argument_same marks (Some u) h = smaller_same marks u h

  call_same : (marks : Marks) (o : Option ℕ) (us : List Tree) → TreesIn S us → call_shape r places marks o us ≡ call_shape r' places marks o us
  call_same marks None us h = refl
  call_same marks (Some k) us h = argument_same marks (element us k) (each_element (TreeIn S) us k h)

  -- The walk after an occurrence, which is good or not.
  passed_same : (o o' : Option GuardShape) (call : ℕ) → o ≡ o' → occurrence_at r' places o' call ≡ carry (occurrence_at r places o call)
  passed_same None o' call p = ap (λ c. occurrence_at r' places c call) (sym p)
  passed_same (Some s) o' call p = ap (λ c. occurrence_at r' places c call) (sym p)

  occurrence_same : (marks : Marks) (m : Mark) (us : List Tree) (call : ℕ) → TreesIn S us → occurrence r' places marks m us call ≡ carry (occurrence r places marks m us call)
  occurrence_same marks (function j) us call h =
      passed_same (call_shape r places marks (element places j) us) (call_shape r' places marks (element places j) us) (next_number call) (call_same marks (element places j) us h)
  occurrence_same marks plain us call h = refl
  occurrence_same marks main us call h = refl
  occurrence_same marks (smaller s) us call h = refl

  fix_marks_same : (marks : Marks) (us : List Tree) (ss : List Shape) → TreesIn S us → fix_marks r places marks us ss ≡ fix_marks r' places marks us ss
  fix_marks_same marks us [] h = refl
  fix_marks_same marks us (f ∷ []) h = ap (option_map (λ s. inner_marks s f)) (argument_same marks (element us f.k) (each_element (TreeIn S) us f.k h))
  fix_marks_same marks us (f ∷ g ∷ fs) h = refl

  flags_same : (types bodies : Bool) (ss : List Shape) → body_flags r places types bodies ss ≡ body_flags r' places types bodies ss
  flags_same types bodies [] = refl
  flags_same types bodies (s ∷ ss) = ap (λ fs. replicate (s.domains + 1) types ++ bodies ∷ fs) (flags_same types bodies ss)

  mutual
    walk_same : (marks : Marks) (us : List Tree) (t : Tree) (call : ℕ) → TreesIn S us → TreeIn S t → walk r' places marks us t call ≡ carry (walk r places marks us t call)
    walk_same marks us (rel x) call k h = occurrence_same marks (marks x) us call k
    walk_same marks us (app f u) call k h =
        then_same (walk r places marks (u ∷ us) f call) (walk r' places marks (u ∷ us) f call) (walk r places marks [] u) (walk r' places marks [] u)
        (walk_same marks (u ∷ us) f call (h.1.1.0, k) h.1.0) (λ c. walk_same marks [] u c tt h.1.1.0)
    walk_same marks us (case id n p v branches) call k h =
        then_same (walk r places (under_plain (n + 1) marks) [] p call) (walk r' places (under_plain (n + 1) marks) [] p call) _ _
        (walk_same (under_plain (n + 1) marks) [] p call tt h.1.0)
        (λ c. then_same (walk r places marks [] v c) (walk r' places marks [] v c) _ _ (walk_same marks [] v c tt h.1.1.0)
        (λ c'.
        ap (λ z. walk_branches r' places marks z id 0 branches c') (sym (known_same marks v h.1.1.0))
        ∙ branches_same marks (known_value r places marks v (smaller_shape r places marks v)) id 0 branches c' h.0 h.1.1.1))
    walk_same marks us (fix which shapes parts) call k h =
        ap₂ (λ (fs gs : List Bool). then_walk r' places (walk_chosen r' places marks None fs parts call) (walk_chosen r' places marks (fix_marks r' places marks us shapes) gs parts))
        (sym (flags_same true false shapes)) (sym (flags_same false true shapes))
        ∙ ap (λ o. then_walk r' places (walk_chosen r' places marks None (body_flags r places true false shapes) parts call) (walk_chosen r' places marks o (body_flags r places false true shapes) parts)) (sym (fix_marks_same marks us shapes k))
        ∙ then_same (walk_chosen r places marks None (body_flags r places true false shapes) parts call) (walk_chosen r' places marks None (body_flags r places true false shapes) parts call) _ _
        (chosen_same marks None (body_flags r places true false shapes) parts call h.1)
        (λ c. chosen_same marks (fix_marks r places marks us shapes) (body_flags r places false true shapes) parts c h.1)
    walk_same marks us (node f ks) call k h = children_same marks ks call h.1

    children_same : (marks : Marks) (ks : Children) (call : ℕ) → PartsIn S ks → walk_children r' places marks ks call ≡ carry (walk_children r places marks ks call)
    children_same marks no_child call h = refl
    children_same marks (child b t ks) call h =
        then_same (walk r places (under_plain (over b 0) marks) [] t call) (walk r' places (under_plain (over b 0) marks) [] t call) _ _
        (walk_same (under_plain (over b 0) marks) [] t call tt h.0) (λ c. children_same marks ks c h.1)

    branches_same : (marks : Marks) (known : Option GuardShape) (id : GlobalId) (place : ℕ) (ks : Children) (call : ℕ) → S id → PartsIn S ks → walk_branches r' places marks known id place ks call ≡ carry (walk_branches r places marks known id place ks call)
    branches_same marks known id place no_child call s h = refl
    branches_same marks known id place (child b t ks) call s h =
        ap (λ ms. then_walk r' places (walk r' places (under_marks (marks_or_plain (over b 0) ms) marks) [] t call) (walk_branches r' places marks known id (place + 1) ks)) (sym (e id s known place))
        ∙ then_same (walk r places (under_marks (marks_or_plain (over b 0) (r known id place)) marks) [] t call) (walk r' places (under_marks (marks_or_plain (over b 0) (r known id place)) marks) [] t call) _ _
        (walk_same (under_marks (marks_or_plain (over b 0) (r known id place)) marks) [] t call tt h.0)
        (λ c. branches_same marks known id (place + 1) ks c s h.1)

    chosen_same : (marks : Marks) (body : Option (List Mark)) (flags : List Bool) (ks : Children) (call : ℕ) → PartsIn S ks → walk_chosen r' places marks body flags ks call ≡ carry (walk_chosen r places marks body flags ks call)
    chosen_same marks body flags no_child call h = refl
    chosen_same marks body [] (child b t ks) call h = refl
    chosen_same marks body (true ∷ flags) (child b t ks) call h =
        then_same (walk r places (under_marks (marks_or_plain (over b 0) body) marks) [] t call) (walk r' places (under_marks (marks_or_plain (over b 0) body) marks) [] t call) _ _
        (walk_same (under_marks (marks_or_plain (over b 0) body) marks) [] t call tt h.0) (λ c. chosen_same marks body flags ks c h.1)
    chosen_same marks body (false ∷ flags) (child b t ks) call h = chosen_same marks body flags ks call h.1

  failed_carry : (w : Walk r places) → failed_call (carry w) ≡ failed_call w
  failed_carry (passed call) = refl
  failed_carry (failed call) = refl

  fault_same : (marks : Marks) (t : Tree) → TreeIn S t → failed_call (walk r places marks [] t 0) ≡ failed_call (walk r' places marks [] t 0)
  fault_same marks t h = sym (failed_carry (walk r places marks [] t 0)) ∙ ap (λ w. failed_call w) (sym (walk_same marks [] t 0 tt h))

module _ (S : GlobalId → Type 0) (E E' : Environment) (e : (id : GlobalId) → S id → meaning E id ≡ meaning E' id) (saturated : (id : GlobalId) → S id → IfThere (MeaningIn S) (meaning E id)) where
  block_same : (id : GlobalId) → S id → whole_block E id ≡ whole_block E' id
  block_same id s = ap whole_block_in (e id s)

  -- The shape of a type, and the marks of arguments.
  shape_same : (own : List GlobalId) (t : Tree) (variables arguments : GuardShapes) → TreeIn S t → shape_of_type E own variables arguments t ≡ shape_of_type E' own variables arguments t
  shape_same own (app f u) vs us h =
      ap (λ s. shape_of_type E own vs (before_shapes s us) f) (shape_same own u vs no_more h.1.1.0)
      ∙ shape_same own f vs (before_shapes (shape_of_type E' own vs no_more u) us) h.1.0
  shape_same own (ind id) vs us h = ap (λ o. if is_among id own then Some own_block else shape_of_other o us) (block_same id h.0)
  shape_same own (prod a b) vs no_more h = shape_same own b (unshaped vs) no_more h.1.1.0
  shape_same own (prod a b) vs (unshaped us) h = refl
  shape_same own (prod a b) vs (shaped s us) h = refl
  shape_same own (rel x) vs no_more h = refl
  shape_same own (rel x) vs (unshaped us) h = refl
  shape_same own (rel x) vs (shaped s us) h = refl
  shape_same own t vs us h = refl

  arguments_same : (own : List GlobalId) (as_ : List Tree) (variables : GuardShapes) → TreesIn S as_ → argument_marks E own variables as_ ≡ argument_marks E' own variables as_
  arguments_same own [] vs h = refl
  arguments_same own (a ∷ as_) vs h = ap₂ (λ s ms. mark_of_shape s ∷ ms) (shape_same own a vs no_more h.0) (arguments_same own as_ (unshaped vs) h.1)

  constructor_same : (own : List GlobalId) (variables : GuardShapes) (r : ℕ) (o : Option ConstructorDeclaration) → IfThere (ConstructorIn S) o → constructor_marks E own variables r o ≡ constructor_marks E' own variables r o
  constructor_same own vs r None h = refl
  constructor_same own vs r (Some c) h = ap Some (arguments_same own (drop r (domains_of c.type)) vs (each_dropped (TreeIn S) r (domains_of c.type) (domains_in (naming S) c.type h.1)))

  type_same : (own : List GlobalId) (variables : GuardShapes) (block : Block) (place : ℕ) (o : Option TypeDeclaration) → IfThere (TypeIn S) o → type_marks E own variables block place o ≡ type_marks E' own variables block place o
  type_same own vs block place None h = refl
  type_same own vs block place (Some t) h = constructor_same own vs block.parameters (element t.constructors place) (each_element (ConstructorIn S) t.constructors place h.2)

  in_block_same : (own types : List GlobalId) (variables : GuardShapes) (id : GlobalId) (place : ℕ) → S id → marks_in_block E own types variables id place (whole_block E id) ≡ marks_in_block E' own types variables id place (whole_block E' id)
  in_block_same own types vs id place s =
      of_block (whole_block E id) (block_in S (meaning E id) (saturated id s)) ∙ ap (marks_in_block E' own types vs id place) (block_same id s)
    where
      of_block : (o : Option TypeInBlock) → IfThere (λ p. Each (TypeIn S) p.block.types) o → marks_in_block E own types vs id place o ≡ marks_in_block E' own types vs id place o
      of_block None h = refl
      of_block (Some J) h =
          ap (λ o. if is_among id types then o else None) (type_same own vs J.block place (element J.block.types J.index) (each_element (TypeIn S) J.block.types J.index h))

  marks_same : (head id : GlobalId) (known : Option GuardShape) (place : ℕ) → S head → S id → recursive_marks E head known id place ≡ recursive_marks E' head known id place
  marks_same head id known place s s' =
      by_head (whole_block E head) known ∙ ap (λ o. marks_with_own E' o known id place) (block_same head s)
    where
      by_head : (o : Option TypeInBlock) (known : Option GuardShape) → marks_with_own E o known id place ≡ marks_with_own E' o known id place
      by_head None known = refl
      by_head (Some I) None = refl
      by_head (Some I) (Some own_block) = in_block_same (bare_ids I.block.types) (bare_ids I.block.types) no_more id place s'
      by_head (Some I) (Some (nest types ps)) = in_block_same (bare_ids I.block.types) types (under_shapes ps no_more) id place s'

  walk_fault_same : (places : List ℕ) (all : ℕ) (f : Function) (head : Tree) → TreeIn S f.body → TreeIn S head → walk_fault E places all f head ≡ walk_fault E' places all f head
  walk_fault_same places all f (ind id) h k =
      fault_same S (recursive_marks E id) (recursive_marks E' id)
      (λ other s known place. marks_same id other known place k.0 s)
      places (body_marks all f) f.body h
  walk_fault_same places all f head h k = refl

  domain_head_in : (o : Option Tree) → IfThere (TreeIn S) o → TreeIn S (head_of_domain o)
  domain_head_in None h = tt
  domain_head_in (Some a) h = head_in (naming S) a h

  functions_same : (places : List ℕ) (all f : ℕ) (gs : List Function) → FunctionsIn S gs → functions_fault E places all f gs ≡ functions_fault E' places all f gs
  functions_same places all f [] h = refl
  functions_same places all f (g ∷ gs) h =
      ap₂ (λ (o : Option ℕ) (o' : Option Unguarded). or_else (option_map (λ call. record { which = f; call = call }) o) o')
      (walk_fault_same places all g (head_of_domain (element g.domains g.recursive_place)) h.0.2 (domain_head_in (element g.domains g.recursive_place) (each_element (TreeIn S) g.domains g.recursive_place h.0.0)))
      (functions_same places all (f + 1) gs h.1)

  pub guard_same : (fs : List Function) → FunctionsIn S fs → guard_fault E fs ≡ guard_fault E' fs
  guard_same fs h = functions_same (recursive_places fs) (length fs) 0 fs h
