-- The test of the guard of a Fix, with the first occurrence at fault.
use Rattle.std.specs.Prelude.{ℕ, ◌+◌, Bool, true, false, ◌&&◌, nat_eq, if◌then◌else◌, Option, Some, None, option_map, List, [], ◌∷◌, ◌++◌, length, replicate}
use Rattle.cic_terms.specs.Tree.{Shape, over, Tree, rel, node, Children, no_child, child, lam, app, ind, case, fix}
use Rattle.cic_names.specs.declared.name.GlobalId.{GlobalId}
use Rattle.std.specs.Cmp.Lexicographic.{pointwise}
use Rattle.cic_names.specs.Sameness.{same_id}
use Rattle.cic_rules.specs.Environment.{Environment, element, or_else}
use Rattle.cic_rules.specs.Telescopes.{head_of, Function}
use Rattle.cic_counted.specs.Outcome.{next_number}
use Rattle.cic_rules.specs.Shapes.{GuardShape, own_block, nest, GuardShapes, no_more, unshaped, shaped}
use Rattle.cic_rules.specs.Guard.{Mark, plain, main, smaller, function, Marks, under_mark, under_marks, under_plain, recursive_marks, inner_marks, body_marks, recursive_places}

-- Whether two shapes are the same.
abbrev mutual
  pub same_guard_shape : GuardShape → GuardShape → Bool
  same_guard_shape own_block own_block = true
  same_guard_shape (nest types ss) (nest types' ss') = pointwise same_id types types' && same_guard_shapes ss ss'
  same_guard_shape _ _ = false

  pub same_guard_shapes : GuardShapes → GuardShapes → Bool
  same_guard_shapes no_more no_more = true
  same_guard_shapes (unshaped ss) (unshaped ss') = same_guard_shapes ss ss'
  same_guard_shapes (shaped s ss) (shaped s' ss') = same_guard_shape s s' && same_guard_shapes ss ss'
  same_guard_shapes _ _ = false

abbrev pub has_guard_shape : GuardShape → Option GuardShape → Bool
has_guard_shape s None = false
has_guard_shape s (Some s') = same_guard_shape s s'

-- The marks of a branch, or of a body, with so many binders, where they are known, and none otherwise.
abbrev pub marks_or_plain : (n : ℕ) → Option (List Mark) → List Mark
marks_or_plain n None = replicate n plain
marks_or_plain n (Some ms) = if nat_eq (length ms) n then ms else replicate n plain

-- The shape of a smaller variable, and what is known of a variable as the value of a match.
abbrev pub shape_of_mark : Mark → Option GuardShape
shape_of_mark (smaller s) = Some s
shape_of_mark m = None

abbrev pub known_of_mark : Mark → Option GuardShape
known_of_mark main = Some own_block
known_of_mark m = shape_of_mark m

-- A shape where a test of it holds.
abbrev pub shape_if : (GuardShape → Bool) → Option GuardShape → Option GuardShape
shape_if test None = None
shape_if test (Some s) = if test s then Some s else None

module _ (recursive : (known : Option GuardShape) → GlobalId → (place : ℕ) → Option (List Mark)) (places : List ℕ) where
  -- What is known of the value of a match, by its shape as a smaller term.
  abbrev pub known_value : Marks → Tree → Option GuardShape → Option GuardShape
  known_value marks (rel x) s = known_of_mark (marks x)
  known_value marks t s = s

  -- The shape of a term, where it is smaller: of a match the one shape of all branches, or Own where there
  -- is none.
  abbrev mutual
    pub smaller_shape : Marks → Tree → Option GuardShape
    smaller_shape marks (rel x) = shape_of_mark (marks x)
    smaller_shape marks (app f u) = smaller_shape marks f
    smaller_shape marks (lam a t) = smaller_shape (under_mark plain marks) t
    smaller_shape marks (case id n p v branches) =
        branches_shape marks (known_value marks v (smaller_shape marks v)) id branches
    smaller_shape marks t = None

    pub branches_shape : Marks → (known : Option GuardShape) → GlobalId → Children → Option GuardShape
    branches_shape marks known id no_child = Some own_block
    branches_shape marks known id (child b t ks) =
        shape_if (λ s. have_shape marks known id 1 s ks)
        (smaller_shape (under_marks (marks_or_plain (over b 0) (recursive known id 0)) marks) t)

    pub have_shape : Marks → (known : Option GuardShape) → GlobalId → (place : ℕ) → GuardShape → Children → Bool
    have_shape marks known id place s no_child = true
    have_shape marks known id place s (child b t ks) =
        has_guard_shape s (smaller_shape (under_marks (marks_or_plain (over b 0) (recursive known id place)) marks) t)
        && have_shape marks known id (place + 1) s ks

  -- A walk over a term: the number of the last occurrence that was passed, or that of the first bad one.
  pub data Walk : Type 0 where
    passed : (call : ℕ) → Walk
    failed : (call : ℕ) → Walk

  abbrev pub then_walk : Walk → (ℕ → Walk) → Walk
  then_walk (passed call) next = next call
  then_walk (failed call) next = failed call

  -- An occurrence of function j under arguments.
  abbrev pub argument_shape : Marks → Option Tree → Option GuardShape
  argument_shape marks None = None
  argument_shape marks (Some u) = smaller_shape marks u

  abbrev pub call_shape : Marks → Option ℕ → List Tree → Option GuardShape
  call_shape marks None us = None
  call_shape marks (Some k) us = argument_shape marks (element us k)

  abbrev pub occurrence_at : Option GuardShape → ℕ → Walk
  occurrence_at None call = failed call
  occurrence_at (Some s) call = passed call

  abbrev pub occurrence : Marks → Mark → List Tree → ℕ → Walk
  occurrence marks (function j) us call = occurrence_at (call_shape marks (element places j) us) (next_number call)
  occurrence marks m us call = passed call

  -- Of the parts of a Fix, first the domains and codomain of each function, then the bodies.
  abbrev pub body_flags : (types bodies : Bool) → List Shape → List Bool
  body_flags types bodies [] = []
  body_flags types bodies (s ∷ ss) = replicate (s.domains + 1) types ++ bodies ∷ body_flags types bodies ss

  -- The marks in the body of a Fix of one function under arguments, the recursive one of which is smaller.
  abbrev pub fix_marks : Marks → List Tree → List Shape → Option (List Mark)
  fix_marks marks us (f ∷ []) = option_map (λ s. inner_marks s f) (argument_shape marks (element us f.k))
  fix_marks marks us fs = None

  -- The walk goes to the head of an application before its arguments, and to those from left to right.
  -- `us` are the arguments that the term stands under.
  abbrev mutual
    pub walk : Marks → (us : List Tree) → Tree → ℕ → Walk
    walk marks us (rel x) call = occurrence marks (marks x) us call
    walk marks us (app f u) call = then_walk (walk marks (u ∷ us) f call) (walk marks [] u)
    walk marks us (case id n p v branches) call =
        then_walk (walk (under_plain (n + 1) marks) [] p call) (λ call'.
        then_walk (walk marks [] v call')
        (walk_branches marks (known_value marks v (smaller_shape marks v)) id 0 branches))
    walk marks us (fix which shapes parts) call =
        then_walk (walk_chosen marks None (body_flags true false shapes) parts call)
        (walk_chosen marks (fix_marks marks us shapes) (body_flags false true shapes) parts)
    walk marks us (node f ks) call = walk_children marks ks call

    pub walk_children : Marks → Children → ℕ → Walk
    walk_children marks no_child call = passed call
    walk_children marks (child b t ks) call =
        then_walk (walk (under_plain (over b 0) marks) [] t call) (walk_children marks ks)

    pub walk_branches : Marks → (known : Option GuardShape) → GlobalId → (place : ℕ) → Children → ℕ → Walk
    walk_branches marks known id place no_child call = passed call
    walk_branches marks known id place (child b t ks) call =
        then_walk (walk (under_marks (marks_or_plain (over b 0) (recursive known id place)) marks) [] t call)
        (walk_branches marks known id (place + 1) ks)

    pub walk_chosen : Marks → (body : Option (List Mark)) → List Bool → Children → ℕ → Walk
    walk_chosen marks body flags no_child call = passed call
    walk_chosen marks body [] (child b t ks) call = passed call
    walk_chosen marks body (true ∷ flags) (child b t ks) call =
        then_walk (walk (under_marks (marks_or_plain (over b 0) body) marks) [] t call) (walk_chosen marks body flags ks)
    walk_chosen marks body (false ∷ flags) (child b t ks) call = walk_chosen marks body flags ks call

-- The first call at fault in a function, 0 where its recursive domain is headed by no inductive type.
abbrev pub failed_call : {recursive : (known : Option GuardShape) → GlobalId → (place : ℕ) → Option (List Mark)} {places : List ℕ} → Walk recursive places → Option ℕ
failed_call (passed call) = None
failed_call (failed call) = Some call

abbrev pub walk_fault : Environment → List ℕ → (all : ℕ) → Function → (head : Tree) → Option ℕ
walk_fault E places all f (ind id) =
    failed_call (walk (recursive_marks E id) places (body_marks all f) [] f.body 0)
walk_fault E places all f head = Some 0

abbrev pub head_of_domain : Option Tree → Tree
head_of_domain None = rel 0
head_of_domain (Some a) = head_of a

abbrev pub function_fault : Environment → List ℕ → (all : ℕ) → Function → Option ℕ
function_fault E places all f = walk_fault E places all f (head_of_domain (element f.domains f.recursive_place))

-- The first function of a Fix that is not guarded, and the number of the call at fault.
pub record Unguarded : Type 0 where
  pub which : ℕ
  pub call : ℕ

abbrev pub functions_fault : Environment → List ℕ → (all : ℕ) → (f : ℕ) → List Function → Option Unguarded
functions_fault E places all f [] = None
functions_fault E places all f (g ∷ gs) =
    or_else (option_map (λ call. record { which = f; call = call }) (function_fault E places all g)) (functions_fault E places all (f + 1) gs)

abbrev pub guard_fault : Environment → List Function → Option Unguarded
guard_fault E fs = functions_fault E (recursive_places fs) (length fs) 0 fs
