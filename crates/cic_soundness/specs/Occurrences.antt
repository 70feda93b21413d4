-- The occurrences of the functions of a Fix in a term, in the order in which they are counted; and the first fault of a
-- Fix in its guard by them (this project's own, as the guard is).
use Rattle.std.specs.Prelude.{ℕ, min, ◌+◌, ◌≡◌, ◌≢◌, Bool, true, false, Option, Some, None, List, [], ◌∷◌, ◌++◌, length}
use Rattle.cic_terms.specs.Tree.{over, Tree, rel, node, Children, no_child, child, app, ind, case, fix}
use Rattle.cic_names.specs.declared.name.GlobalId.{GlobalId}
use Rattle.cic_rules.specs.Environment.{Environment, element}
use Rattle.cic_rules.specs.Telescopes.{apply, Function}
use Rattle.cic_rules.specs.Shapes.{GuardShape}
use Rattle.cic_rules.specs.Guard.{Mark, function, Marks, under_marks, under_plain, recursive_marks, body_marks, recursive_places, Smaller, GuardedFunction}
use Rattle.cic_counted.specs.GuardTest.{marks_or_plain, known_value, smaller_shape, body_flags, fix_marks, Unguarded}
use Rattle.cic_soundness.specs.FirstFaults.{FirstNot}

-- An occurrence of function j, under these marks, applied to these arguments.
pub record Occurrence : Type 0 where
  pub marks : Marks
  pub j : ℕ
  pub arguments : List Tree

abbrev pub occurrences_of : Marks → Mark → List Tree → List Occurrence
occurrences_of marks (function j) us = record { marks = marks; j = j; arguments = us } ∷ []
occurrences_of marks m us = []

module _ (recursive : (known : Option GuardShape) → GlobalId → (place : ℕ) → Option (List Mark)) (places : List ℕ) where
  -- The argument at the function's recursive place is there, and smaller.
  pub record GoodCall (o : Occurrence) : Type 0 where
    pub k : ℕ
    pub u : Tree
    pub s : GuardShape
    pub its_place : element places o.j ≡ Some k
    pub stands : element o.arguments k ≡ Some u
    pub is_smaller : Smaller recursive places o.marks u s

  -- The head of an application comes before its arguments, and these from left to right; of a match the motive, the
  -- value and the branches; of a let the body, the type and the rest; of a Fix the domains and codomain of each function,
  -- then the bodies. `us` are the arguments that the term stands under.
  abbrev mutual
    pub occurrences : Marks → (us : List Tree) → Tree → List Occurrence
    occurrences marks us (rel x) = occurrences_of marks (marks x) us
    occurrences marks us (app f u) = occurrences marks (u ∷ us) f ++ occurrences marks [] u
    occurrences marks us (case id n p v branches) =
        occurrences (under_plain (n + 1) marks) [] p
        ++ (occurrences marks [] v ++ in_branches marks (known_value recursive places marks v (smaller_shape recursive places marks v)) id 0 branches)
    occurrences marks us (fix which shapes parts) =
        in_chosen marks None (body_flags recursive places true false shapes) parts
        ++ in_chosen marks (fix_marks recursive places marks us shapes) (body_flags recursive places false true shapes) parts
    occurrences marks us (node f ks) = in_parts marks ks

    pub in_parts : Marks → Children → List Occurrence
    in_parts marks no_child = []
    in_parts marks (child b t ks) = occurrences (under_plain (over b 0) marks) [] t ++ in_parts marks ks

    pub in_branches : Marks → (known : Option GuardShape) → GlobalId → (place : ℕ) → Children → List Occurrence
    in_branches marks known id place no_child = []
    in_branches marks known id place (child b t ks) =
        occurrences (under_marks (marks_or_plain (over b 0) (recursive known id place)) marks) [] t ++ in_branches marks known id (place + 1) ks

    pub in_chosen : Marks → (body : Option (List Mark)) → List Bool → Children → List Occurrence
    in_chosen marks body flags no_child = []
    in_chosen marks body [] (child b t ks) = []
    in_chosen marks body (true ∷ flags) (child b t ks) =
        occurrences (under_marks (marks_or_plain (over b 0) body) marks) [] t ++ in_chosen marks body flags ks
    in_chosen marks body (false ∷ flags) (child b t ks) = in_chosen marks body flags ks

-- The number of the first bad occurrence in the body of a function, from 1, but at most 2^32 - 1; or 0, where its
-- recursive domain is headed by no inductive type.
pub data FirstBadCall (E : Environment) (fs : List Function) (f : Function) : ℕ → Type 0 where
  no_head : {n : ℕ} →
      n ≡ 0 →
      ((id : GlobalId) (us : List Tree) → element f.domains f.recursive_place ≢ Some (apply (ind id) us)) →
      FirstBadCall E fs f n
  bad_call : {n : ℕ} →
      (id : GlobalId) (us : List Tree) (place : ℕ) (o : Occurrence) →
      n ≡ min (place + 1) 4294967295 →
      element f.domains f.recursive_place ≡ Some (apply (ind id) us) →
      FirstNot (GoodCall (recursive_marks E id) (recursive_places fs)) (occurrences (recursive_marks E id) (recursive_places fs) (body_marks (length fs) f) [] f.body) place o →
      FirstBadCall E fs f n

-- The first fault of a Fix in its guard: the first function that is not guarded, and its first bad call.
pub record FirstUnguarded (E : Environment) (fs : List Function) (fault : Unguarded) : Type 0 where
  pub function : Function
  pub first_function : FirstNot (GuardedFunction E fs) fs fault.which function
  pub first_call : FirstBadCall E fs function fault.call
