-- Walks with a guard of the program, and the walk over one function of an inner Fix.
use Rattle.std.specs.Prelude.{ℕ, ◌+◌, Bool, Option, List, []}
use Rattle.cic_names.specs.declared.name.GlobalId.{GlobalId}
use Rattle.cic_terms.specs.Tree.{Tree, Children, Shape}
use Rattle.cic_terms.specs.Denotes.{domain_count, terms, tree}
use Rattle.cic_terms.specs.declared.term.FixBody.{FixBody}
use Rattle.cic_rules.specs.Guard.{Mark, Marks, under_marks, under_plain}
use Rattle.cic_rules.specs.Shapes.{GuardShape}
use Rattle.cic_counted.specs.GuardTest as test
use Rattle.cic_guard.specs.calls.Guards.{places_of, recursive_of}
use Rattle.cic_guard.specs.declared.smaller.Guard.{Guard}
use Rattle.cic_guard.specs.declared.walking.WalkEnd.{WalkEnd}
use Rattle.cic_guard.specs.declared.walking.WalkEnd.TheVariants.{Passed, Failed}

-- How a walk with this guard ends.
abbrev pub End : Guard → Type 0
End guard = test.Walk (recursive_of guard) (places_of guard)

abbrev pub walked : (guard : Guard) → WalkEnd → End guard
walked guard (Passed call) = test.passed call
walked guard (Failed call) = test.failed call

abbrev pub then_on : (guard : Guard) → End guard → (ℕ → End guard) → End guard
then_on guard = test.then_walk (recursive_of guard) (places_of guard)

abbrev pub walk_of_term : (guard : Guard) → Marks → (us : List Tree) → Tree → ℕ → End guard
walk_of_term guard = test.walk (recursive_of guard) (places_of guard)

abbrev pub walk_of_parts : (guard : Guard) → Marks → Children → ℕ → End guard
walk_of_parts guard = test.walk_children (recursive_of guard) (places_of guard)

abbrev pub walk_of_branches : (guard : Guard) → Marks → (known : Option GuardShape) → GlobalId → (place : ℕ) → Children → ℕ → End guard
walk_of_branches guard = test.walk_branches (recursive_of guard) (places_of guard)

abbrev pub walk_of_chosen : (guard : Guard) → Marks → (body : Option (List Mark)) → List Bool → Children → ℕ → End guard
walk_of_chosen guard = test.walk_chosen (recursive_of guard) (places_of guard)

-- Which parts of an inner Fix are gone over.
abbrev pub flags : Guard → (types bodies : Bool) → List Shape → List Bool
flags guard = test.body_flags (recursive_of guard) (places_of guard)

-- The value of a match, and its branches.
abbrev pub walk_of_match : (guard : Guard) → Marks → (value : Tree) → GlobalId → (branches : Children) → ℕ → End guard
walk_of_match guard marks value id branches call =
    then_on guard (walk_of_term guard marks [] value call)
    (walk_of_branches guard marks (test.known_value (recursive_of guard) (places_of guard) marks value (test.smaller_shape (recursive_of guard) (places_of guard) marks value)) id 0 branches)

-- The domains and the codomain of a function.
abbrev pub walk_of_types : (guard : Guard) → Marks → FixBody → ℕ → End guard
walk_of_types guard marks b call =
    then_on guard (walk_of_parts guard marks (terms b.domains) call)
    (walk_of_term guard (under_plain (domain_count b) marks) [] (tree b.codomain))

-- The body of one of `all` functions, the binders of which have these marks, where they are known.
abbrev pub walk_of_body : (guard : Guard) → Marks → (all : ℕ) → Option (List Mark) → FixBody → ℕ → End guard
walk_of_body guard marks all known b =
    walk_of_term guard (under_marks (test.marks_or_plain (all + domain_count b) known) marks) [] (tree b.body)
