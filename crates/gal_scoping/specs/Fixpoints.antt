-- Fixpoints (Coq Reference Manual, "Recursive and co-recursive functions": `fix`, `struct` and `for`).
use Rattle.std.specs.Prelude.{ℕ, zero, suc, ◌+◌, List, [], ◌∷◌, ◌++◌, map, length, reverse, Option, Some, None, option_map, is_none, Ok, Err, Bool, true, false, if◌then◌else◌}
use Rattle.cic_terms.specs.Tree.{Tree, ind}
use Rattle.cic_terms.specs.Lift.{lift_tree}
use Rattle.cic_rules.specs.Environment.{Environment, or_else}
use Rattle.cic_rules.specs.Telescopes.{Function, head_of, fixpoint}
use Rattle.cic_counted.specs.GuardTest.{guard_fault}
use Rattle.gal_grammar.specs.Terms.{Named, Binder, Functions, no_functions, function}
use Rattle.gal_scoping.specs.Readings.{unknown, Reading, with_part}
use Rattle.gal_scoping.specs.Names.{Around, text_of, binder_name, has_name}

-- A binder: its name, if it has one, and its type under the binders before it.
pub record Binding : Type 0 where
  pub name : Option (List ℕ)
  pub type : Tree

abbrev pub domains : List Binding → List Tree
domains = map (λ b. b.type)

abbrev pub names : List Binding → List (Option (List ℕ))
names = map (λ b. b.name)

abbrev pub inside : List Binding → Around → Around
inside bindings around = reverse (names bindings) ++ around

-- The binders of one group share its type, which does not see them.
abbrev pub bindings_from : (passed : ℕ) → List Binder → Tree → List Binding
bindings_from passed [] type = []
bindings_from passed (x ∷ xs) type =
    record { name = binder_name x; type = lift_tree 0 passed type } ∷ bindings_from (passed + 1) xs type

-- The last place of a name.
abbrev pub last_place : List ℕ → List (Option (List ℕ)) → Option ℕ
last_place name [] = None
last_place name (x ∷ xs) =
    or_else (option_map suc (last_place name xs)) (if has_name name x then Some zero else None)

abbrev pub place_or_unknown : List ℕ → Option ℕ → Reading ℕ
place_or_unknown name None = Err (unknown name)
place_or_unknown name (Some place) = Ok place

abbrev pub struct_place : Option Named → List Binding → Reading (Option ℕ)
struct_place None bindings = Ok None
struct_place (Some x) bindings = with_part Some (place_or_unknown (text_of x) (last_place (text_of x) (names bindings)))

-- The names of functions, in order, and the function that is meant by one behind `for`.
abbrev pub function_names : Functions → List (Option (List ℕ))
function_names no_functions = []
function_names (function fs f gs s a t) = function_names fs ++ (Some (text_of f) ∷ [])

abbrev pub function_meant : Option Named → List (Option (List ℕ)) → Reading ℕ
function_meant None names = Ok 0
function_meant (Some x) names = place_or_unknown (text_of x) (last_place (text_of x) names)

-- A function that was read: the place behind `struct`, if there is one, and its parts.
pub record ReadFunction : Type 0 where
  pub struct : Option ℕ
  pub bindings : List Binding
  pub codomain : Tree
  pub body : Tree

-- With this binder as the recursive one.
abbrev pub recursive_at : ReadFunction → ℕ → Function
recursive_at f k = record { recursive_place = k; domains = domains f.bindings; codomain = f.codomain; body = f.body }

-- The first of so many places, from one on, at which a test holds; or 0.
abbrev pub first_where : (ℕ → Bool) → (from many : ℕ) → ℕ
first_where test from zero = 0
first_where test from (suc many) = if test from then from else first_where test (from + 1) many

-- Without `struct` the recursive binder of a single function is the first with which the guard passes, or else the first.
abbrev pub is_guarded_at : Environment → ReadFunction → ℕ → Bool
is_guarded_at E f k = is_none (guard_fault E (recursive_at f k ∷ []))

abbrev pub place_by_guard : Environment → ReadFunction → Option ℕ → ℕ
place_by_guard E f (Some k) = k
place_by_guard E f None = first_where (is_guarded_at E f) 0 (length f.bindings)

-- Of several functions it is the first binder with an inductive type at the head of its written type, or else the first.
abbrev pub is_type : Tree → Bool
is_type (ind id) = true
is_type t = false

abbrev pub first_of_type : (place : ℕ) → List Tree → ℕ
first_of_type place [] = 0
first_of_type place (a ∷ as_) = if is_type (head_of a) then place else first_of_type (place + 1) as_

abbrev pub place_by_type : ReadFunction → Option ℕ → ℕ
place_by_type f (Some k) = k
place_by_type f None = first_of_type 0 (domains f.bindings)

abbrev pub with_places : Environment → List ReadFunction → List Function
with_places E [] = []
with_places E (f ∷ []) = recursive_at f (place_by_guard E f f.struct) ∷ []
with_places E fs = map (λ f. recursive_at f (place_by_type f f.struct)) fs

abbrev pub fix_read : Environment → List ReadFunction → (which : ℕ) → Tree
fix_read E fs which = fixpoint which (with_places E fs)
