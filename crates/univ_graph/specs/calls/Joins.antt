-- Levels that become equal at a number that is there, for a constraint that is not strict: what is reached from its right end gets the
-- number of its left one, or what leads to its left end gets the number of its right one.
use Rattle.std.specs.Prelude.{◌≡◌, ℕ, ◌+◌, ◌≤◌, ◌<◌, List, [], Contains, Some, slice_get, Bool, true, false}
use Rattle.univ_graph.specs.declared.board.Edge.{Edge}
use Rattle.univ_graph.specs.declared.board.Board.{Board}
use Rattle.univ_graph.specs.declared.join.Join.{Join}
use Rattle.univ_graph.specs.calls.Boards.{at, near, far}
use Rattle.univ_graph.specs.calls.Moves.{IsClosed}

-- The end of a constraint that gets the number of the other end: upwards the right one.
abbrev pub moved_end : Bool → (left right : ℕ) → ℕ
moved_end true left right = right
moved_end false left right = left

abbrev pub kept_end : Bool → (left right : ℕ) → ℕ
kept_end true left right = left
kept_end false left right = right

-- The bound of a search for what has to get a number: upwards the places below it, downwards those above it.
abbrev pub bound_of : Bool → ℕ → ℕ
bound_of true number = number
bound_of false number = number + 1

-- A number further in the direction of a search.
abbrev pub IsBeyond : Bool → (bound number : ℕ) → Type 0
IsBeyond true bound number = bound < number
IsBeyond false bound number = number < bound

-- If the edge is strict, it leads to numbers beyond this one.
abbrev pub LeadsBeyond : (numbers : List ℕ) (up : Bool) (number : ℕ) → Edge → Type 0
LeadsBeyond numbers up number r = r.tagged.constraint.strict ≡ true → IsBeyond up number (at numbers (far up r))

-- What is gathered from one end of a constraint, up or down to the number of its other end, where no edge from it is strict but to
-- numbers beyond that.
pub record IsJoin (b : Board) (up : Bool) (left right : ℕ) (joined : List ℕ) : Type 0 where
  pub positive : 1 ≤ at b.numbers.items (kept_end up left right)
  pub moved_is : Contains joined (moved_end up left right)
  pub closed : IsClosed b up (bound_of up (at b.numbers.items (kept_end up left right))) [] joined
  pub plain : (k : ℕ) (r : Edge) → slice_get b.edges.items k ≡ Some r → Contains joined (near up r) → LeadsBeyond b.numbers.items up (at b.numbers.items (kept_end up left right)) r

abbrev pub Joins : Board → (left right : ℕ) → Join → Type 0
Joins b left right j = IsJoin b j.up left right j.places
