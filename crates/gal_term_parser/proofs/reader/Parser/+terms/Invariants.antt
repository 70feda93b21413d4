use Rattle.std.proofs.Common.{◌≡◌, List, ◌∷◌, ◌≤◌, length, ◌+◌, ◌*◌}
use Rattle.gal_grammar.specs.Values.{Val, term, groups, functions, branches}
use Rattle.gal_grammar.specs.Kinds.{Want, nt, k_tail, k_groups, k_function, k_functions, k_branch, k_more_branches}
use Rattle.gal_grammar.specs.calls.Machine.{run}
use Rattle.gal_raw.specs.Denotes as V
use Rattle.gal_term_parser.specs.Left.{left}
use Rattle.gal_term_parser.proofs.reader.Parser.+terms.Given as goal

abbrev pub decreases-term : goal.decreases-term
decreases-term l = 20 * length (left l.self.now) + 9

abbrev pub decreases-shallow_term : goal.decreases-shallow_term
decreases-shallow_term l = 20 * length (left l.self.now) + 8

abbrev pub decreases-product : goal.decreases-product
decreases-product l = 20 * length (left l.self.now) + 6

abbrev pub decreases-abstraction : goal.decreases-abstraction
decreases-abstraction l = 20 * length (left l.self.now) + 6

abbrev pub decreases-all_binders : goal.decreases-all_binders
decreases-all_binders l = 20 * length (left l.self.now) + 5

abbrev pub decreases-bare_group : goal.decreases-bare_group
decreases-bare_group l = 20 * length (left l.self.now) + 4

abbrev pub decreases-group : goal.decreases-group
decreases-group l = 20 * length (left l.self.now) + 4

abbrev pub decreases-groups : goal.decreases-groups
decreases-groups l = 20 * length (left l.self.now) + 4

abbrev pub decreases-arguments : goal.decreases-arguments
decreases-arguments l = 20 * length (left l.self.now) + 3

abbrev pub decreases-application : goal.decreases-application
decreases-application l = 20 * length (left l.self.now) + 4

abbrev pub decreases-behind_head : goal.decreases-behind_head
decreases-behind_head l = 20 * length (left l.self.now) + 9

abbrev pub decreases-atom : goal.decreases-atom
decreases-atom l = 20 * length (left l.self.now) + 2

abbrev pub decreases-let_in : goal.decreases-let_in
decreases-let_in l = 20 * length (left l.self.now) + 6

abbrev pub decreases-function_groups : goal.decreases-function_groups
decreases-function_groups l = 20 * length (left l.self.now) + 6

abbrev pub decreases-typed_body : goal.decreases-typed_body
decreases-typed_body l = 20 * length (left l.self.now) + 6

abbrev pub decreases-function : goal.decreases-function
decreases-function l = 20 * length (left l.self.now) + 8

abbrev pub decreases-fix : goal.decreases-fix
decreases-fix l = 20 * length (left l.self.now) + 9

abbrev pub decreases-functions : goal.decreases-functions
decreases-functions l = 20 * length (left l.self.now) + 9

abbrev pub decreases-some_groups : goal.decreases-some_groups
decreases-some_groups l = 20 * length (left l.self.now) + 5

abbrev pub decreases-function_parts : goal.decreases-function_parts
decreases-function_parts l = 20 * length (left l.self.now) + 7

abbrev pub decreases-branch : goal.decreases-branch
decreases-branch l = 20 * length (left l.self.now) + 2

abbrev pub decreases-some_branches : goal.decreases-some_branches
decreases-some_branches l = 20 * length (left l.self.now) + 3

abbrev pub decreases-branches : goal.decreases-branches
decreases-branches l = 20 * length (left l.self.now) + 4

abbrev pub decreases-any_branches : goal.decreases-any_branches
decreases-any_branches l = 20 * length (left l.self.now) + 5

abbrev pub decreases-cases : goal.decreases-cases
decreases-cases l = 20 * length (left l.self.now) + 10

abbrev pub decreases-any_cases : goal.decreases-any_cases
decreases-any_cases l = 20 * length (left l.self.now) + 10

abbrev pub decreases-match_of : goal.decreases-match_of
decreases-match_of l = 20 * length (left l.self.now) + 11

abbrev pub decreases-branch_parts : goal.decreases-branch_parts
decreases-branch_parts l = 20 * length (left l.self.now) + 1

abbrev pub invariant-arguments-atoms : goal.invariant-arguments-atoms
invariant-arguments-atoms l = record {
  on : length (left l.self) ≤ length (left l.fn.self);
  so_far : (k : List Want) (vs : List Val) → run (left l.fn.self) (nt l.fn.nesting k_tail ∷ k) (term (V.application l.fn.parts) ∷ vs) ≡ run (left l.self) (nt l.fn.nesting k_tail ∷ k) (term (V.application l.parts) ∷ vs);
}

abbrev pub decreases-arguments-atoms : goal.decreases-arguments-atoms
decreases-arguments-atoms l = length (left l.self)

abbrev pub invariant-groups-more : goal.invariant-groups-more
invariant-groups-more l = record {
  on : length (left l.self) ≤ length (left l.fn.self);
  so_far : (k : List Want) (vs : List Val) → run (left l.fn.self) (nt l.fn.nesting k_groups ∷ k) (groups (V.groups l.fn.among) ∷ vs) ≡ run (left l.self) (nt l.fn.nesting k_groups ∷ k) (groups (V.groups l.among) ∷ vs);
}

abbrev pub decreases-groups-more : goal.decreases-groups-more
decreases-groups-more l = length (left l.self)

abbrev pub invariant-functions-more : goal.invariant-functions-more
invariant-functions-more l = record {
  on : length (left l.self) ≤ length (left l.fn.self);
  so_far : (k : List Want) (vs : List Val) → run (left l.fn.self) (nt l.fn.nesting k_function ∷ nt l.fn.nesting k_functions ∷ k) (functions (V.functions l.fn.block) ∷ vs) ≡ run (left l.self) (nt l.fn.nesting k_functions ∷ k) (functions (V.functions l.block) ∷ vs);
}

abbrev pub decreases-functions-more : goal.decreases-functions-more
decreases-functions-more l = length (left l.self)

abbrev pub invariant-some_branches-more : goal.invariant-some_branches-more
invariant-some_branches-more l = record {
  on : length (left l.self) ≤ length (left l.fn.self);
  so_far : (k : List Want) (vs : List Val) → run (left l.fn.self) (nt l.fn.nesting k_branch ∷ nt l.fn.nesting k_more_branches ∷ k) (branches (V.branches l.fn.cases) ∷ vs) ≡ run (left l.self) (nt l.fn.nesting k_more_branches ∷ k) (branches (V.branches l.cases) ∷ vs);
}

abbrev pub decreases-some_branches-more : goal.decreases-some_branches-more
decreases-some_branches-more l = length (left l.self)

abbrev pub decreases-arrow_or_application : goal.decreases-arrow_or_application
decreases-arrow_or_application l = 20 * length (left l.self.now) + 7
