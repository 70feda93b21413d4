use Rattle.std.proofs.Common.{◌≡◌, ◌+◌, ◌*◌, ◌-◌, ◌≤◌, drop, length}
use Rattle.cic_terms.specs.Denotes.{branch_list, term_list}
use Rattle.term_format.specs.TermReading.{read_term, read_branches, read_domains, read_functions}
use Rattle.term_codec.specs.calls.Functions.{functions_of}
use Rattle.term_codec.proofs.TermLoops.{with_parts, with_functions}
use Rattle.term_codec.proofs.terms.+reading.Given as goal

abbrev pub decreases-read_term : goal.decreases-read_term
decreases-read_term l = 8 * l.room

abbrev pub decreases-read_row : goal.decreases-read_row
decreases-read_row l = 8 * l.room + 5

abbrev pub decreases-read_pair : goal.decreases-read_pair
decreases-read_pair l = 8 * l.room + 4

abbrev pub decreases-read_let : goal.decreases-read_let
decreases-read_let l = 8 * l.room + 4

abbrev pub decreases-read_case : goal.decreases-read_case
decreases-read_case l = 8 * l.room + 4

abbrev pub decreases-read_fix : goal.decreases-read_fix
decreases-read_fix l = 8 * l.room + 4

abbrev pub decreases-read_branches : goal.decreases-read_branches
decreases-read_branches l = 8 * l.room + 3

abbrev pub decreases-read_functions : goal.decreases-read_functions
decreases-read_functions l = 8 * l.room + 3

abbrev pub decreases-read_branch : goal.decreases-read_branch
decreases-read_branch l = 8 * l.room + 2

abbrev pub decreases-read_function : goal.decreases-read_function
decreases-read_function l = 8 * l.room + 2

abbrev pub decreases-read_domains : goal.decreases-read_domains
decreases-read_domains l = 8 * l.room + 1

abbrev pub invariant-read_branches-loop-i : goal.invariant-read_branches-loop-i
invariant-read_branches-loop-i l = record {
  within : l.place ≤ length l.b;
  left : read_branches (read_term l.room) l.count (drop l.initial.place l.b) ≡ with_parts (branch_list l.items.items) (read_branches (read_term l.room) (l.count - l._i) (drop l.place l.b));
}

abbrev pub invariant-read_domains-loop-i : goal.invariant-read_domains-loop-i
invariant-read_domains-loop-i l = record {
  within : l.place ≤ length l.b;
  count : length l.items.items ≡ l._i;
  left : read_domains (read_term l.room) 0 l.count (drop l.initial.place l.b) ≡ with_parts (term_list 0 l.items.items) (read_domains (read_term l.room) l._i (l.count - l._i) (drop l.place l.b));
}

abbrev pub invariant-read_functions-loop-i : goal.invariant-read_functions-loop-i
invariant-read_functions-loop-i l = record {
  within : l.place ≤ length l.b;
  count : length l.items.items ≡ l._i;
  left : read_functions (read_term l.room) l.count l.count (drop l.initial.place l.b) ≡ with_functions (functions_of l.count l.items.items) (read_functions (read_term l.room) l.count (l.count - l._i) (drop l.place l.b));
}
