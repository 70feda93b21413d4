-- While branches, domains and functions are put in front: those from one on were. The calls end since each goes
-- to a part, or to the same term at a lower rank.
use Rattle.std.proofs.Common.{◌≡◌, ◌+◌, ◌*◌, ◌<◌, length}
use Rattle.cic_terms.specs.Denotes.{tree, branches, bodies, terms, body_parts}
use Rattle.cic_terms.specs.Sizes.{depth_tree, depth_children}
use Rattle.cic_env.specs.Environments.{items}
use Rattle.gal_print.specs.calls.Names.{numbers, next_number}
use Rattle.gal_print.specs.calls.Places.{heads_of}
use Rattle.gal_print.proofs.Loops.{branches_from, domains_from, functions_from}
use Rattle.gal_print.proofs.printing.+print.Given as goal

abbrev pub invariant-print_branches-loop-i : goal.invariant-print_branches-loop-i
invariant-print_branches-loop-i l = record {
  printed : branches_from (items l.env) (heads_of l.heads) l.branches l.i (numbers l.names) (next_number l.names) l.fn.out l.out;
  flags : length l.out.used.items ≡ length l.fn.out.used.items;
}

abbrev pub invariant-print_domains-loop-j : goal.invariant-print_domains-loop-j
invariant-print_domains-loop-j l = record {
  printed : domains_from (items l.env) l.domains l.j (numbers l.names) (next_number l.names) l.fn.out l.out;
  flags : length l.out.used.items ≡ next_number l.names + l.j;
}

abbrev pub invariant-print_functions-loop-i : goal.invariant-print_functions-loop-i
invariant-print_functions-loop-i l = record {
  printed : functions_from (items l.env) (length l.functions) l.functions l.i (numbers l.names) (next_number l.names) l.fn.out l.out;
  flags : length l.out.used.items ≡ length l.fn.out.used.items;
  within : l.i < length l.functions;
}

abbrev pub decreases-print_whole : goal.decreases-print_whole
decreases-print_whole l = 8 * depth_tree (tree l.t.now) + 1

abbrev pub decreases-print_placed : goal.decreases-print_placed
decreases-print_placed l = 8 * depth_tree (tree l.t.now) + 2

abbrev pub decreases-print_typed : goal.decreases-print_typed
decreases-print_typed l = 8 * depth_tree (tree l.ty.now) + 2

abbrev pub decreases-print_under : goal.decreases-print_under
decreases-print_under l = 8 * depth_tree (tree l.t.now) + 2

abbrev pub decreases-print_match : goal.decreases-print_match
decreases-print_match l = 8 * depth_tree (tree l.t.now)

abbrev pub decreases-print_fix : goal.decreases-print_fix
decreases-print_fix l = 8 * depth_tree (tree l.t.now)

abbrev pub decreases-print_branches : goal.decreases-print_branches
decreases-print_branches l = 8 * depth_children (branches l.all.now) + 3

abbrev pub decreases-print_domains : goal.decreases-print_domains
decreases-print_domains l = 8 * depth_children (terms l.all.now) + 3

abbrev pub decreases-print_function : goal.decreases-print_function
decreases-print_function l = 8 * depth_children (body_parts 0 l.one.now) + 4

abbrev pub decreases-print_functions : goal.decreases-print_functions
decreases-print_functions l = 8 * depth_children (bodies l.all.now) + 5
