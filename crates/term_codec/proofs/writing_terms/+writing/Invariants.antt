use Rattle.std.proofs.Common.{◌≡◌, ◌+◌, ◌*◌, ◌≤◌, ◌++◌, drop, length, max}
use Rattle.cic_names.specs.Orders.{digits}
use Rattle.cic_terms.specs.Denotes.{tree, branch_list, term_list, terms, body_list, bodies}
use Rattle.cic_terms.specs.Sizes.{depth_tree, depth_children}
use Rattle.term_format.specs.Spelling.{branch_bytes, part_bytes, joined}
use Rattle.term_format.specs.Storable.{AreBranches, HaveRows}
use Rattle.term_codec.specs.calls.Functions.{all_bytes, AreWritable}
use Rattle.term_codec.proofs.writing_terms.+writing.Given as goal

abbrev pub decreases-put_term : goal.decreases-put_term
decreases-put_term l = 8 * depth_tree (tree l.t.now) + 1

abbrev pub decreases-put_pair : goal.decreases-put_pair
decreases-put_pair l = 8 * max (depth_tree (tree l.first.now)) (depth_tree (tree l.second.now)) + 2

abbrev pub decreases-put_let : goal.decreases-put_let
decreases-put_let l = 8 * max (depth_tree (tree l.body.now)) (max (depth_tree (tree l.ty.now)) (depth_tree (tree l.rest.now))) + 2

abbrev pub decreases-put_case : goal.decreases-put_case
decreases-put_case l = 8 * depth_tree (tree l.t.now)

abbrev pub decreases-put_branch : goal.decreases-put_branch
decreases-put_branch l = 8 * depth_tree (tree l.branch.now.body) + 2

abbrev pub decreases-put_branches : goal.decreases-put_branches
decreases-put_branches l = 8 * depth_children (branch_list l.all.now) + 3

abbrev pub decreases-put_domains : goal.decreases-put_domains
decreases-put_domains l = 8 * depth_children (term_list 0 l.all.now) + 3

abbrev pub decreases-put_function : goal.decreases-put_function
decreases-put_function l = 8 * max (depth_children (terms l.one.now.domains)) (max (depth_tree (tree l.one.now.codomain)) (depth_tree (tree l.one.now.body))) + 4

abbrev pub decreases-put_functions : goal.decreases-put_functions
decreases-put_functions l = 8 * depth_children (body_list (length l.all.now) l.all.now) + 5

abbrev pub decreases-put_fix : goal.decreases-put_fix
decreases-put_fix l = 8 * depth_children (bodies l.all.now) + 6

abbrev pub invariant-put_branches-loop-branch : goal.invariant-put_branches-loop-branch
invariant-put_branches-loop-branch l = record {
  rows : AreBranches (branch_list (drop l.branch-index l.all));
  deep : depth_children (branch_list (drop l.branch-index l.all)) ≤ depth_children (branch_list l.all);
  left : l.bytes.items ++ branch_bytes (branch_list (drop l.branch-index l.all)) ≡ l.fn.bytes.items ++ (digits (length l.all) ++ branch_bytes (branch_list l.all));
}

abbrev pub invariant-put_domains-loop-term : goal.invariant-put_domains-loop-term
invariant-put_domains-loop-term l = record {
  rows : HaveRows (term_list l.term-index (drop l.term-index l.all));
  deep : depth_children (term_list l.term-index (drop l.term-index l.all)) ≤ depth_children (term_list 0 l.all);
  left : l.bytes.items ++ joined (part_bytes (term_list l.term-index (drop l.term-index l.all))) ≡ l.fn.bytes.items ++ joined (part_bytes (term_list 0 l.all));
}

abbrev pub invariant-put_functions-loop-one : goal.invariant-put_functions-loop-one
invariant-put_functions-loop-one l = record {
  writable : AreWritable (drop l.one-index l.all);
  deep : depth_children (body_list (length l.all) (drop l.one-index l.all)) ≤ depth_children (body_list (length l.all) l.all);
  left : l.bytes.items ++ all_bytes (drop l.one-index l.all) ≡ l.fn.bytes.items ++ all_bytes l.all;
}
