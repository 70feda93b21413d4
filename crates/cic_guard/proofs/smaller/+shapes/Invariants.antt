use Rattle.std.proofs.Common.{◌≡◌, ◌+◌, ◌*◌, drop, option_map}
use Rattle.cic_terms.specs.Denotes.{branch_list, tree}
use Rattle.cic_terms.specs.Sizes.{depth_children, depth_tree}
use Rattle.cic_counted.specs.GuardTest.{have_shape}
use Rattle.guard_shapes.specs.Denotes.{guard_shape}
use Rattle.cic_guard.specs.calls.Guards.{places_of, recursive_of}
use Rattle.cic_guard.specs.calls.Rows.{shared_marks}
use Rattle.cic_guard.proofs.smaller.+shapes.Given as goal

abbrev pub decreases-smaller_shape : goal.decreases-smaller_shape
decreases-smaller_shape l = 5 * depth_tree (tree l.t.now)

abbrev pub decreases-branch_shape : goal.decreases-branch_shape
decreases-branch_shape l = 5 * depth_tree (tree l.branch.now.body) + 1

abbrev pub decreases-shape_of_value : goal.decreases-shape_of_value
decreases-shape_of_value l = 5 * depth_tree (tree l.value.now) + 1

abbrev pub decreases-have_shape : goal.decreases-have_shape
decreases-have_shape l = 5 * depth_children (branch_list l.all.now) + 2

abbrev pub decreases-branches_shape : goal.decreases-branches_shape
decreases-branches_shape l = 5 * depth_children (branch_list l.all.now) + 3

abbrev pub invariant-have_shape-loop-place : goal.invariant-have_shape-loop-place
invariant-have_shape-loop-place l =
    have_shape (recursive_of l.guard) (places_of l.guard) (shared_marks l.row) (option_map (λ s. guard_shape s.now) l.known) l.id l.place (guard_shape l.shape) (branch_list (drop l.place l.all))
    ≡ have_shape (recursive_of l.guard) (places_of l.guard) (shared_marks l.row) (option_map (λ s. guard_shape s.now) l.known) l.id 1 (guard_shape l.shape) (branch_list (drop 1 l.all))
