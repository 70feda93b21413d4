use Rattle.std.proofs.Common.{◌≡◌, ◌+◌, ◌*◌, None, false, true, drop, length, max, option_map}
use Rattle.cic_terms.specs.Denotes.{body_list, body_parts, branch_list, shape_list, term_list, tree}
use Rattle.cic_terms.specs.Sizes.{depth_children, depth_tree}
use Rattle.guard_shapes.specs.Denotes.{guard_shape}
use Rattle.cic_guard.specs.calls.Rows.{shared_marks}
use Rattle.cic_guard.specs.calls.Walks.{flags, walk_of_branches, walk_of_chosen, walk_of_parts}
use Rattle.cic_guard.proofs.walking.+walk.Given as goal

abbrev pub decreases-walk : goal.decreases-walk
decreases-walk l = 8 * depth_tree (tree l.t.now)

abbrev pub decreases-walk_under : goal.decreases-walk_under
decreases-walk_under l = 8 * depth_tree (tree l.t.now) + 1

abbrev pub decreases-walk_binding : goal.decreases-walk_binding
decreases-walk_binding l = 8 * max (depth_tree (tree l.domain.now)) (depth_tree (tree l.inner.now)) + 2

abbrev pub decreases-walk_let : goal.decreases-walk_let
decreases-walk_let l = 8 * max (depth_tree (tree l.body.now)) (max (depth_tree (tree l.ty.now)) (depth_tree (tree l.rest.now))) + 3

abbrev pub decreases-walk_application : goal.decreases-walk_application
decreases-walk_application l = 8 * max (depth_tree (tree l.function.now)) (depth_tree (tree l.argument.now)) + 1

abbrev pub decreases-walk_motive : goal.decreases-walk_motive
decreases-walk_motive l = 8 * depth_tree (tree l.motive.now) + 2

abbrev pub decreases-walk_match : goal.decreases-walk_match
decreases-walk_match l = 8 * max (depth_tree (tree l.value.now)) (depth_children (branch_list l.branches.now)) + 3

abbrev pub decreases-walk_branch : goal.decreases-walk_branch
decreases-walk_branch l = 8 * depth_tree (tree l.branch.now.body) + 1

abbrev pub decreases-walk_branches : goal.decreases-walk_branches
decreases-walk_branches l = 8 * depth_children (branch_list l.branches.now) + 2

abbrev pub decreases-walk_fix : goal.decreases-walk_fix
decreases-walk_fix l = 8 * depth_children (body_list (length l.all.now) l.all.now) + 6

abbrev pub decreases-walk_all_types : goal.decreases-walk_all_types
decreases-walk_all_types l = 8 * depth_children (body_list (length l.all.now) l.all.now) + 4

abbrev pub decreases-walk_types : goal.decreases-walk_types
decreases-walk_types l = 8 * depth_children (body_parts 0 l.one.now) + 3

abbrev pub decreases-walk_domains : goal.decreases-walk_domains
decreases-walk_domains l = 8 * depth_children (term_list 0 l.domains.now) + 2

abbrev pub decreases-walk_bodies : goal.decreases-walk_bodies
decreases-walk_bodies l = 8 * depth_children (body_list (length l.all.now) l.all.now) + 5

abbrev pub decreases-walk_single_body : goal.decreases-walk_single_body
decreases-walk_single_body l = 8 * depth_tree (tree l.one.now.body) + 2

abbrev pub decreases-walk_several_bodies : goal.decreases-walk_several_bodies
decreases-walk_several_bodies l = 8 * depth_children (body_list (length l.all.now) l.all.now) + 4

abbrev pub decreases-walk_plain_body : goal.decreases-walk_plain_body
decreases-walk_plain_body l = 8 * depth_tree (tree l.one.now.body) + 2

abbrev pub invariant-walk_branches-loop-place : goal.invariant-walk_branches-loop-place
invariant-walk_branches-loop-place l =
    walk_of_branches l.guard (shared_marks l.row) (option_map (λ s. guard_shape s.now) l.known) l.id l.place (branch_list (drop l.place l.branches)) l.at
    ≡ walk_of_branches l.guard (shared_marks l.row) (option_map (λ s. guard_shape s.now) l.known) l.id 0 (branch_list l.branches) l.call

abbrev pub invariant-walk_all_types-loop-one : goal.invariant-walk_all_types-loop-one
invariant-walk_all_types-loop-one l =
    walk_of_chosen l.guard (shared_marks l.row) None (flags l.guard true false (shape_list (drop l.one-index l.all))) (body_list (length l.all) (drop l.one-index l.all)) l.at
    ≡ walk_of_chosen l.guard (shared_marks l.row) None (flags l.guard true false (shape_list l.all)) (body_list (length l.all) l.all) l.call

abbrev pub invariant-walk_several_bodies-loop-one : goal.invariant-walk_several_bodies-loop-one
invariant-walk_several_bodies-loop-one l =
    walk_of_chosen l.guard (shared_marks l.row) None (flags l.guard false true (shape_list (drop l.one-index l.all))) (body_list (length l.all) (drop l.one-index l.all)) l.at
    ≡ walk_of_chosen l.guard (shared_marks l.row) None (flags l.guard false true (shape_list l.all)) (body_list (length l.all) l.all) l.call

abbrev pub invariant-walk_domains-loop-i : goal.invariant-walk_domains-loop-i
invariant-walk_domains-loop-i l =
    walk_of_parts l.guard (shared_marks l.row) (term_list l.i (drop l.i l.domains)) l.at
    ≡ walk_of_parts l.guard (shared_marks l.row) (term_list 0 l.domains) l.call
