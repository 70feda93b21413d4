use Rattle.std.proofs.Common.{◌≡◌, ◌≤◌, ◌+◌, ◌*◌, ◌++◌, drop, length}
use Rattle.cic_terms.specs.Denotes.{tree, branches, bodies, terms, body_parts, branch_list, term_list, body_list}
use Rattle.cic_terms.specs.Sizes.{depth_tree, depth_children}
use Rattle.section_terms.specs.Names.{names_in_parts}
use Rattle.section_uses.proofs.noting.+noting.Given as goal

abbrev pub invariant-note_branches-loop-branch : goal.invariant-note_branches-loop-branch
invariant-note_branches-loop-branch l =
    (l.names.items ++ names_in_parts (branch_list (drop l.branch-index l.old)) ≡ l.initial.names.items ++ names_in_parts (branches l.all))
    × (depth_children (branch_list (drop l.branch-index l.old)) ≤ depth_children (branches l.all))

abbrev pub invariant-note_terms-loop-term : goal.invariant-note_terms-loop-term
invariant-note_terms-loop-term l =
    (l.names.items ++ names_in_parts (term_list l.term-index (drop l.term-index l.old)) ≡ l.initial.names.items ++ names_in_parts (terms l.all))
    × (depth_children (term_list l.term-index (drop l.term-index l.old)) ≤ depth_children (terms l.all))

abbrev pub invariant-note_bodies-loop-one : goal.invariant-note_bodies-loop-one
invariant-note_bodies-loop-one l =
    (l.names.items ++ names_in_parts (body_list (length l.old) (drop l.one-index l.old)) ≡ l.initial.names.items ++ names_in_parts (bodies l.all))
    × (depth_children (body_list (length l.old) (drop l.one-index l.old)) ≤ depth_children (bodies l.all))

abbrev pub decreases-note_names : goal.decreases-note_names
decreases-note_names l = 4 * depth_tree (tree l.t.now)

abbrev pub decreases-note_branches : goal.decreases-note_branches
decreases-note_branches l = 4 * depth_children (branches l.all.now) + 1

abbrev pub decreases-note_terms : goal.decreases-note_terms
decreases-note_terms l = 4 * depth_children (terms l.all.now) + 1

abbrev pub decreases-note_body : goal.decreases-note_body
decreases-note_body l = 4 * depth_children (body_parts 0 l.one.now) + 2

abbrev pub decreases-note_bodies : goal.decreases-note_bodies
decreases-note_bodies l = 4 * depth_children (bodies l.all.now) + 3
