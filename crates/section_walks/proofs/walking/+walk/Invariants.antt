use Rattle.std.proofs.Common.{◌+◌, ◌*◌, ◌≡◌, ◌++◌, drop, take, length, false}
use Rattle.cic_terms.specs.Denotes.{branches, bodies, terms, shapes, term_list, branch_list, body_list, shape_list}
use Rattle.cic_terms.proofs.Children.{ChildrenSoFar}
use Rattle.section_terms.specs.Names.{replace_in_parts}
use Rattle.section_walks.proofs.walking.+walk.Given as goal

abbrev pub invariant-walk_all_bodies-loop-one : goal.invariant-walk_all_bodies-loop-one
invariant-walk_all_bodies-loop-one g l =
    (shape_list l.made.items ++ shape_list (drop l.one-index l.old) ≡ shapes l.all)
    × ChildrenSoFar l.room (body_list (length l.old) l.made.items) (replace_in_parts (g.A.Becoming.becomes l.action) (g.A.Becoming.by l.action) l.at (body_list (length l.old) (drop l.one-index l.old))) (replace_in_parts (g.A.Becoming.becomes l.action) (g.A.Becoming.by l.action) l.at (bodies l.all))
    × (l.changed ≡ false → body_list (length l.old) l.made.items ≡ body_list (length l.old) (take l.one-index l.old))

abbrev pub invariant-walk_all_branches-loop-branch : goal.invariant-walk_all_branches-loop-branch
invariant-walk_all_branches-loop-branch g l =
    ChildrenSoFar l.room (branch_list l.made.items) (replace_in_parts (g.A.Becoming.becomes l.action) (g.A.Becoming.by l.action) l.at (branch_list (drop l.branch-index l.old))) (replace_in_parts (g.A.Becoming.becomes l.action) (g.A.Becoming.by l.action) l.at (branches l.all))
    × (l.changed ≡ false → branch_list l.made.items ≡ branch_list (take l.branch-index l.old))

abbrev pub invariant-walk_all_terms-loop-above : goal.invariant-walk_all_terms-loop-above
invariant-walk_all_terms-loop-above g l =
    (length l.made.items ≡ l.above)
    × ChildrenSoFar l.room (term_list 0 l.made.items) (replace_in_parts (g.A.Becoming.becomes l.action) (g.A.Becoming.by l.action) l.at (term_list l.above (drop l.above l.old))) (replace_in_parts (g.A.Becoming.becomes l.action) (g.A.Becoming.by l.action) l.at (terms l.all))
    × (l.changed ≡ false → term_list 0 l.made.items ≡ term_list 0 (take l.above l.old))

abbrev pub decreases-walk_at : goal.decreases-walk_at
decreases-walk_at g l = 8 * l.room + 6

abbrev pub decreases-walk_under : goal.decreases-walk_under
decreases-walk_under g l = 8 * l.room + 7

abbrev pub decreases-walk_pair : goal.decreases-walk_pair
decreases-walk_pair g l = 8 * l.room + 5

abbrev pub decreases-walk_let : goal.decreases-walk_let
decreases-walk_let g l = 8 * l.room + 5

abbrev pub decreases-walk_case : goal.decreases-walk_case
decreases-walk_case g l = 8 * l.room + 5

abbrev pub decreases-walk_fix : goal.decreases-walk_fix
decreases-walk_fix g l = 8 * l.room + 5

abbrev pub decreases-walk_all_branches : goal.decreases-walk_all_branches
decreases-walk_all_branches g l = 8 * l.room + 8

abbrev pub decreases-walk_all_terms : goal.decreases-walk_all_terms
decreases-walk_all_terms g l = 8 * l.room + 8

abbrev pub decreases-walk_body : goal.decreases-walk_body
decreases-walk_body g l = 8 * l.room + 9

abbrev pub decreases-walk_all_bodies : goal.decreases-walk_all_bodies
decreases-walk_all_bodies g l = 8 * l.room + 10
