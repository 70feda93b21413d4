use Rattle.std.proofs.Common.{◌≡◌, ◌++◌, drop, length}
use Rattle.cic_terms.specs.Denotes.{branches, bodies, terms, shapes, term_list, branch_list, body_list, shape_list}
use Rattle.cic_terms.specs.calls.Answer.{so_far}
use Rattle.cic_terms.specs.calls.Walk.{map_children}
use Rattle.cic_terms.proofs.Children.{ChildrenSoFar}
use Rattle.cic_terms.proofs.walking.+walk.Given as goal

abbrev pub invariant-walk_all_bodies-loop-i : goal.invariant-walk_all_bodies-loop-i
invariant-walk_all_bodies-loop-i g l =
    (shape_list (so_far l.old l.i l.made) ++ shape_list (drop l.i l.old) ≡ shapes l.all)
    × ChildrenSoFar l.room (body_list (length l.old) (so_far l.old l.i l.made)) (map_children (g.A.Action.becomes l.action) l.at (body_list (length l.old) (drop l.i l.old))) (map_children (g.A.Action.becomes l.action) l.at (bodies l.all))

abbrev pub invariant-walk_all_branches-loop-i : goal.invariant-walk_all_branches-loop-i
invariant-walk_all_branches-loop-i g l =
    ChildrenSoFar l.room (branch_list (so_far l.old l.i l.made)) (map_children (g.A.Action.becomes l.action) l.at (branch_list (drop l.i l.old))) (map_children (g.A.Action.becomes l.action) l.at (branches l.all))

abbrev pub invariant-walk_all_terms-loop-above : goal.invariant-walk_all_terms-loop-above
invariant-walk_all_terms-loop-above g l =
    (length (so_far l.old l.above l.made) ≡ l.above)
    × ChildrenSoFar l.room (term_list 0 (so_far l.old l.above l.made)) (map_children (g.A.Action.becomes l.action) l.at (term_list l.above (drop l.above l.old))) (map_children (g.A.Action.becomes l.action) l.at (terms l.all))
