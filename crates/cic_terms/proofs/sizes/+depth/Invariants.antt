use Rattle.std.proofs.Common.{◌≡◌, ◌-◌, ◌^◌, min, max, drop}
use Rattle.cic_terms.specs.Denotes.{branches, bodies, terms, term_list, branch_list, body_list}
use Rattle.cic_terms.specs.Sizes.{depth_children}
use Rattle.cic_terms.proofs.sizes.+depth.Given as goal

abbrev pub invariant-bodies_depth-loop-one : goal.invariant-bodies_depth-loop-one
invariant-bodies_depth-loop-one l =
    max l.most (min (depth_children (body_list 0 (drop l.one-index l.one-items))) (2 ^ 32 - 1)) ≡ min (depth_children (bodies l.all)) (2 ^ 32 - 1)

abbrev pub invariant-branches_depth-loop-branch : goal.invariant-branches_depth-loop-branch
invariant-branches_depth-loop-branch l =
    max l.most (min (depth_children (branch_list (drop l.branch-index l.branch-items))) (2 ^ 32 - 1)) ≡ min (depth_children (branches l.all)) (2 ^ 32 - 1)

abbrev pub invariant-terms_depth-loop-term : goal.invariant-terms_depth-loop-term
invariant-terms_depth-loop-term l =
    max l.most (min (depth_children (term_list l.term-index (drop l.term-index l.term-items))) (2 ^ 32 - 1)) ≡ min (depth_children (terms l.all)) (2 ^ 32 - 1)
