-- The bodies of branches in a row.
use Rattle.std.proofs.Common.{◌≡◌, List, [], ◌∷◌, ◌++◌, max, refl, ap, arith}
use Rattle.cic_terms.specs.Tree.{no_child, child, many, join}
use Rattle.cic_terms.specs.Denotes.{tree, branch_list}
use Rattle.cic_terms.specs.Sizes.{depth_tree, depth_children, max_rel, max_rel_children}
use Rattle.cic_terms.specs.declared.term.Branch.{Branch}

pub branches_more : (bs : List Branch) (b : Branch) → branch_list (bs ++ b ∷ []) ≡ join (branch_list bs) (child (many b.binders) (tree b.body) no_child)
branches_more [] b = refl
branches_more (x ∷ bs) b = ap (child (many x.binders) (tree x.body)) (branches_more bs b)

pub branches_depth : (bs : List Branch) (b : Branch) → depth_children (branch_list (bs ++ b ∷ [])) ≡ max (depth_children (branch_list bs)) (depth_tree (tree b.body))
branches_depth [] b = omega arith
branches_depth (x ∷ bs) b = let e = branches_depth bs b in omega arith

pub branches_rels : (bs : List Branch) (b : Branch) → max_rel_children (branch_list (bs ++ b ∷ [])) ≡ max (max_rel_children (branch_list bs)) (max_rel (tree b.body))
branches_rels [] b = omega arith
branches_rels (x ∷ bs) b = let e = branches_rels bs b in omega arith
