-- What fits into no room.
use Rattle.std.proofs.Common.{◌≤◌, arith}
use Rattle.cic_terms.specs.Tree.{Tree, rel, node}
use Rattle.cic_terms.specs.Sizes.{Fits, depth_tree}

pub depth_pos : (t : Tree) → 1 ≤ depth_tree t
depth_pos (rel n) = omega arith
depth_pos (node f ks) = omega arith

-- no tree fits into no room
pub no_room : (t : Tree) → ¬ Fits 0 t
no_room t h = let d = depth_pos t in omega arith
