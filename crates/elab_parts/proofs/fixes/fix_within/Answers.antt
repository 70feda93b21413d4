use Rattle.std.proofs.Common.{sym, ap, ◌∙◌, max, length, arith}
use Rattle.cic_terms.specs.Tree.{fix}
use Rattle.cic_terms.specs.Denotes.{shape_list, body_list}
use Rattle.cic_terms.specs.Sizes.{depth_tree, max_rel}
use Rattle.elab_parts.proofs.Cuts.{cut_deep, room_left, no_room_left}
use Rattle.elab_parts.proofs.Functioning.{fix_depth, fix_rels}
use Rattle.elab_parts.proofs.fixes.fix_within.Goals as goal

pub invariant_of-result : goal.invariant_of-result
invariant_of-result c =
    let bs = c.args.bodies.items.items in
    let d = ap depth_tree c.in_ok-shared_fix-in-Some.ensures ∙ fix_depth c.args.which (shape_list bs) (length bs) bs in
    let r = ap max_rel c.in_ok-shared_fix-in-Some.ensures ∙ fix_rels c.args.which (shape_list bs) (length bs) bs in
    let h = room_left (max c.args.bodies.depth 0) c.in-Some.depth c.in-Some.ensures in
    let m = c.args.bodies.measured in
    let l = c.args.bodies.small in
    record { measured = omega (arith, d, h.0, h.1, m); low = omega (arith, h.0, h.1); small = omega (arith, r, l) }

pub returns-in-None : goal.returns-in-None
returns-in-None c =
    let bs = c.args.bodies.items.items in
    let h = no_room_left (max c.args.bodies.depth 0) c.in-None.ensures in
    sym (cut_deep (fix c.args.which (shape_list bs) (body_list (length bs) bs)) (omega (arith, h, c.args.bodies.measured, fix_depth c.args.which (shape_list bs) (length bs) bs)))
