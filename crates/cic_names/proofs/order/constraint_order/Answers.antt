-- The left levels decide, or else what follows them.
use Rattle.cic_names.specs.Orders.{level_bytes, right_bytes}
use Rattle.cic_names.proofs.Blocks.{level_leads, rest_decides, first_decides}
use Rattle.cic_names.proofs.order.constraint_order.Goals as goal

pub returns-in-Equal : goal.returns-in-Equal
returns-in-Equal c =
    let a = c.args.a.now in let b = c.args.b.now in
    rest_decides (level_bytes a.left) (level_bytes b.left) (right_bytes a) (right_bytes b) _ _
    (level_leads a.left b.left) c.level_order.ensures c.in-Equal.is c.right_order.ensures

pub returns-in_default : goal.returns-in_default
returns-in_default c =
    let a = c.args.a.now in let b = c.args.b.now in
    first_decides (level_bytes a.left) (level_bytes b.left) (right_bytes a) (right_bytes b) _
    (level_leads a.left b.left) c.level_order.ensures c.in_default.not-Equal
