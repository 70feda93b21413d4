-- The owners decide, or else the numbers.
use Rattle.cic_names.specs.Orders.{name_bytes, number_bytes}
use Rattle.cic_names.proofs.Blocks.{name_leads, rest_decides, first_decides}
use Rattle.cic_names.proofs.order.owner_order.Goals as goal

pub returns-in-Equal : goal.returns-in-Equal
returns-in-Equal c =
    let a = c.args.a.now in let b = c.args.b.now in
    rest_decides (name_bytes a.owner) (name_bytes b.owner) (number_bytes a.part) (number_bytes b.part) _ _
    (name_leads a.owner b.owner) c.name_order.ensures c.in-Equal.is
    c.number_order.ensures

pub returns-in_default : goal.returns-in_default
returns-in_default c =
    let a = c.args.a.now in let b = c.args.b.now in
    first_decides (name_bytes a.owner) (name_bytes b.owner) (number_bytes a.part) (number_bytes b.part) _
    (name_leads a.owner b.owner) c.name_order.ensures c.in_default.not-Equal
