-- The libraries decide, or else what follows them.
use Rattle.cic_names.specs.Orders.{name_bytes, owner_bytes}
use Rattle.cic_names.proofs.Blocks.{name_leads, rest_decides, first_decides}
use Rattle.cic_names.proofs.order.named_order.Goals as goal

pub returns-in-Equal : goal.returns-in-Equal
returns-in-Equal c =
    let a = c.args.a.now in let b = c.args.b.now in
    rest_decides (name_bytes a.lib) (name_bytes b.lib) (owner_bytes a) (owner_bytes b) _ _
    (name_leads a.lib b.lib) c.name_order.ensures c.in-Equal.is c.owner_order.ensures

pub returns-in_default : goal.returns-in_default
returns-in_default c =
    let a = c.args.a.now in let b = c.args.b.now in
    first_decides (name_bytes a.lib) (name_bytes b.lib) (owner_bytes a) (owner_bytes b) _
    (name_leads a.lib b.lib) c.name_order.ensures c.in_default.not-Equal
