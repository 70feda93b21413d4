use Rattle.std.proofs.Common.{◌≤◌, map, length, arith}
use Rattle.std.specs.Option.{option_copied}
use Rattle.std.proofs.lemmas.List.{length-reverse, length-map}
use Rattle.elab_parts.proofs.Binders.{left_names}
use Rattle.elab_parts.proofs.around.Around.leave.Goals as goal

pub returns : goal.returns
returns c =
    let items = c.args.self.now.names.items in
    let within : c.args.len ≤ length items = omega (arith, length-reverse (map option_copied items), length-map items option_copied, c.requires) in
    rw c.truncate.ensures.items (left_names option_copied items c.args.len within)
