use Rattle.std.proofs.Common.{◌≡◌, ◌<◌, length, Some, ap, sym, ◌∙◌, arith}
use Rattle.gal_lines.specs.calls.Groups.{items_of}
use Rattle.gal_lines.proofs.Items.{item_at, items_length}
use Rattle.gal_lines.proofs.places.Sentences.of_command.Goals as goal

pub returns-clause-some : goal.returns-clause-some
returns-clause-some c =
    let held = c.self.inside.commands.items in
    let seen : length (items_of held) ≡ length c.args.self.now = ap length c.self.view_is in
    let inside : c.args.command < length held = (let n = items_length held in omega arith) in
    c.self.invariant c.args.command c.as_slice.result.now (item_at held c.args.command c.index.result.now inside c.index.ensures ∙ ap Some (sym c.as_slice.ensures.value))
