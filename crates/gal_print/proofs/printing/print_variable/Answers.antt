-- A variable is a binder, which is marked, or stands for none.
use Rattle.std.proofs.Common.{◌<◌, true, refl, sym, ap, ◌∙◌, arith}
use Rattle.std.specs.Vec.{with_item}
use Rattle.gal_print.specs.calls.Names.{numbers, next_number, variable}
use Rattle.gal_print.specs.declared.output.Output.{Output}
use Rattle.gal_print.proofs.Numbers.{ordered_descends}
use Rattle.gal_print.proofs.Fronts.{on_ok_more}
use Rattle.gal_print.proofs.Calls.{bound_below, bound_arm, free_arm}
use Rattle.gal_print.proofs.printing.print_variable.Goals as goal

pub index_mut-requires : goal.index_mut-requires
index_mut-requires c =
    let below : c.in-Bound.number < next_number c.args.names.now =
    bound_below (next_number c.args.names.now) c.in-Bound.number c.args.x (numbers c.args.names.now) (ordered_descends c.args.names.now c.requires.ordered)
    (sym c.in-Bound.is ∙ c.find.ensures ∙ ap (variable (numbers c.args.names.now)) c.from.ensures) in
    omega (arith, below, c.requires.next, c.args.out.now.used.ok.0)

pub returns-in-Bound-clause-printed : goal.returns-in-Bound-clause-printed
returns-in-Bound-clause-printed c =
    let below : c.in-Bound.number < next_number c.args.names.now =
    bound_below (next_number c.args.names.now) c.in-Bound.number c.args.x (numbers c.args.names.now) (ordered_descends c.args.names.now c.requires.ordered)
    (sym c.in-Bound.is ∙ c.find.ensures ∙ ap (variable (numbers c.args.names.now)) c.from.ensures) in
    on_ok_more c.put.result c.put.ensures.puts
    (bound_arm (next_number c.args.names.now) c.in-Bound.number c.args.x (numbers c.args.names.now) c.args.out.now
    (let mid : Output = record { pieces = c.args.out.now.pieces; used = with_item c.args.out.now.used c.in-Bound.number true } in mid) _
    (ordered_descends c.args.names.now c.requires.ordered)
    (sym c.in-Bound.is ∙ c.find.ensures ∙ ap (variable (numbers c.args.names.now)) c.from.ensures)
    (omega (arith, below, c.requires.next)) refl refl)

pub returns-in-Free-clause-printed : goal.returns-in-Free-clause-printed
returns-in-Free-clause-printed c =
    on_ok_more c.put-in-Free.result c.put-in-Free.ensures.puts
    (free_arm (next_number c.args.names.now) c.in-Free.x c.args.x (numbers c.args.names.now) _ _ (ordered_descends c.args.names.now c.requires.ordered)
    (sym c.in-Free.is ∙ c.find.ensures ∙ ap (variable (numbers c.args.names.now)) c.from.ensures))
