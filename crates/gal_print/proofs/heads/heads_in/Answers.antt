-- What is told of the type at a place.
use Rattle.std.proofs.Common.{sym, ap, ◌∙◌, ltb-true, ltb-false}
use Rattle.std.specs.Prelude.{is_some}
use Rattle.gal_print.specs.Heads.{heads_of_type}
use Rattle.gal_print.proofs.Shown.{type_at_place, no_type_at_place}
use Rattle.gal_print.proofs.heads.heads_in.Goals as goal

pub returns-in-Some : goal.returns-in-Some
returns-in-Some c =
    c.heads_of_one.ensures
    ∙ ap (heads_of_type c.args.b.now.params c.args.branches)
    (sym (type_at_place c.deref.result.now c.args.b.now.types.items c.args.index c.in-Some.ty.now c.deref.ensures.value
    (ltb-true _ _ (sym c.get.ensures.lookup.0 ∙ ap is_some c.in-Some.is)) c.in-Some.ensures.lookup.1))

pub returns-in-None : goal.returns-in-None
returns-in-None c =
    c.unknown_heads.ensures
    ∙ ap (heads_of_type c.args.b.now.params c.args.branches)
    (sym (no_type_at_place c.deref.result.now c.args.b.now.types.items c.args.index c.deref.ensures.value
    (ltb-false _ _ (sym c.get.ensures.lookup.0 ∙ ap is_some c.in-None.is))))
