use Rattle.std.proofs.Common.{sym, ◌∙◌}
use Rattle.cic_terms.specs.Denotes.{tree}
use Rattle.gal_raw.specs.Denotes.{binder}
use Rattle.elab_matches.proofs.Places.{names_few, names_named, names_fit}
use Rattle.elab_matches.proofs.arguments.names_at.Goals as goal

pub returns-then-binders-parameters : goal.returns-then-binders-parameters
returns-then-binders-parameters c =
    names_few binder c.args.name.now c.args.parameters c.in_ok-further.field-0 (tree c.args.ty.now) c.args.binders.now c.in_ok-further.ensures c.if-binders-parameters.true

pub returns-then-not-are_blank : goal.returns-then-not-are_blank
returns-then-not-are_blank c =
    names_named binder c.args.name.now c.args.parameters c.in_ok-further.field-0 (tree c.args.ty.now) c.args.binders.now c.in_ok-further.ensures c.if-binders-parameters.false
    (sym c.are_blank.ensures ∙ c.if-not-are_blank.true)

pub returns : goal.returns
returns c =
    names_fit binder c.args.name.now c.args.parameters c.in_ok-further.field-0 (tree c.args.ty.now) c.args.binders.now c.in_ok-further.ensures c.if-binders-parameters.false
    (sym c.are_blank.ensures ∙ c.if-not-are_blank.false)
