use Rattle.std.proofs.Common.{sym, ap, ◌∙◌, eqb-true}
use Rattle.std.specs.Prelude.{None}
use Rattle.std.proofs.lemmas.Bool.{eqb-false}
use Rattle.gal_raw.specs.Denotes.{tree}
use Rattle.gal_raw.proofs.Rows.{application_roll}
use Rattle.gal_scoping.specs.Matches.{value_name}
use Rattle.elab_matches.proofs.Reading.{as_head, unnamed}
use Rattle.elab_matches.proofs.values.+single_name.Goals as goal

pub returns-then-is_empty : goal.returns-then-is_empty
returns-then-is_empty n c =
    let x = c.in-Application.applied in
    let whole = ap tree c.in-Application.is ∙ application_roll x ∙ c.arguments.ensures in
    c.single_name.ensures ∙ ap (λ r. value_name (tree r) None) c.deref.ensures
    ∙ sym (as_head (tree c.args.value.now) (tree x.head.value) c.arguments.result.now whole (eqb-true _ _ (sym c.is_empty.ensures ∙ c.if-is_empty.true)))

pub returns-else-is_empty : goal.returns-else-is_empty
returns-else-is_empty n c =
    let x = c.in-Application.applied in
    let whole = ap tree c.in-Application.is ∙ application_roll x ∙ c.arguments.ensures in
    sym (unnamed (tree c.args.value.now) (tree x.head.value) c.arguments.result.now whole (eqb-false _ _ (sym c.is_empty.ensures ∙ c.if-is_empty.false)))
