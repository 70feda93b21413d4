use Rattle.std.proofs.Common.{Some, ap, ap₂, sym, ◌∙◌}
use Rattle.std.proofs.lemmas.Result.{err_from_is_err_and}
use Rattle.cic_terms.specs.Denotes.{shapes, bodies}
use Rattle.cic_spines.specs.Lists.{shared_trees}
use Rattle.cic_spines.specs.calls.Unfoldings.{full_body_with}
use Rattle.cic_spines.proofs.Selected.{made_if_any, refused_if_any, none_if_none}
use Rattle.cic_spines.proofs.FixParts.{unfolds_to, no_unfolding}
use Rattle.cic_spines.proofs.fixes.unfolded.Goals as goal

pub returns-in-None : goal.returns-in-None
returns-in-None c =
    none_if_none 4000 _
    (no_unfolding c.as_slice.result.now c.args.which _ _ (ap shapes (sym c.deref.ensures) ∙ c.as_slice.ensures.shapes)
    (ap bodies (sym c.deref.ensures) ∙ c.as_slice.ensures.parts) c.in-None.ensures.lookup.3)

pub returns-in_ok-unfold_with-in-Some : goal.returns-in_ok-unfold_with-in-Some
returns-in_ok-unfold_with-in-Some c =
    let known = c.in-Some.ensures.lookup in
    let whole =
    unfolds_to c.as_slice.result.now c.args.which c.in-Some.one.now _ _ (ap shapes (sym c.deref.ensures) ∙ c.as_slice.ensures.shapes)
    (ap bodies (sym c.deref.ensures) ∙ c.as_slice.ensures.parts) known.3.0
    ∙ ap Some (ap₂ full_body_with (sym (ap shared_trees c.as_slice-in-Some.ensures.value ∙ c.in_ok-fixes-in-Some.ensures)) (sym known.1)) in
    made_if_any 4000 _ _ _ whole c.in_ok-unfold_with-in-Some.ensures

pub returns-in_err-unfold_with-in-Some : goal.returns-in_err-unfold_with-in-Some
returns-in_err-unfold_with-in-Some c =
    let known = c.in-Some.ensures.lookup in
    let p = err_from_is_err_and c.from_residual-in_err-unfold_with-in-Some.result c.from_residual-in_err-unfold_with-in-Some.ensures.1 in
    let whole =
    unfolds_to c.as_slice.result.now c.args.which c.in-Some.one.now _ _ (ap shapes (sym c.deref.ensures) ∙ c.as_slice.ensures.shapes)
    (ap bodies (sym c.deref.ensures) ∙ c.as_slice.ensures.parts) known.3.0
    ∙ ap Some (ap₂ full_body_with (sym (ap shared_trees c.as_slice-in-Some.ensures.value ∙ c.in_ok-fixes-in-Some.ensures)) (sym known.1)) in
    rw (p.1, p.2) (refused_if_any 4000 _ _ _ whole c.in_err-unfold_with-in-Some.ensures)
