use Rattle.std.proofs.Common.{◌≡◌, ap, sym, ◌∙◌}
use Rattle.cic_terms.specs.Denotes.{tree, shapes, bodies}
use Rattle.cic_terms.specs.Tree.{fix}
use Rattle.cic_rules.specs.Telescopes.{head_of}
use Rattle.cic_eval.proofs.Recursion.{unfolds_by_place, unfolds_to_nothing}
use Rattle.cic_eval.proofs.judged.unfolds.Goals as goal

pub returns-in-Some : goal.returns-in-Some
returns-in-Some c =
    let known = c.in-Some.ensures.lookup in
    let at : head_of (tree c.args.f.now) ≡ fix c.in-Fix.which (shapes c.in-Fix.bodies.value) (bodies c.in-Fix.bodies.value) = sym c.head.ensures ∙ ap tree c.in-Fix.is in
    rw at
    (c.is_recursive.ensures
    ∙ sym (unfolds_by_place c.as_slice.result.now c.in-Fix.which c.in-Some.one.now _ _ _
    (ap shapes (sym c.deref.ensures) ∙ c.as_slice.ensures.shapes) (ap bodies (sym c.deref.ensures) ∙ c.as_slice.ensures.parts) known.3.0 known.1))

pub returns-in-None : goal.returns-in-None
returns-in-None c =
    let at : head_of (tree c.args.f.now) ≡ fix c.in-Fix.which (shapes c.in-Fix.bodies.value) (bodies c.in-Fix.bodies.value) = sym c.head.ensures ∙ ap tree c.in-Fix.is in
    rw at
    (sym (unfolds_to_nothing c.as_slice.result.now c.in-Fix.which _ _ _
    (ap shapes (sym c.deref.ensures) ∙ c.as_slice.ensures.shapes) (ap bodies (sym c.deref.ensures) ∙ c.as_slice.ensures.parts) c.in-None.ensures.lookup.3))
