use Rattle.std.proofs.Common.{◌≡◌, ◌+◌, length, ap, sym, ◌∙◌, arith, rules}
use Rattle.cic_names.specs.Sameness.{same_id}
use Rattle.cic_terms.specs.Denotes.{bodies, branches, shapes, tree}
use Rattle.cic_counted.specs.Evaluation.{conv_from}
use Rattle.cic_env.specs.Contexts.{context}
use Rattle.cic_env.specs.Environments.{items}
use Rattle.cic_work.specs.calls.Counting.{budget}
use Rattle.cic_conv.proofs.Alike.{as_many, shapes_count}
use Rattle.cic_conv.proofs.Fixes.{fixes_compare}
use Rattle.cic_conv.proofs.conversion.+conv.Goals as goal

pub compare_fixes-conv_functions-requires : goal.compare_fixes-conv_functions-requires
compare_fixes-conv_functions-requires t c =
    let count = shapes_count c.as_slice-xs.result.now c.as_slice-ys.result.now (sym c.same_shapes.ensures ∙ c.if-not-same_shapes.false) in
    (search rules, (omega arith, count))

pub compare_fixes-returns-clause-answer : goal.compare_fixes-returns-clause-answer
compare_fixes-returns-clause-answer t c =
    let left = ap tree c.in-Fix-Fix.is-0 in
    let right = ap tree c.in-Fix-Fix.is-1 in
    let which : c.in-Fix-Fix.which ≡ c.in-Fix-Fix.other = omega (arith, c.if-which-other.false) in
    let same =
    fixes_compare (conv_from (c.args.work.now.depth + 1) (items c.args.env.now)) (context c.args.ctx.now) c.in-Fix-Fix.which c.in-Fix-Fix.other
    c.as_slice-xs.result.now c.as_slice-ys.result.now
    (shapes c.in-Fix-Fix.bodies.value) (shapes c.in-Fix-Fix.others.value) (bodies c.in-Fix-Fix.bodies.value) (bodies c.in-Fix-Fix.others.value) (budget c.args.work.now)
    (ap shapes (sym c.deref.ensures) ∙ c.as_slice-xs.ensures.shapes) (ap bodies (sym c.deref.ensures) ∙ c.as_slice-xs.ensures.parts)
    (ap shapes (sym c.deref-in-Fix-Fix.ensures) ∙ c.as_slice-ys.ensures.shapes) (ap bodies (sym c.deref-in-Fix-Fix.ensures) ∙ c.as_slice-ys.ensures.parts)
    which (sym c.same_shapes.ensures ∙ c.if-not-same_shapes.false) in
    rw (left, right, same) c.conv_functions.ensures.answer

pub compare_matches-conv_branches-requires : goal.compare_matches-conv_branches-requires
compare_matches-conv_branches-requires t c =
    let alike = sym c.same_matches.ensures ∙ c.if-not-same_matches.false in
    let count : length c.as_slice.result.now ≡ length c.as_slice-in-Case-Case.result.now =
    as_many (same_id c.in-Case-Case.ind-0 c.in-Case-Case.ind-1) c.in-Case-Case.arity c.in-Case-Case.arity-1 c.in-Case-Case.xs.value c.in-Case-Case.ys.value c.as_slice.result.now c.as_slice-in-Case-Case.result.now
    (ap branches (sym c.deref.ensures) ∙ c.as_slice.ensures) (ap branches (sym c.deref-in-Case-Case.ensures) ∙ c.as_slice-in-Case-Case.ensures)
    (rw (c.in-Case-Case.is-0, c.in-Case-Case.is-1) at alike) in
    (search rules, (omega arith, count))
