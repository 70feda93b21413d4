use Rattle.std.proofs.Common.{◌≡◌, ◌+◌, ◌<◌, ◌^◌, ◌++◌, drop, length, ap, sym, ◌∙◌, subst, arith}
use Rattle.cic_terms.specs.Denotes.{tree, branches, bodies, shapes, branch_list, body_list}
use Rattle.cic_terms.specs.Sizes.{depth_tree, depth_children}
use Rattle.cic_terms.proofs.Children.{drop_at}
use Rattle.term_format.specs.Spelling.{count_of, term_bytes}
use Rattle.term_format.specs.Storable.{HasRow, HaveRows, AreBranches, FewDomains}
use Rattle.term_codec.proofs.Written.{shape_count, writable}
use Rattle.term_codec.proofs.WrittenParts.{on_ok, count_list, case_depth, case_written, fix_written, same_count, function_written, first_of_list, function_appended}
use Rattle.term_codec.proofs.writing_terms.+writing.Goals as goal

pub put_case-put_branches-requires : goal.put_case-put_branches-requires
put_case-put_branches-requires t c =
    let all = c.as_slice.result.now in
    let row = subst HasRow (ap tree c.in-Case.is) c.requires.row in
    let e : branches c.in-Case.branches.value ≡ branch_list all = ap branches (sym c.deref-3.ensures) ∙ c.as_slice.ensures in
    let n : count_of (branches c.in-Case.branches.value) ≡ length all = ap count_of e ∙ count_list all in
    let few : length all < 2 ^ 32 = subst (λ k. k < 2 ^ 32) n row.4 in
    let deep : depth_children (branch_list all) < depth_tree (tree c.args.t.now) = subst (λ x. depth_children (branch_list all) < depth_tree x) (sym (ap tree c.in-Case.is)) (case_depth c.in-Case.ind c.in-Case.arity (tree c.in-Case.motive.value) (tree c.in-Case.scrutinee.value) (branches c.in-Case.branches.value) (branch_list all) e) in
    (omega (arith, c.decreases, deep), (few, subst AreBranches e row.5))

pub put_case-returns : goal.put_case-returns
put_case-returns t c =
    let all = c.as_slice.result.now in
    let e : branches c.in-Case.branches.value ≡ branch_list all = ap branches (sym c.deref-3.ensures) ∙ c.as_slice.ensures in
    on_ok c.put_branches.result
    (λ last. case_written _ _ _ _ _ _ c.in-Case.ind c.in-Case.arity _ (tree c.in-Case.motive.value) _ (tree c.in-Case.scrutinee.value) (branches c.in-Case.branches.value) (branch_list all) (length all)
    (ap tree c.deref.ensures) (ap tree c.deref-2.ensures) e (count_list all)
    c.in_ok-put_global.ensures c.in_ok-put_number.ensures c.in_ok-put_term.ensures c.in_ok-put_term-2.ensures last
    ∙ ap (λ z. c.args.bytes.now.items ++ term_bytes z) (sym (ap tree c.in-Case.is)))
    c.put_branches.ensures

pub put_fix-overflow_cast-each : goal.put_fix-overflow_cast-each
put_fix-overflow_cast-each t c =
    let all = c.as_slice-each.result.now in
    let few : length (shapes c.args.all.now) < 2 ^ 32 = c.requires.0.few in
    let n : length (shapes c.args.all.now) ≡ length all = ap length c.as_slice-each.ensures.shapes ∙ shape_count all in
    omega (arith, few, n)

pub put_fix-put_functions-requires : goal.put_fix-put_functions-requires
put_fix-put_functions-requires t c =
    let all = c.as_slice-each.result.now in
    let d : depth_children (bodies c.args.all.now) ≡ depth_children (body_list (length all) all) = ap depth_children c.as_slice-each.ensures.parts in
    (omega (arith, c.decreases, d), writable (length all) all (subst HaveRows c.as_slice-each.ensures.parts c.requires.1) (subst FewDomains c.as_slice-each.ensures.shapes c.requires.0.few_domains))

pub put_fix-returns : goal.put_fix-returns
put_fix-returns t c =
    on_ok c.put_functions.result
    (λ last. fix_written _ _ _ _ _ c.args.which (shapes c.args.all.now) (bodies c.args.all.now) c.as_slice-each.result.now c.as_slice-each.ensures.shapes c.as_slice-each.ensures.parts
    c.in_ok-put_byte.ensures c.in_ok-put_number.ensures c.in_ok-put_number-2.ensures last)
    c.put_functions.ensures

pub put_function-overflow_cast-domains : goal.put_function-overflow_cast-domains
put_function-overflow_cast-domains t c =
    let few = c.requires.few in
    let n = same_count c.args.one.now.domains c.as_slice-domains.result.now c.as_slice-domains.ensures in
    omega (arith, few, n)

pub put_function-returns : goal.put_function-returns
put_function-returns t c =
    on_ok c.put_term-2.result
    (λ last. function_written _ _ _ _ _ _ c.args.one.now c.as_slice-domains.result.now c.as_slice-domains.ensures
    c.in_ok-put_number.ensures c.in_ok-put_number-2.ensures c.in_ok-put_domains.ensures c.in_ok-put_term.ensures last)
    c.put_term-2.ensures

pub put_functions-put_function-requires : goal.put_functions-put_function-requires
put_functions-put_function-requires t c =
    let all = c.args.all.now in
    let e = drop_at all c.loop-one.one-index c.one-item.result c.loop-one-test.true c.one-item.is in
    let f = first_of_list (length all) (depth_children (body_list (length all) all)) c.one-item.result (drop (c.loop-one.one-index + 1) all) (drop c.loop-one.one-index all) e c.loop-one.invariant.writable c.loop-one.invariant.deep in
    let here = f.here in
    (omega (arith, c.decreases, here), f.writable)

pub put_functions-loop-one-preserved : goal.put_functions-loop-one-preserved
put_functions-loop-one-preserved t c =
    let all = c.args.all.now in
    let e = drop_at all c.loop-one.one-index c.one-item.result c.loop-one-test.true c.one-item.is in
    let f = first_of_list (length all) (depth_children (body_list (length all) all)) c.one-item.result (drop (c.loop-one.one-index + 1) all) (drop c.loop-one.one-index all) e c.loop-one.invariant.writable c.loop-one.invariant.deep in
    record {
      writable = f.others;
      deep = f.later;
      left = function_appended c.args.bytes.now.items c.loop-one.bytes.items _ c.one-item.result (drop (c.loop-one.one-index + 1) all) (drop c.loop-one.one-index all) _ e c.loop-one.invariant.left c.in_ok-put_function.ensures;
    }
