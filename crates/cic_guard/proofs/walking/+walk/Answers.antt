use Rattle.std.proofs.Common.{◌≡◌, ◌+◌, IfOk, inl, inr, [], false, length, true, ap, ap₂, sym, subst, ◌∙◌, arith}
use Rattle.cic_terms.specs.Denotes.{body_list, domain_count, shape_list, terms, tree}
use Rattle.cic_terms.specs.Tree.{child, no_child, none, one}
use Rattle.cic_terms.proofs.Children.{drop_at}
use Rattle.cic_rules.specs.Guard.{under_plain}
use Rattle.cic_counted.specs.GuardTest.{passed}
use Rattle.cic_guard.specs.calls.Rows.{argument_trees, shared_marks}
use Rattle.cic_guard.specs.calls.Walks.{flags, walk_of_chosen, walk_of_parts, walk_of_term, walked}
use Rattle.cic_guard.proofs.Depths.{body_depth, branch_depth, codomain_depth, domain_depth, domains_depth, function_depth}
use Rattle.cic_guard.proofs.Functions.{count_read}
use Rattle.cic_guard.proofs.Parts.{bodies_passed, bodies_stop, domain_passed, domain_stops, goes_on, several_without_marks, single_body, types_passed, types_stop}
use Rattle.cic_guard.proofs.walking.+walk.Goals as goal

pub walk-returns-in-Let : goal.walk-returns-in-Let
walk-returns-in-Let t c =
    let guard = c.args.guard.now in
    let marks = shared_marks c.args.row.now in
    subst (λ want. IfOk c.walk_let.result (λ w. walked guard w ≡ want))
    (ap (λ a. walk_of_parts guard marks (child none (tree a) (child none (tree c.deref-in-Let-2.result.now) (child one (tree c.deref-in-Let-3.result.now) no_child))) c.args.call) c.deref-in-Let.ensures
    ∙ ap₂ (λ a b. walk_of_parts guard marks (child none (tree c.in-Let.body.value) (child none (tree a) (child one (tree b) no_child))) c.args.call) c.deref-in-Let-2.ensures c.deref-in-Let-3.ensures
    ∙ sym (ap (λ v. walk_of_term guard marks (argument_trees c.args.arguments.now) (tree v) c.args.call) c.in-Let.is))
    c.walk_let.ensures

pub walk-returns-in-Prod : goal.walk-returns-in-Prod
walk-returns-in-Prod t c =
    let guard = c.args.guard.now in
    let marks = shared_marks c.args.row.now in
    let us = argument_trees c.args.arguments.now in
    let whole : walk_of_parts guard marks (child none (tree c.in-Prod.a.value) (child one (tree c.in-Prod.b.value) no_child)) c.args.call ≡ walk_of_term guard marks us (tree c.args.t.now) c.args.call =
    elim c.in-Prod.is [
      | inl e ↦ sym (ap (λ v. walk_of_term guard marks us (tree v) c.args.call) e)
      | inr e ↦ sym (ap (λ v. walk_of_term guard marks us (tree v) c.args.call) e)
    ] in
    subst (λ want. IfOk c.walk_binding.result (λ w. walked guard w ≡ want))
    (ap₂ (λ a b. walk_of_parts guard marks (child none (tree a) (child one (tree b) no_child)) c.args.call) c.deref-in-Prod.ensures c.deref-in-Prod-2.ensures ∙ whole)
    c.walk_binding.ensures

pub walk_all_types-walk_types-requires : goal.walk_all_types-walk_types-requires
walk_all_types-walk_types-requires t c =
    let below = function_depth (length c.args.all.now) c.args.all.now c.loop-one.one-index c.one-item.result c.loop-one-test.true c.one-item.is in
    (omega (arith, c.decreases, below), tt)

pub walk_all_types-returns-in_default : goal.walk_all_types-returns-in_default
walk_all_types-returns-in_default t c =
    types_stop c.args.guard.now (shared_marks c.args.row.now) (length c.args.all.now) c.one-item.result _ _ c.loop-one.at c.in_ok-failed.failed _
    (drop_at c.args.all.now c.loop-one.one-index c.one-item.result c.loop-one-test.true c.one-item.is)
    c.in_default.not-Passed c.in_ok-failed.ensures c.loop-one.invariant

pub walk_all_types-loop-one-preserved : goal.walk_all_types-loop-one-preserved
walk_all_types-loop-one-preserved t c =
    types_passed c.args.guard.now (shared_marks c.args.row.now) (length c.args.all.now) c.one-item.result _ _ c.loop-one.at c.in-Passed.next c.in_ok-failed.failed _
    (drop_at c.args.all.now c.loop-one.one-index c.one-item.result c.loop-one-test.true c.one-item.is)
    c.in-Passed.is c.in_ok-failed.ensures c.loop-one.invariant

pub walk_bodies-walk_single_body-requires : goal.walk_bodies-walk_single_body-requires
walk_bodies-walk_single_body-requires t c =
    let below = body_depth (length c.args.all.now) c.args.all.now 0 c.index-all-0.result (omega (arith, c.if-all-eq1.true)) c.index-all-0.is in
    (omega (arith, c.decreases, below), tt)

pub walk_bodies-returns-then-all-eq1 : goal.walk_bodies-returns-then-all-eq1
walk_bodies-returns-then-all-eq1 t c =
    let guard = c.args.guard.now in
    subst (λ want. IfOk c.walk_single_body.result (λ w. walked guard w ≡ want))
    (single_body guard (shared_marks c.args.row.now) (argument_trees c.args.arguments.now) c.args.all.now c.index-all-0.result c.args.call c.if-all-eq1.true c.index-all-0.is)
    c.walk_single_body.ensures

pub walk_bodies-returns : goal.walk_bodies-returns
walk_bodies-returns t c =
    let guard = c.args.guard.now in
    let all = c.args.all.now in
    let marks = shared_marks c.args.row.now in
    subst (λ known. IfOk c.walk_several_bodies.result (λ w. walked guard w ≡ walk_of_chosen guard marks known (flags guard false true (shape_list all)) (body_list (length all) all) c.args.call))
    (several_without_marks guard marks (argument_trees c.args.arguments.now) all c.if-all-eq1.false)
    c.walk_several_bodies.ensures

pub walk_branches-walk_branch-requires : goal.walk_branches-walk_branch-requires
walk_branches-walk_branch-requires t c =
    let known = c.in-Ok.ensures in
    let below = branch_depth c.args.branches.now c.loop-place.place c.index-branches-place.result (omega (arith, c.loop-place-test.true, known.1)) c.index-branches-place.is in
    (omega (arith, c.decreases, below), tt)

pub walk_domains-walk_under-requires : goal.walk_domains-walk_under-requires
walk_domains-walk_under-requires t c =
    let below = domain_depth 0 c.args.domains.now c.loop-i.i c.index-domains-i.result c.loop-i-test.true c.index-domains-i.is in
    (omega (arith, c.decreases, below), tt)

pub walk_domains-returns-in_default : goal.walk_domains-returns-in_default
walk_domains-returns-in_default t c =
    domain_stops c.args.guard.now (shared_marks c.args.row.now) c.loop-i.i c.index-domains-i.result _ _ c.loop-i.at c.in_ok-failed.failed _
    (drop_at c.args.domains.now c.loop-i.i c.index-domains-i.result c.loop-i-test.true c.index-domains-i.is)
    c.in_default.not-Passed c.in_ok-failed.ensures c.loop-i.invariant

pub walk_domains-loop-i-preserved : goal.walk_domains-loop-i-preserved
walk_domains-loop-i-preserved t c =
    domain_passed c.args.guard.now (shared_marks c.args.row.now) c.loop-i.i c.index-domains-i.result _ _ c.loop-i.at c.in-Passed.next c.in_ok-failed.failed _
    (drop_at c.args.domains.now c.loop-i.i c.index-domains-i.result c.loop-i-test.true c.index-domains-i.is)
    c.in-Passed.is c.in_ok-failed.ensures c.loop-i.invariant

pub walk_plain_body-returns : goal.walk_plain_body-returns
walk_plain_body-returns t c =
    let guard = c.args.guard.now in
    let marks = shared_marks c.args.row.now in
    subst (λ want. IfOk c.walk_under.result (λ w. walked guard w ≡ want))
    (ap (λ n. walk_of_term guard (under_plain (length c.args.all.now + n) marks) [] (tree c.args.one.now.body) c.args.call) (count_read c.args.one.now c.as_slice-domains.result.now c.as_slice-domains.ensures))
    c.walk_under.ensures

pub walk_several_bodies-walk_plain_body-requires : goal.walk_several_bodies-walk_plain_body-requires
walk_several_bodies-walk_plain_body-requires t c =
    let below = body_depth (length c.args.all.now) c.args.all.now c.loop-one.one-index c.one-item.result c.loop-one-test.true c.one-item.is in
    (omega (arith, c.decreases, below), tt)

pub walk_several_bodies-returns-in_default : goal.walk_several_bodies-returns-in_default
walk_several_bodies-returns-in_default t c =
    bodies_stop c.args.guard.now (shared_marks c.args.row.now) (length c.args.all.now) c.one-item.result _ _ c.loop-one.at c.in_ok-failed.failed _
    (drop_at c.args.all.now c.loop-one.one-index c.one-item.result c.loop-one-test.true c.one-item.is)
    c.in_default.not-Passed c.in_ok-failed.ensures c.loop-one.invariant

pub walk_several_bodies-loop-one-preserved : goal.walk_several_bodies-loop-one-preserved
walk_several_bodies-loop-one-preserved t c =
    bodies_passed c.args.guard.now (shared_marks c.args.row.now) (length c.args.all.now) c.one-item.result _ _ c.loop-one.at c.in-Passed.next c.in_ok-failed.failed _
    (drop_at c.args.all.now c.loop-one.one-index c.one-item.result c.loop-one-test.true c.one-item.is)
    c.in-Passed.is c.in_ok-failed.ensures c.loop-one.invariant

pub walk_types-walk_domains-requires : goal.walk_types-walk_domains-requires
walk_types-walk_domains-requires t c =
    let below = domains_depth c.args.one.now c.as_slice-domains.result.now c.as_slice-domains.ensures in
    (omega (arith, c.decreases, below), tt)

pub walk_types-walk_under-requires : goal.walk_types-walk_under-requires
walk_types-walk_under-requires t c =
    let below = codomain_depth c.args.one.now in
    (omega (arith, c.decreases, below), tt)

pub walk_types-returns-in-Passed : goal.walk_types-returns-in-Passed
walk_types-returns-in-Passed t c =
    let guard = c.args.guard.now in
    let marks = shared_marks c.args.row.now in
    let b = c.args.one.now in
    let domains : passed c.in-Passed.call ≡ walk_of_parts guard marks (terms b.domains) c.args.call =
    sym (ap (walked guard) c.in-Passed.is) ∙ c.in_ok-failed.ensures ∙ sym (ap (λ ks. walk_of_parts guard marks ks c.args.call) c.as_slice-domains.ensures) in
    subst (λ want. IfOk c.walk_under.result (λ w. walked guard w ≡ want))
    (ap (λ n. walk_of_term guard (under_plain n marks) [] (tree b.codomain) c.in-Passed.call) (count_read b c.as_slice-domains.result.now c.as_slice-domains.ensures)
    ∙ goes_on guard c.in-Passed.call (walk_of_parts guard marks (terms b.domains) c.args.call) (walk_of_term guard (under_plain (domain_count b) marks) [] (tree b.codomain)) domains)
    c.walk_under.ensures
