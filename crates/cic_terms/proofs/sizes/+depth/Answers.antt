use Rattle.std.proofs.Common.{◌+◌, List, drop, ap, sym, ◌∙◌, arith}
use Rattle.cic_terms.specs.Denotes.{branch_list, body_list, term_list, body_parts}
use Rattle.cic_terms.specs.Sizes.{depth_children}
use Rattle.cic_terms.specs.declared.term.Term.{Term}
use Rattle.cic_terms.specs.declared.term.Branch.{Branch}
use Rattle.cic_terms.specs.declared.term.FixBody.{FixBody}
use Rattle.cic_terms.proofs.Rows.{branches-out}
use Rattle.cic_terms.proofs.Children.{drop_at, drop_whole, depth_join}
use Rattle.cic_terms.proofs.Most.{depth_bodies_are, depth_parts, most_step}
use Rattle.cic_terms.proofs.sizes.+depth.Goals as goal

pub bodies_depth-loop-one-init : goal.bodies_depth-loop-one-init
bodies_depth-loop-one-init t c =
    let e = depth_bodies_are c.args.all.now c.deref-one-items.result.now c.deref-one-items.ensures.value in omega arith

pub bodies_depth-loop-one-preserved : goal.bodies_depth-loop-one-preserved
bodies_depth-loop-one-preserved t c =
    let e = ap (λ (l : List FixBody). depth_children (body_list 0 l)) (drop_at c.deref-one-items.result.now c.loop-one.one-index c.one-item.result c.loop-one-test.true c.one-item.is) in
    let f = depth_join (body_parts 0 c.one-item.result) (body_list 0 (drop (c.loop-one.one-index + 1) c.deref-one-items.result.now)) in
    rw c.max-most.ensures (most_step _ _ _ _ _ _ _ (e ∙ f) c.body_depth.ensures c.loop-one.invariant)

pub bodies_depth-returns : goal.bodies_depth-returns
bodies_depth-returns t c =
    let e = ap (λ (l : List FixBody). depth_children (body_list 0 l)) (drop_whole c.deref-one-items.result.now c.loop-one.one-index c.loop-one-test.false) in omega arith

pub body_depth-returns : goal.body_depth-returns
body_depth-returns t c = rw depth_parts (omega arith)

pub branches_depth-loop-branch-init : goal.branches_depth-loop-branch-init
branches_depth-loop-branch-init t c =
    let e = ap depth_children (branches-out c.args.all.now ∙ ap branch_list (sym c.deref-branch-items.ensures.value)) in omega arith

pub branches_depth-loop-branch-preserved : goal.branches_depth-loop-branch-preserved
branches_depth-loop-branch-preserved t c =
    let e = ap (λ (l : List Branch). depth_children (branch_list l)) (drop_at c.deref-branch-items.result.now c.loop-branch.branch-index c.branch-item.result c.loop-branch-test.true c.branch-item.is) in omega arith

pub branches_depth-returns : goal.branches_depth-returns
branches_depth-returns t c =
    let e = ap (λ (l : List Branch). depth_children (branch_list l)) (drop_whole c.deref-branch-items.result.now c.loop-branch.branch-index c.loop-branch-test.false) in omega arith

pub terms_depth-loop-term-init : goal.terms_depth-loop-term-init
terms_depth-loop-term-init t c =
    let e = ap (λ (l : List Term). depth_children (term_list 0 l)) c.deref-term-items.ensures.value in omega arith

pub terms_depth-loop-term-preserved : goal.terms_depth-loop-term-preserved
terms_depth-loop-term-preserved t c =
    let e = ap (λ (l : List Term). depth_children (term_list c.loop-term.term-index l)) (drop_at c.deref-term-items.result.now c.loop-term.term-index c.term-item.result c.loop-term-test.true c.term-item.is) in omega arith

pub terms_depth-returns : goal.terms_depth-returns
terms_depth-returns t c =
    let e = ap (λ (l : List Term). depth_children (term_list c.loop-term.term-index l)) (drop_whole c.deref-term-items.result.now c.loop-term.term-index c.loop-term-test.false) in omega arith
