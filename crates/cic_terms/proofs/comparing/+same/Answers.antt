use Rattle.std.proofs.Common.{◌∙◌, sym, ◌≡◌, length, arith, true≢false}
use Rattle.cic_terms.specs.declared.term.Branches.{out-Branches}
use Rattle.cic_terms.specs.declared.term.FixBodies.{out-FixBodies}
use Rattle.cic_terms.proofs.Children.{drop_at}
use Rattle.cic_terms.proofs.Rows.{branches-out}
use Rattle.cic_terms.proofs.Sameness.{branches_length, same_bodies_length, trees_length, differ, same_whole, same_cons, same_head, sorts_same}
use Rattle.cic_terms.proofs.comparing.+same.Goals as goal

pub same_bodies-returns-then-len : goal.same_bodies-returns-then-len
same_bodies-returns-then-len t c =
    let a = (out-FixBodies c.args.a.now).items in let b = (out-FixBodies c.args.b.now).items in
    differ _ _ _ _ _ c.if-len.true (sym (c.len.ensures ∙ a.ok.0)) (sym (c.len-2.ensures ∙ b.ok.0)) (same_bodies_length c.args.a.now c.args.b.now)

pub same_branches-returns-then-len : goal.same_branches-returns-then-len
same_branches-returns-then-len t c =
    let a = (out-Branches c.args.a.now).items in let b = (out-Branches c.args.b.now).items in
    differ _ _ _ _ _ c.if-len.true (sym (c.len.ensures ∙ a.ok.0)) (sym (c.len-2.ensures ∙ b.ok.0)) (branches_length c.args.a.now c.args.b.now)

pub same_branches-loop-i-init : goal.same_branches-loop-i-init
same_branches-loop-i-init t c = rw (branches-out c.args.a.now, branches-out c.args.b.now) (λ h. h, λ h. h)

pub same_terms-returns-then-len : goal.same_terms-returns-then-len
same_terms-returns-then-len t c =
    let a = c.args.a.now.items in let b = c.args.b.now.items in
    differ _ _ _ _ _ c.if-len.true (sym (c.len.ensures ∙ a.ok.0)) (sym (c.len-2.ensures ∙ b.ok.0)) (trees_length c.args.a.now c.args.b.now)

pub same_bodies-loop-i-init : goal.same_bodies-loop-i-init
same_bodies-loop-i-init t c =
    let a = (out-FixBodies c.args.a.now).items in let b = (out-FixBodies c.args.b.now).items in
    same_whole c.args.a.now c.args.b.now (sym (c.len.ensures ∙ a.ok.0) ∙ c.if-len.false ∙ c.len-2.ensures ∙ b.ok.0)

pub same_bodies-returns-then-not-same_body : goal.same_bodies-returns-then-not-same_body
same_bodies-returns-then-not-same_body t c =
    let a = (out-FixBodies c.args.a.now).items in let b = (out-FixBodies c.args.b.now).items in
    let i = c.loop-i.i in
    let m : c.len-i-end.result ≡ length a.items = c.len-i-end.ensures ∙ a.ok.0 in
    let n : length a.items ≡ length b.items = sym (c.len.ensures ∙ a.ok.0) ∙ c.if-len.false ∙ c.len-2.ensures ∙ b.ok.0 in
    let xs = drop_at a.items i c.index.result.now (omega (arith, c.loop-i-test.true, m)) c.index.ensures in
    let ys = drop_at b.items i c.index-in-loop-i.result.now (omega (arith, c.loop-i-test.true, m, n)) c.index-in-loop-i.ensures in (
      λ z. absurd (true≢false (sym z)),
      λ s.
          let k = same_head _ _ _ _ _ _ _ xs ys (c.loop-i.invariant.1 s) in
          sym c.if-not-same_body.true ∙ c.same_body.ensures.1 k,
    )

pub same_bodies-loop-i-preserved : goal.same_bodies-loop-i-preserved
same_bodies-loop-i-preserved t c =
    let a = (out-FixBodies c.args.a.now).items in let b = (out-FixBodies c.args.b.now).items in
    let i = c.loop-i.i in
    let m : c.len-i-end.result ≡ length a.items = c.len-i-end.ensures ∙ a.ok.0 in
    let n : length a.items ≡ length b.items = sym (c.len.ensures ∙ a.ok.0) ∙ c.if-len.false ∙ c.len-2.ensures ∙ b.ok.0 in
    let xs = drop_at a.items i c.index.result.now (omega (arith, c.loop-i-test.true, m)) c.index.ensures in
    let ys = drop_at b.items i c.index-in-loop-i.result.now (omega (arith, c.loop-i-test.true, m, n)) c.index-in-loop-i.ensures in
    let step = same_cons (length a.items) _ _ _ _ _ _ xs ys (c.same_body.ensures.0 c.if-not-same_body.false) in
    (λ h. c.loop-i.invariant.0 (step.1 h), λ s. step.0 (c.loop-i.invariant.1 s))

pub same-returns-in-Sort-Sort : goal.same-returns-in-Sort-Sort
same-returns-in-Sort-Sort t c = sorts_same _ _ c.in-Sort-Sort.s c.in-Sort-Sort.u _ c.in-Sort-Sort.is-0 c.in-Sort-Sort.is-1 c.eq.ensures
