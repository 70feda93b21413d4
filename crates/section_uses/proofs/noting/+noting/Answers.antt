use Rattle.std.proofs.Common.{◌++◌, List, length, ap, sym, arith}
use Rattle.cic_terms.specs.Tree.{Children}
use Rattle.cic_terms.specs.Sizes.{depth_children}
use Rattle.cic_terms.specs.Denotes.{branch_list, term_list, body_list, body_parts}
use Rattle.cic_terms.specs.declared.term.Term.{Term}
use Rattle.cic_terms.specs.declared.term.Branch.{Branch}
use Rattle.cic_terms.specs.declared.term.FixBody.{FixBody}
use Rattle.cic_terms.proofs.Children.{drop_at, drop_whole}
use Rattle.section_terms.specs.Names.{names_in_parts}
use Rattle.section_uses.proofs.Noted.{note_more, note_joined, note_end, part_depth, joined_depth, body_names_any, body_depth_any, body_noted, body_depths}
use Rattle.section_uses.proofs.noting.+noting.Goals as goal

pub note_branches-loop-branch-init : goal.note_branches-loop-branch-init
note_branches-loop-branch-init t c =
    let e = sym c.as_slice-old.ensures in (
      ap (λ (ks : Children). c.args.names.now.items ++ names_in_parts ks) e,
      omega (arith, ap depth_children e),
    )

pub note_branches-loop-branch-preserved : goal.note_branches-loop-branch-preserved
note_branches-loop-branch-preserved t c =
    let at = ap (λ (l : List Branch). branch_list l) (drop_at c.as_slice-old.result.now c.loop-branch.branch-index c.branch-item.result c.loop-branch-test.true c.branch-item.is) in (
      note_more _ _ _ _ _ _ _ c.loop-branch.invariant.0 at c.in_ok-note_names.ensures,
      omega (arith, (part_depth _ _ _ _ at).1, c.loop-branch.invariant.1),
    )

pub note_branches-returns : goal.note_branches-returns
note_branches-returns t c =
    let none = ap (λ (l : List Branch). branch_list l) (drop_whole c.as_slice-old.result.now c.loop-branch.branch-index c.loop-branch-test.false) in
    note_end _ _ _ none c.loop-branch.invariant.0

pub note_branches-note_names-requires : goal.note_branches-note_names-requires
note_branches-note_names-requires t c =
    let at = ap (λ (l : List Branch). branch_list l) (drop_at c.as_slice-old.result.now c.loop-branch.branch-index c.branch-item.result c.loop-branch-test.true c.branch-item.is) in
    omega (arith, (part_depth _ _ _ _ at).0, c.loop-branch.invariant.1, c.decreases)

pub note_terms-loop-term-init : goal.note_terms-loop-term-init
note_terms-loop-term-init t c =
    let e = sym c.as_slice-old.ensures in (
      ap (λ (ks : Children). c.args.names.now.items ++ names_in_parts ks) e,
      omega (arith, ap depth_children e),
    )

pub note_terms-loop-term-preserved : goal.note_terms-loop-term-preserved
note_terms-loop-term-preserved t c =
    let at = ap (λ (l : List Term). term_list c.loop-term.term-index l) (drop_at c.as_slice-old.result.now c.loop-term.term-index c.term-item.result c.loop-term-test.true c.term-item.is) in (
      note_more _ _ _ _ _ _ _ c.loop-term.invariant.0 at c.in_ok-note_names.ensures,
      omega (arith, (part_depth _ _ _ _ at).1, c.loop-term.invariant.1),
    )

pub note_terms-returns : goal.note_terms-returns
note_terms-returns t c =
    let none = ap (λ (l : List Term). term_list c.loop-term.term-index l) (drop_whole c.as_slice-old.result.now c.loop-term.term-index c.loop-term-test.false) in
    note_end _ _ _ none c.loop-term.invariant.0

pub note_terms-note_names-requires : goal.note_terms-note_names-requires
note_terms-note_names-requires t c =
    let at = ap (λ (l : List Term). term_list c.loop-term.term-index l) (drop_at c.as_slice-old.result.now c.loop-term.term-index c.term-item.result c.loop-term-test.true c.term-item.is) in
    omega (arith, (part_depth _ _ _ _ at).0, c.loop-term.invariant.1, c.decreases)

pub note_bodies-loop-one-init : goal.note_bodies-loop-one-init
note_bodies-loop-one-init t c =
    let e = sym c.as_slice-old.ensures.parts in (
      ap (λ (ks : Children). c.args.names.now.items ++ names_in_parts ks) e,
      omega (arith, ap depth_children e),
    )

pub note_bodies-loop-one-preserved : goal.note_bodies-loop-one-preserved
note_bodies-loop-one-preserved t c =
    let old = c.as_slice-old.result.now in
    let at = ap (λ (l : List FixBody). body_list (length old) l) (drop_at old c.loop-one.one-index c.one-item.result c.loop-one-test.true c.one-item.is) in (
      note_joined _ _ _ _ (body_parts (length old) c.one-item.result) _ _ c.loop-one.invariant.0 at c.in_ok-note_body.ensures (body_names_any (length old) c.one-item.result),
      omega (arith, (joined_depth (body_parts (length old) c.one-item.result) _ _ at).1, c.loop-one.invariant.1),
    )

pub note_bodies-returns : goal.note_bodies-returns
note_bodies-returns t c =
    let old = c.as_slice-old.result.now in
    let none = ap (λ (l : List FixBody). body_list (length old) l) (drop_whole old c.loop-one.one-index c.loop-one-test.false) in
    note_end _ _ _ none c.loop-one.invariant.0

pub note_bodies-note_body-requires : goal.note_bodies-note_body-requires
note_bodies-note_body-requires t c =
    let old = c.as_slice-old.result.now in
    let at = ap (λ (l : List FixBody). body_list (length old) l) (drop_at old c.loop-one.one-index c.one-item.result c.loop-one-test.true c.one-item.is) in
    omega (arith, (joined_depth (body_parts (length old) c.one-item.result) _ _ at).0, body_depth_any (length old) c.one-item.result, c.loop-one.invariant.1, c.decreases)

pub note_body-note_terms-requires : goal.note_body-note_terms-requires
note_body-note_terms-requires t c = omega (arith, (body_depths c.args.one.now).0, c.decreases)

pub note_body-note_names-requires : goal.note_body-note_names-requires
note_body-note_names-requires t c = omega (arith, (body_depths c.args.one.now).1, c.decreases)

pub note_body-note_names-requires-2 : goal.note_body-note_names-requires-2
note_body-note_names-requires-2 t c = omega (arith, (body_depths c.args.one.now).2, c.decreases)

pub note_body-returns : goal.note_body-returns
note_body-returns t c =
    body_noted c.args.names.now.items _ _ _ 0 c.args.one.now c.in_ok-note_terms.ensures c.in_ok-note_names.ensures c.in_ok-note_names-2.ensures
