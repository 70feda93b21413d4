use Rattle.std.proofs.Common.{◌+◌, List, length, drop, ◌++◌, ap, sym, ◌∙◌, arith}
use Rattle.std.proofs.lemmas.Result.{err_from_is_err_and}
use Rattle.cic_terms.specs.Denotes.{terms, branch_list, body_list, term_list, shape_list, body_parts}
use Rattle.cic_terms.specs.Tree.{child, many}
use Rattle.cic_terms.specs.declared.term.Term.{Term}
use Rattle.cic_terms.specs.declared.term.Branch.{Branch}
use Rattle.cic_terms.specs.declared.term.FixBody.{FixBody}
use Rattle.cic_terms.proofs.Rows.{shapes_more, fits_parts}
use Rattle.cic_terms.proofs.Gathered.{take_more, take_length}
use Rattle.cic_terms.proofs.Limits.{no_room}
use Rattle.cic_terms.proofs.Children.{drop_at, drop_whole, children_begin, children_more, children_refused, kid_fits, fits_kid, second_fits}
use Rattle.section_terms.specs.Names.{replace_in_parts}
use Rattle.section_walks.proofs.Parts.{replace_join, replace_parts, count_replaced, domains_counted, branches_still, terms_still, bodies_still, function_added, branches_made, terms_made, bodies_made}
use Rattle.section_walks.proofs.walking.+walk.Goals as goal

-- Branches
pub walk_all_branches-loop-branch-init : goal.walk_all_branches-loop-branch-init
walk_all_branches-loop-branch-init g t c =
    let none = ap branch_list c.new-made.ensures.items in (
      children_begin _ _ _ _ none (ap (replace_in_parts (g.A.Becoming.becomes c.args.action.now) (g.A.Becoming.by c.args.action.now) c.args.at) (sym c.as_slice-old.ensures)),
      λ _. none,
    )

pub walk_all_branches-returns-in_err-new : goal.walk_all_branches-returns-in_err-new
walk_all_branches-returns-in_err-new g t c =
    let p = err_from_is_err_and c.from_residual.result c.from_residual.ensures.1 in
    let now = ap (λ (l : List Branch). replace_in_parts (g.A.Becoming.becomes c.args.action.now) (g.A.Becoming.by c.args.action.now) c.args.at (branch_list l)) (drop_at c.as_slice-old.result.now c.loop-branch.branch-index c.branch-item.result c.loop-branch-test.true c.branch-item.is) in
    rw (p.1, p.2) (record { ok = tt; fits = tt; deep = λ d. children_refused _ _ _ _ _ _ c.loop-branch.invariant.0 now (λ h. c.in_err-new.ensures.deep d (fits_kid _ _ _ h)) })

pub walk_all_branches-loop-branch-preserved : goal.walk_all_branches-loop-branch-preserved
walk_all_branches-loop-branch-preserved g t c =
    let old = c.as_slice-old.result.now in
    let i = c.loop-branch.branch-index in
    let x = c.branch-item.result in
    let now = ap (λ (l : List Branch). replace_in_parts (g.A.Becoming.becomes c.args.action.now) (g.A.Becoming.by c.args.action.now) c.args.at (branch_list l)) (drop_at old i x c.loop-branch-test.true c.branch-item.is) in
    let made = c.in_ok-changed.ensures in (
      children_more _ _ _ _ _ _ _ c.loop-branch.invariant.0 (now ∙ ap (λ z. child (many x.binders) z (replace_in_parts (g.A.Becoming.becomes c.args.action.now) (g.A.Becoming.by c.args.action.now) c.args.at (branch_list (drop (i + 1) old)))) (sym c.in_ok-new.ensures.ok)) made.added (rw c.in_ok-new.ensures.ok (kid_fits _ _ _ c.in_ok-new.ensures.fits)),
      branches_still _ _ old i x _ _ _ made.added (take_more old i x c.loop-branch-test.true c.branch-item.is) made.changed c.loop-branch.invariant.1,
    )

-- Terms
pub walk_all_terms-loop-above-init : goal.walk_all_terms-loop-above-init
walk_all_terms-loop-above-init g t c =
    let none = ap (term_list 0) c.new-made.ensures.items in (
      ap length c.new-made.ensures.items,
      children_begin _ _ _ _ none (ap (replace_in_parts (g.A.Becoming.becomes c.args.action.now) (g.A.Becoming.by c.args.action.now) c.args.at) (sym c.as_slice-old.ensures)),
      λ _. none,
    )

pub walk_all_terms-returns-in_err-new : goal.walk_all_terms-returns-in_err-new
walk_all_terms-returns-in_err-new g t c =
    let p = err_from_is_err_and c.from_residual.result c.from_residual.ensures.1 in
    let now = ap (λ (l : List Term). replace_in_parts (g.A.Becoming.becomes c.args.action.now) (g.A.Becoming.by c.args.action.now) c.args.at (term_list c.loop-above.above l)) (drop_at c.as_slice-old.result.now c.loop-above.above c.index-old-above.result c.loop-above-test.true c.index-old-above.is) in
    rw (p.1, p.2) (record { ok = tt; fits = tt; deep = λ d. children_refused _ _ _ _ _ _ c.loop-above.invariant.1 now (λ h. c.in_err-new.ensures.deep d (fits_kid _ _ _ h)) })

pub walk_all_terms-loop-above-preserved : goal.walk_all_terms-loop-above-preserved
walk_all_terms-loop-above-preserved g t c =
    let old = c.as_slice-old.result.now in
    let i = c.loop-above.above in
    let x = c.index-old-above.result in
    let now = ap (λ (l : List Term). replace_in_parts (g.A.Becoming.becomes c.args.action.now) (g.A.Becoming.by c.args.action.now) c.args.at (term_list i l)) (drop_at old i x c.loop-above-test.true c.index-old-above.is) in
    let made = c.in_ok-changed.ensures in
    let count = c.loop-above.invariant.0 in
    let first = take_length old i (omega (arith, c.loop-above-test.true)) in (
      made.length ∙ ap (λ n. n + 1) count,
      children_more _ _ _ _ _ _ _ c.loop-above.invariant.1
          (now ∙ ap (λ z. child (many i) z (replace_in_parts (g.A.Becoming.becomes c.args.action.now) (g.A.Becoming.by c.args.action.now) c.args.at (term_list (i + 1) (drop (i + 1) old)))) (sym c.in_ok-new.ensures.ok))
          (rw count at made.added) (rw c.in_ok-new.ensures.ok (kid_fits _ _ _ c.in_ok-new.ensures.fits)),
      terms_still _ _ old i x _ _ _ made.added count first (take_more old i x c.loop-above-test.true c.index-old-above.is) made.changed c.loop-above.invariant.2,
    )

-- Functions
pub walk_all_bodies-loop-one-init : goal.walk_all_bodies-loop-one-init
walk_all_bodies-loop-one-init g t c =
    let none = c.new-made.ensures.items in
    let old = c.as_slice-old.result.now in
    let parts = ap (body_list (length old)) none in (
      ap (λ (l : List FixBody). shape_list l ++ shape_list old) none ∙ sym c.as_slice-old.ensures.shapes,
      children_begin _ _ _ _ parts (ap (replace_in_parts (g.A.Becoming.becomes c.args.action.now) (g.A.Becoming.by c.args.action.now) c.args.at) (sym c.as_slice-old.ensures.parts)),
      λ _. parts,
    )

pub walk_all_bodies-returns-in_err-new : goal.walk_all_bodies-returns-in_err-new
walk_all_bodies-returns-in_err-new g t c =
    let p = err_from_is_err_and c.from_residual.result c.from_residual.ensures.1 in
    let old = c.as_slice-old.result.now in
    let now = ap (λ (l : List FixBody). replace_in_parts (g.A.Becoming.becomes c.args.action.now) (g.A.Becoming.by c.args.action.now) c.args.at (body_list (length old) l)) (drop_at old c.loop-one.one-index c.one-item.result c.loop-one-test.true c.one-item.is)
    ∙ replace_join (g.A.Becoming.becomes c.args.action.now) (g.A.Becoming.by c.args.action.now) c.args.at (body_parts (length old) c.one-item.result) (body_list (length old) (drop (c.loop-one.one-index + 1) old)) in
    let never = c.in_err-new.ensures.deep in
    rw (p.1, p.2) (record { shapes = tt; children = record { ok = tt; fits = tt; deep = λ d. children_refused _ _ _ _ _ _ c.loop-one.invariant.1 now (never d) } })

pub walk_all_bodies-loop-one-preserved : goal.walk_all_bodies-loop-one-preserved
walk_all_bodies-loop-one-preserved g t c =
    let old = c.as_slice-old.result.now in
    let i = c.loop-one.one-index in
    let x = c.one-item.result in
    let at = drop_at old i x c.loop-one-test.true c.one-item.is in
    let now = ap (λ (l : List FixBody). replace_in_parts (g.A.Becoming.becomes c.args.action.now) (g.A.Becoming.by c.args.action.now) c.args.at (body_list (length old) l)) at
    ∙ replace_join (g.A.Becoming.becomes c.args.action.now) (g.A.Becoming.by c.args.action.now) c.args.at (body_parts (length old) x) (body_list (length old) (drop (i + 1) old)) in
    let made = c.in_ok-new.ensures in (
      shapes_more _ _ x _ _ _ c.loop-one.invariant.0 at made.shapes,
      children_more _ _ _ _ _ _ _ c.loop-one.invariant.1 now made.parts made.fits,
      bodies_still (length old) _ _ old i x _ _ _ _ made.parts (take_more old i x c.loop-one-test.true c.one-item.is) c.either-changed.ensures made.same c.loop-one.invariant.2,
    )

-- One function
pub walk_body-returns-in_err-new_codomain : goal.walk_body-returns-in_err-new_codomain
walk_body-returns-in_err-new_codomain g t c =
    let p = err_from_is_err_and c.from_residual.result c.from_residual.ensures.1 in
    let n = domains_counted c.args.one.now c.as_slice.result.now c.as_slice.ensures in
    let never = rw n at (c.in_err-new_codomain.ensures.deep) in
    rw (p.1, p.2, replace_parts) (record { shapes = tt; parts = tt; same = tt; fits = tt; deep = λ d h. never d (fits_parts _ _ _ _ _ _ h).1 })

pub walk_body-returns-in_err-new_body : goal.walk_body-returns-in_err-new_body
walk_body-returns-in_err-new_body g t c =
    let p = err_from_is_err_and c.from_residual-in_err-new_body.result c.from_residual-in_err-new_body.ensures.1 in
    let n = domains_counted c.args.one.now c.as_slice.result.now c.as_slice.ensures in
    let never = rw n at (c.in_err-new_body.ensures.deep) in
    rw (p.1, p.2, replace_parts) (record { shapes = tt; parts = tt; same = tt; fits = tt; deep = λ d h. never d (fits_parts _ _ _ _ _ _ h).2 })

pub walk_body-returns-in_err-new_domains : goal.walk_body-returns-in_err-new_domains
walk_body-returns-in_err-new_domains g t c =
    let p = err_from_is_err_and c.from_residual-in_err-new_domains.result c.from_residual-in_err-new_domains.ensures.1 in
    rw (p.1, p.2, replace_parts) (record { shapes = tt; parts = tt; same = tt; fits = tt; deep = λ d h. c.in_err-new_domains.ensures.deep d (fits_parts _ _ _ _ _ _ h).0 })

pub walk_body-returns : goal.walk_body-returns
walk_body-returns g t c =
    let n = domains_counted c.args.one.now c.as_slice.result.now c.as_slice.ensures in
    let codomain = rw n at (c.in_ok-new_codomain.ensures) in
    let body = rw n at (c.in_ok-new_body.ensures) in
    let domains = c.in_ok-new_domains.ensures in
    let count = count_replaced (g.A.Becoming.becomes c.args.action.now) (g.A.Becoming.by c.args.action.now) c.args.at (terms c.args.one.now.domains) in
    rw replace_parts (
    function_added c.args.room c.args.all c.args.one.now _ _ _ _ _ _ _ _ c.add_body.result c.add_body.ensures.ok c.add_body.ensures.err domains.ok codomain.ok body.ok domains.fits codomain.fits body.fits count
    )

-- A term
pub walk_at-returns-then-room-eq0 : goal.walk_at-returns-then-room-eq0
walk_at-returns-then-room-eq0 g t c = record { ok = tt; fits = tt; deep = λ d. rw c.if-room-eq0.true (no_room _) }

pub walk_let-returns-in_err-new_ty : goal.walk_let-returns-in_err-new_ty
walk_let-returns-in_err-new_ty g t c =
    let p = err_from_is_err_and c.from_residual-in_err-new_ty.result c.from_residual-in_err-new_ty.ensures.1 in
    let never = rw c.deref-2.ensures at (c.in_err-new_ty.ensures.deep) in
    rw (p.1, p.2, c.in-Let.is) (record { ok = tt; fits = tt; deep = λ d h. never d (second_fits _ _ _ _ _ _ _ (λ e. omega (arith, c.requires.room, e)) h) })

pub walk_case-returns-in_err-new_scrutinee : goal.walk_case-returns-in_err-new_scrutinee
walk_case-returns-in_err-new_scrutinee g t c =
    let p = err_from_is_err_and c.from_residual-in_err-new_scrutinee.result c.from_residual-in_err-new_scrutinee.ensures.1 in
    let never = rw c.deref-2.ensures at (c.in_err-new_scrutinee.ensures.deep) in
    rw (p.1, p.2, c.in-Case.is) (record { ok = tt; fits = tt; deep = λ d h. never d (second_fits _ _ _ _ _ _ _ (λ e. omega (arith, c.requires.room, e)) h) })

pub walk_fix-returns-then-room-eq0 : goal.walk_fix-returns-then-room-eq0
walk_fix-returns-then-room-eq0 g t c = record { ok = tt; fits = tt; deep = λ d. rw c.if-room-eq0.true (no_room _) }

-- Loops that end
pub walk_all_branches-returns : goal.walk_all_branches-returns
walk_all_branches-returns g t c =
    let none = drop_whole c.as_slice-old.result.now c.loop-branch.branch-index c.loop-branch-test.false in
    let all = rw none at (c.loop-branch.invariant.0) in
    branches_made c.args.room c.loop-branch.branch-index c.args.all.now c.as_slice-old.result.now c.loop-branch.made.items c.loop-branch.changed _ c.whole_branches.result c.as_slice-old.ensures c.loop-branch-test.false c.loop-branch.invariant.1 all c.whole_branches.ensures.ok c.whole_branches.ensures.err

pub walk_all_terms-returns : goal.walk_all_terms-returns
walk_all_terms-returns g t c =
    let none = drop_whole c.as_slice-old.result.now c.loop-above.above c.loop-above-test.false in
    let all = rw none at (c.loop-above.invariant.1) in
    terms_made c.args.room c.loop-above.above c.args.all.now c.as_slice-old.result.now c.loop-above.made.items c.loop-above.changed _ c.whole_terms.result c.as_slice-old.ensures c.loop-above-test.false c.loop-above.invariant.2 all c.whole_terms.ensures.ok c.whole_terms.ensures.err

pub walk_all_bodies-returns : goal.walk_all_bodies-returns
walk_all_bodies-returns g t c =
    let none = drop_whole c.as_slice-old.result.now c.loop-one.one-index c.loop-one-test.false in
    let shaped = rw none at (c.loop-one.invariant.0) in
    let all = rw none at (c.loop-one.invariant.1) in
    bodies_made c.args.room c.loop-one.one-index c.args.all.now c.as_slice-old.result.now c.loop-one.made.items c.loop-one.changed _ c.whole_bodies.result c.as_slice-old.ensures.parts c.as_slice-old.ensures.shapes c.loop-one-test.false c.loop-one.invariant.2 shaped all c.whole_bodies.ensures.ok c.whole_bodies.ensures.err
