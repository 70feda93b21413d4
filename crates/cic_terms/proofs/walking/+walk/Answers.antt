use Rattle.std.proofs.Common.{◌≡◌, refl, ◌+◌, List, length, drop, ap, sym, ◌∙◌, arith}
use Rattle.std.proofs.lemmas.Result.{err_from_is_err_and}
use Rattle.cic_terms.specs.Denotes.{branches, terms, branch_list, body_list, term_list, body_parts, domain_count}
use Rattle.cic_terms.specs.Tree.{child, many}
use Rattle.cic_terms.specs.calls.Answer.{so_far}
use Rattle.cic_terms.specs.calls.Walk.{map_children}
use Rattle.cic_terms.specs.declared.term.Term.{Term}
use Rattle.cic_terms.specs.declared.term.Branch.{Branch}
use Rattle.cic_terms.specs.declared.term.FixBody.{FixBody}
use Rattle.cic_terms.proofs.Rows.{branches-roll, branches_are, bodies_are, shapes_are, shapes_more, count_terms_list, map_parts, fits_parts}
use Rattle.cic_terms.proofs.Gathered.{whole_list, body_added, bodies_made}
use Rattle.cic_terms.proofs.Limits.{no_room}
use Rattle.cic_terms.proofs.Children.{drop_at, drop_whole, children_begin, children_more, children_refused, children_end, kid_fits, fits_kid, second_fits, map_join, count_map}
use Rattle.cic_terms.proofs.walking.+walk.Goals as goal

pub walk_all_bodies-loop-i-init : goal.walk_all_bodies-loop-i-init
walk_all_bodies-loop-i-init g t c = (
  shapes_are _ _ c.as_slice-old.ensures.value,
  children_begin _ _ _ _ refl (ap (map_children (g.A.Action.becomes c.args.action.now) c.args.at) (bodies_are _ _ _ c.as_slice-old.ensures.value (ap length c.as_slice-old.ensures.value))),
)

pub walk_all_bodies-returns-in-Err : goal.walk_all_bodies-returns-in-Err
walk_all_bodies-returns-in-Err g t c =
    let old = c.as_slice-old.result.now in
    let now = ap (λ (l : List FixBody). map_children (g.A.Action.becomes c.args.action.now) c.args.at (body_list (length old) l)) (drop_at old c.loop-i.i c.index-old-i.result c.loop-i-test.true c.index-old-i.is)
    ∙ map_join (g.A.Action.becomes c.args.action.now) c.args.at (body_parts (length old) c.index-old-i.result) (body_list (length old) (drop (c.loop-i.i + 1) old)) in
    record { shapes = tt; children = record { ok = tt; fits = tt; deep = λ d. children_refused _ _ _ _ _ _ c.loop-i.invariant.1 now (c.in-Err.ensures.deep d) } }

pub walk_all_bodies-loop-i-preserved : goal.walk_all_bodies-loop-i-preserved
walk_all_bodies-loop-i-preserved g t c =
    let old = c.as_slice-old.result.now in
    let at = drop_at old c.loop-i.i c.index-old-i.result c.loop-i-test.true c.index-old-i.is in
    let now = ap (λ (l : List FixBody). map_children (g.A.Action.becomes c.args.action.now) c.args.at (body_list (length old) l)) at
    ∙ map_join (g.A.Action.becomes c.args.action.now) c.args.at (body_parts (length old) c.index-old-i.result) (body_list (length old) (drop (c.loop-i.i + 1) old)) in
    let made = c.in_default.ensures in (
      shapes_more _ _ c.index-old-i.result _ _ _ c.loop-i.invariant.0 at made.shapes,
      children_more _ _ _ _ _ _ _ c.loop-i.invariant.1 now made.parts made.fits,
    )

pub walk_all_bodies-returns : goal.walk_all_bodies-returns
walk_all_bodies-returns g t c =
    let none = drop_whole c.as_slice-old.result.now c.loop-i.i c.loop-i-test.false in
    let all = rw none at c.loop-i.invariant in
    bodies_made c.args.room c.loop-i.i c.args.all.now _ c.loop-i.made _ c.whole_bodies.result c.as_slice-old.ensures.value c.loop-i-test.false all.0 all.1 c.whole_bodies.ensures.ok c.whole_bodies.ensures.err

pub walk_body-returns-in_err-new_codomain : goal.walk_body-returns-in_err-new_codomain
walk_body-returns-in_err-new_codomain g t c =
    let p = err_from_is_err_and c.from_residual.result c.from_residual.ensures.1 in
    let n : c.len-above.result ≡ domain_count c.args.one.now = c.len-above.ensures ∙ c.args.one.now.domains.items.ok.0 in
    let never = rw n at (c.in_err-new_codomain.ensures.deep) in
    rw (p.1, p.2, map_parts) (record { shapes = tt; parts = tt; fits = tt; deep = λ d h. never d (fits_parts _ _ _ _ _ _ h).1 })

pub walk_body-returns-in_err-new_body : goal.walk_body-returns-in_err-new_body
walk_body-returns-in_err-new_body g t c =
    let p = err_from_is_err_and c.from_residual-in_err-new_body.result c.from_residual-in_err-new_body.ensures.1 in
    let n : c.len-above.result ≡ domain_count c.args.one.now = c.len-above.ensures ∙ c.args.one.now.domains.items.ok.0 in
    let never = rw n at (c.in_err-new_body.ensures.deep) in
    rw (p.1, p.2, map_parts) (record { shapes = tt; parts = tt; fits = tt; deep = λ d h. never d (fits_parts _ _ _ _ _ _ h).2 })

pub walk_body-returns-in_err-new_domains : goal.walk_body-returns-in_err-new_domains
walk_body-returns-in_err-new_domains g t c =
    let p = err_from_is_err_and c.from_residual-in_err-new_domains.result c.from_residual-in_err-new_domains.ensures.1 in
    rw (p.1, p.2, map_parts) (record { shapes = tt; parts = tt; fits = tt; deep = λ d h. c.in_err-new_domains.ensures.deep d (fits_parts _ _ _ _ _ _ h).0 })

pub walk_body-returns : goal.walk_body-returns
walk_body-returns g t c =
    let n : c.len-above.result ≡ domain_count c.args.one.now = c.len-above.ensures ∙ c.args.one.now.domains.items.ok.0 in
    let codomain = rw n at (c.in_ok-new_codomain.ensures) in
    let body = rw n at (c.in_ok-new_body.ensures) in
    let domains = c.in_ok-new_domains.ensures in
    let count = count_map (g.A.Action.becomes c.args.action.now) c.args.at (terms c.args.one.now.domains) ∙ count_terms_list 0 c.args.one.now.domains.items.items in
    rw map_parts (
    body_added c.args.room c.args.i c.args.old.now c.args.one.now _ _ _ _ _ _ _ _ c.add_body.result c.add_body.ensures.ok c.add_body.ensures.err domains.ok codomain.ok body.ok domains.fits codomain.fits body.fits count
    )

pub walk_all_branches-loop-i-init : goal.walk_all_branches-loop-i-init
walk_all_branches-loop-i-init g t c = children_begin _ _ _ _ refl (ap (map_children (g.A.Action.becomes c.args.action.now) c.args.at) (branches_are _ _ c.as_slice-old.ensures.value))

pub walk_all_branches-returns-in_err-new : goal.walk_all_branches-returns-in_err-new
walk_all_branches-returns-in_err-new g t c =
    let p = err_from_is_err_and c.from_residual.result c.from_residual.ensures.1 in
    let now = ap (λ (l : List Branch). map_children (g.A.Action.becomes c.args.action.now) c.args.at (branch_list l)) (drop_at c.as_slice-old.result.now c.loop-i.i c.index-old-i.result c.loop-i-test.true c.index-old-i.is) in
    rw (p.1, p.2) (record { ok = tt; fits = tt; deep = λ d. children_refused _ _ _ _ _ _ c.loop-i.invariant now (λ h. c.in_err-new.ensures.deep d (fits_kid _ _ _ h)) })

pub walk_all_branches-loop-i-preserved : goal.walk_all_branches-loop-i-preserved
walk_all_branches-loop-i-preserved g t c =
    let now = ap (λ (l : List Branch). map_children (g.A.Action.becomes c.args.action.now) c.args.at (branch_list l)) (drop_at c.as_slice-old.result.now c.loop-i.i c.index-old-i.result c.loop-i-test.true c.index-old-i.is) in
    children_more _ _ _ _ _ _ _ c.loop-i.invariant (now ∙ ap (λ z. child (many c.index-old-i.result.binders) z (map_children (g.A.Action.becomes c.args.action.now) c.args.at (branch_list (drop (c.loop-i.i + 1) c.as_slice-old.result.now)))) (sym c.in_ok-new.ensures.ok)) c.in_ok-made.ensures.ok (rw c.in_ok-new.ensures.ok (kid_fits _ _ _ c.in_ok-new.ensures.fits))

pub walk_all_branches-returns-in-None : goal.walk_all_branches-returns-in-None
walk_all_branches-returns-in-None g t c =
    let none = drop_whole c.as_slice-old.result.now c.loop-i.i c.loop-i-test.false in
    let kept = whole_list c.as_slice-old.result.now c.loop-i.i c.loop-i.made c.in-None.is c.loop-i-test.false in
    let p = children_end c.args.room (branch_list (so_far c.as_slice-old.result.now c.loop-i.i c.loop-i.made)) _ (rw none at c.loop-i.invariant) in
    record { ok = sym (branches_are _ _ c.as_slice-old.ensures.value) ∙ ap branch_list (sym kept) ∙ p.0; fits = p.1; deep = tt }

pub walk_all_branches-returns-in_ok-shared-in-Some : goal.walk_all_branches-returns-in_ok-shared-in-Some
walk_all_branches-returns-in_ok-shared-in-Some g t c =
    let none = drop_whole c.as_slice-old.result.now c.loop-i.i c.loop-i-test.false in
    let p = children_end c.args.room (branch_list (so_far c.as_slice-old.result.now c.loop-i.i c.loop-i.made)) _ (rw none at c.loop-i.invariant) in
    record {
      ok = ap branches c.in_ok-shared-in-Some.ensures.ok ∙ branches-roll _ ∙ ap (λ m. branch_list (so_far c.as_slice-old.result.now c.loop-i.i m)) (sym c.in-Some.is) ∙ p.0;
      fits = p.1;
      deep = tt;
    }

pub walk_all_terms-returns-in_err-new : goal.walk_all_terms-returns-in_err-new
walk_all_terms-returns-in_err-new g t c =
    let p = err_from_is_err_and c.from_residual.result c.from_residual.ensures.1 in
    let now = ap (λ (l : List Term). map_children (g.A.Action.becomes c.args.action.now) c.args.at (term_list c.loop-above.above l)) (drop_at c.as_slice-old.result.now c.loop-above.above c.index-old-above.result c.loop-above-test.true c.index-old-above.is) in
    rw (p.1, p.2) (record { ok = tt; fits = tt; deep = λ d. children_refused _ _ _ _ _ _ c.loop-above.invariant.1 now (λ h. c.in_err-new.ensures.deep d (fits_kid _ _ _ h)) })

pub walk_all_terms-loop-above-preserved : goal.walk_all_terms-loop-above-preserved
walk_all_terms-loop-above-preserved g t c =
    let now = ap (λ (l : List Term). map_children (g.A.Action.becomes c.args.action.now) c.args.at (term_list c.loop-above.above l)) (drop_at c.as_slice-old.result.now c.loop-above.above c.index-old-above.result c.loop-above-test.true c.index-old-above.is) in (
      c.in_ok-made.ensures.length,
      children_more _ _ _ _ _ _ _ c.loop-above.invariant.1 (cc (now, c.in_ok-new.ensures.ok)) c.in_ok-made.ensures.ok (rw c.in_ok-new.ensures.ok (kid_fits _ _ _ c.in_ok-new.ensures.fits)),
    )

pub walk_all_terms-returns-in-None : goal.walk_all_terms-returns-in-None
walk_all_terms-returns-in-None g t c =
    let none = drop_whole c.as_slice-old.result.now c.loop-above.above c.loop-above-test.false in
    let kept = whole_list c.as_slice-old.result.now c.loop-above.above c.loop-above.made c.in-None.is c.loop-above-test.false in
    let all = rw none at (c.loop-above.invariant.1) in
    let p = children_end c.args.room (term_list 0 (so_far c.as_slice-old.result.now c.loop-above.above c.loop-above.made)) _ all in
    record { ok = ap (term_list 0) (sym c.as_slice-old.ensures.value) ∙ ap (term_list 0) (sym kept) ∙ p.0; fits = p.1; deep = tt }

pub walk_all_terms-returns-in-Some : goal.walk_all_terms-returns-in-Some
walk_all_terms-returns-in-Some g t c =
    let none = drop_whole c.as_slice-old.result.now c.loop-above.above c.loop-above-test.false in
    let all = rw none at (c.loop-above.invariant.1) in
    let p = children_end c.args.room (term_list 0 (so_far c.as_slice-old.result.now c.loop-above.above c.loop-above.made)) _ all in
    record { ok = ap (λ m. term_list 0 (so_far c.as_slice-old.result.now c.loop-above.above m)) (sym c.in-Some.is) ∙ p.0; fits = p.1; deep = tt }

pub walk_at-returns-then-room-eq0 : goal.walk_at-returns-then-room-eq0
walk_at-returns-then-room-eq0 g t c = record { ok = tt; fits = tt; deep = λ d. rw c.if-room-eq0.true (no_room _) }

pub walk_let-returns-in_err-new_ty : goal.walk_let-returns-in_err-new_ty
walk_let-returns-in_err-new_ty g t c =
    let p = err_from_is_err_and c.from_residual-in_err-new_ty.result c.from_residual-in_err-new_ty.ensures.1 in
    let never = rw c.deref-2.ensures at (c.in_err-new_ty.ensures.deep) in
    rw (p.1, p.2, c.in-Let.is) (record { ok = tt; fits = tt; deep = λ d h. never d (second_fits _ _ _ _ _ _ _ (λ e. omega (arith, c.requires.room, e)) h) })

pub walk_case-returns-in_err-new_scrutinee : goal.walk_case-returns-in_err-new_scrutinee
walk_case-returns-in_err-new_scrutinee g t c =
    let p = err_from_is_err_and c.from_residual-in_err-new_scrutinee.result c.from_residual-in_err-new_scrutinee.ensures.1 in
    let never = rw c.deref-2.ensures at (c.in_err-new_scrutinee.ensures.deep) in
    rw (p.1, p.2, c.in-Case.is) (record { ok = tt; fits = tt; deep = λ d h. never d (second_fits _ _ _ _ _ _ _ (λ e. omega (arith, c.requires.room, e)) h) })

pub walk_fix-returns-then-room-eq0 : goal.walk_fix-returns-then-room-eq0
walk_fix-returns-then-room-eq0 g t c = record { ok = tt; fits = tt; deep = λ d. rw c.if-room-eq0.true (no_room _) }
