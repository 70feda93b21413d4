use Rattle.std.proofs.Common.{◌≡◌, ◌+◌, Some, None, ap, sym, ◌∙◌, ◌<◌, length, map, drop, subst, ap₂, arith, take, ◌-◌, ◌++◌, ◌∷◌, []}
use Rattle.cic_terms.specs.Denotes.{tree, shapes, bodies, branch_list}
use Rattle.cic_terms.specs.Tree.{fix, Tree}
use Rattle.cic_rules.specs.Environment.{element}
use Rattle.cic_spines.specs.Fixes.{function_of, functions}
use Rattle.cic_spines.proofs.FixParts.{functions_of_fix}
use Rattle.cic_counted.specs.Inference.{calls_from, check_branches}
use Rattle.cic_env.specs.Contexts.{context}
use Rattle.cic_env.specs.Environments.{items}
use Rattle.cic_work.specs.Verdicts.{why}
use Rattle.cic_work.specs.calls.Counting.{budget, StopsFor, Counts}
use Rattle.cic_typing.proofs.Fixes.{fix_there, fix_nowhere}
use Rattle.cic_typing.proofs.Slices.{element_there, element_nowhere}
use Rattle.std.proofs.lemmas.Result.{err_from_is_err_and}
use Rattle.cic_counted.specs.Outcome.{Counted, follow, fitting}
use Rattle.cic_env.specs.Declarations.{constructor_declaration, type_declaration}
use Rattle.cic_spines.specs.Lists.{shared_tree, shared_trees}
use Rattle.cic_work.proofs.Depths.{stops_on}
use Rattle.cic_typing.specs.calls.Matches.{check_branch, match_with, match_at}
use Rattle.cic_typing.proofs.Branching.{branch_turn}
use Rattle.std.proofs.lemmas.List.{length-map}
use Rattle.cic_typing.proofs.Eliminating.{has_one}
use Rattle.cic_typing.proofs.+typing.Goals.{eliminations::one_constructor-in_default-via-then-as_slice-lt1, eliminations::one_constructor-in_default-via-else-as_slice-lt1+else-this-lt2}
use Rattle.cic_counted.specs.Evaluation.{whnf_from}
use Rattle.cic_typing.proofs.Matching.{typed_in_order, steps_join, after_motive}
use Rattle.cic_counted.specs.Readings.{arguments_of}
use Rattle.cic_typing.proofs.Taken.{first_trees, last_trees}
use Rattle.cic_rules.specs.Telescopes.{substitute_all}
use Rattle.cic_typing.proofs.+typing.Goals as goal

pub inference::infer_fix-returns-in-Some-clause-answer : goal.inference::infer_fix-returns-in-Some-clause-answer
inference::infer_fix-returns-in-Some-clause-answer g t c =
    let known = c.in-Some.ensures.lookup in
    let at : tree c.args.t.now ≡ fix c.in-Fix.which (shapes c.in-Fix.bodies.value) (bodies c.in-Fix.bodies.value) = ap tree c.in-Fix.is in
    let named : element (functions c.in-Fix.bodies.value) c.in-Fix.which ≡ Some (function_of c.in-Some.one.now) =
    ap (λ fs. element fs c.in-Fix.which) (sym (c.each.ensures ∙ ap functions c.deref.ensures))
    ∙ element_there function_of c.each.result.now c.in-Fix.which c.in-Some.one.now known.3.0
    ∙ ap (λ b. Some (function_of b)) (sym known.1) in
    rw (at, fix_there _ _ _ _ _ _ (functions c.in-Fix.bodies.value) (function_of c.in-Some.one.now) _ (functions_of_fix c.in-Fix.bodies.value) named)
    (rw c.deref-in-Some.ensures at c.infer_function.ensures.answer)

pub inference::infer_fix-returns-in-None-clause-answer : goal.inference::infer_fix-returns-in-None-clause-answer
inference::infer_fix-returns-in-None-clause-answer g t c =
    let at : tree c.args.t.now ≡ fix c.in-Fix.which (shapes c.in-Fix.bodies.value) (bodies c.in-Fix.bodies.value) = ap tree c.in-Fix.is in
    let named : element (functions c.in-Fix.bodies.value) c.in-Fix.which ≡ None =
    ap (λ fs. element fs c.in-Fix.which) (sym (c.each.ensures ∙ ap functions c.deref.ensures))
    ∙ element_nowhere function_of c.each.result.now c.in-Fix.which c.in-None.ensures.lookup.3 in
    rw at
    (fix_nowhere (calls_from (c.args.work.now.depth + 1) (items c.args.env.now)) (items c.args.env.now) (context c.args.ctx.now) c.in-Fix.which
    (shapes c.in-Fix.bodies.value) (bodies c.in-Fix.bodies.value) (functions c.in-Fix.bodies.value) (budget c.args.work.now) (why c.unguarded.result) (functions_of_fix c.in-Fix.bodies.value) named c.unguarded.ensures)

pub branches::check_branches-returns-in_err-check_branch-clause-answer : goal.branches::check_branches-returns-in_err-check_branch-clause-answer
branches::check_branches-returns-in_err-check_branch-clause-answer g t c =
    let known = err_from_is_err_and c.from_residual.result c.from_residual.ensures.1 in
    let stop = c.in_err-check_branch.field-0.0 in
    let E = items c.args.env.now in
    let calls = calls_from (c.args.work.now.depth + 1) E in
    let G = context c.args.ctx.now in
    let us = shared_trees c.args.parameters.now in
    let m = c.args.m.now in
    let p = shared_tree m.motive.now in
    let cs = c.as_slice-ctors.result.now in
    let ctor = c.index-ctors-i.result in
    let branch = c.index-branches-i.result in
    let o = budget c.loop-i.work in
    let count = ap length c.as_slice-ctors.ensures.value in
    let in_ctors : c.loop-i.i < length cs = omega arith in
    let in_branches : c.loop-i.i < length m.branches.now = omega arith in
    let here = ap₂ (λ d H. check_branch (calls_from (d + 1) E) H m.indices us p (constructor_declaration ctor) (tree branch.body) o) c.loop-i.invariant.depth c.loop-i.invariant.context in
    let whole = sym (branch_turn calls G m.indices c.loop-i.i us p cs m.branches.now ctor branch o in_ctors in_branches c.index-ctors-i.is c.index-branches-i.is)
    ∙ c.loop-i.invariant.left
    ∙ ap (λ all. check_branches calls G m.indices us p (map constructor_declaration all) (branch_list m.branches.now) (budget c.args.work.now)) c.as_slice-ctors.ensures.value in
    rw (known.1, known.2) (subst (λ r. StopsFor (why stop) r) whole (stops_on (why stop) _ _ (subst (λ r. StopsFor (why stop) r) here c.in_err-check_branch.ensures.answer)))

pub branches::check_branches-loop-i-preserved : goal.branches::check_branches-loop-i-preserved
branches::check_branches-loop-i-preserved g t c =
    let E = items c.args.env.now in
    let calls = calls_from (c.args.work.now.depth + 1) E in
    let G = context c.args.ctx.now in
    let us = shared_trees c.args.parameters.now in
    let m = c.args.m.now in
    let p = shared_tree m.motive.now in
    let cs = c.as_slice-ctors.result.now in
    let ctor = c.index-ctors-i.result in
    let branch = c.index-branches-i.result in
    let o = budget c.loop-i.work in
    let count = ap length c.as_slice-ctors.ensures.value in
    let in_ctors : c.loop-i.i < length cs = omega arith in
    let in_branches : c.loop-i.i < length m.branches.now = omega arith in
    let here = ap₂ (λ d H. check_branch (calls_from (d + 1) E) H m.indices us p (constructor_declaration ctor) (tree branch.body) o) c.loop-i.invariant.depth c.loop-i.invariant.context in
    let after : Unit {0} → Counted (Unit {0}) = λ _. check_branches calls G m.indices us p (map constructor_declaration (drop (c.loop-i.i + 1) cs)) (branch_list (drop (c.loop-i.i + 1) m.branches.now)) in
    record {
      left =
          sym (ap (λ r. follow r after) (sym here ∙ c.in_ok-check_branch.ensures.answer))
          ∙ sym (branch_turn calls G m.indices c.loop-i.i us p cs m.branches.now ctor branch o in_ctors in_branches c.index-ctors-i.is c.index-branches-i.is)
          ∙ c.loop-i.invariant.left;
      context = c.in_ok-check_branch.ensures.context ∙ c.loop-i.invariant.context;
      depth = c.in_ok-check_branch.ensures.depth ∙ c.loop-i.invariant.depth;
      rest = omega arith;
    }

pub eliminations::one_constructor-unreachable-requires : goal.eliminations::one_constructor-unreachable-requires
eliminations::one_constructor-unreachable-requires g t c =
    let one : length c.as_slice.result.now ≡ 1 =
    ap length c.as_slice.ensures.value ∙ sym (length-map c.args.m.now.ty.now.ctors.items constructor_declaration) ∙ has_one (type_declaration c.args.m.now.ty.now) c.requires.one in
    elim c.in_default.branch [ eliminations::one_constructor-in_default-via-then-as_slice-lt1 w ↦ grind (arith, w) | eliminations::one_constructor-in_default-via-else-as_slice-lt1+else-this-lt2 w ↦ grind (arith, w) ]

pub matches::infer_match-returns-clause-answer : goal.matches::infer_match-returns-clause-answer
matches::infer_match-returns-clause-answer g t c =
    let d = c.args.work.now.depth + 1 in
    let E = items c.args.env.now in
    let G = context c.args.ctx.now in
    subst (λ o. Counts shared_tree c.match_steps.result (budget c.match_steps.new.work) o) (sym (typed_in_order (whnf_from d E G) (calls_from d E) G c.args.m.now (budget c.args.work.now))) c.match_steps.ensures.answer

pub matches::match_under-returns-clause-answer : goal.matches::match_under-returns-clause-answer
matches::match_under-returns-clause-answer g t c =
    let n = c.args.m.now.parameters in
    let own : shared_trees c.as_slice.result.now ≡ arguments_of (tree c.args.found.now) = ap shared_trees c.as_slice.ensures.value ∙ c.in_ok-own.ensures in
    let front = ap shared_trees c.split_at.ensures.front ∙ first_trees n c.as_slice.result.now ∙ ap (take n) own in
    let back = ap shared_trees c.split_at.ensures.back ∙ last_trees n c.as_slice.result.now ∙ ap (drop n) own in
    let calls = calls_from (c.args.work.now.depth + 1) (items c.args.env.now) in
    subst (λ o. Counts shared_tree c.match_with.result (budget c.match_with.new.work) o)
    (ap₂ (λ us vs. match_with calls (context c.args.ctx.now) c.args.m.now us vs (budget c.args.work.now)) front back) c.match_with.ensures.answer

pub matches::match_steps-returns-clause-answer : goal.matches::match_steps-returns-clause-answer
matches::match_steps-returns-clause-answer g t c =
    let E = items c.args.env.now in
    let m = c.args.m.now in
    let G = context c.args.ctx.now in
    let d = c.args.work.now.depth in
    let d1 = c.infer-answer.new.work.depth - 1 in
    let e1 : d1 ≡ d = omega arith in
    let b = budget c.args.work.now in
    let b2 = budget c.expose.new.work in
    let inferred = ap (λ t. (calls_from (d + 1) E).infer G (tree t) b) (sym c.deref.ensures) ∙ c.in_ok-inferred.ensures.answer in
    let last = subst (λ t. Counts shared_tree c.match_at.result (budget c.match_at.new.work) (match_at (calls_from (c.expose.new.work.depth + 1) E) (context c.expose.new.ctx) m (tree t) b2)) c.deref-2.ensures c.match_at.ensures.answer in
    steps_join E d d1 c.expose.new.work.depth G (context c.infer-answer.new.ctx) (context c.expose.new.ctx) m
    (shared_tree c.in_ok-inferred.inferred) (shared_tree c.in_ok-found.found)
    b (budget c.infer-answer.new.work) b2 (budget c.match_at.new.work) c.match_at.result
    inferred e1 c.in_ok-inferred.ensures.context
    c.in_ok-found.ensures.answer (c.in_ok-found.ensures.depth ∙ e1) (c.in_ok-found.ensures.context ∙ c.in_ok-inferred.ensures.context)
    last

pub matches::match_with-returns-in_err-check_branches-clause-answer : goal.matches::match_with-returns-in_err-check_branches-clause-answer
matches::match_with-returns-in_err-check_branches-clause-answer g t c =
    let known = err_from_is_err_and c.from_residual-in_err-check_branches.result c.from_residual-in_err-check_branches.ensures.1 in
    let stop = c.in_err-check_branches.field-0.0 in
    let E = items c.args.env.now in
    let calls = calls_from (c.args.work.now.depth + 1) E in
    let G = context c.args.ctx.now in
    let m = c.args.m.now in
    let p = shared_tree m.motive.now in
    let us = shared_trees c.args.parameters.now in
    let vs = shared_trees c.args.values.now in
    let b1 = budget c.check_motive.new.work in
    let moved = after_motive calls G m us vs (budget c.args.work.now) b1 c.in_ok-check_motive.ensures.answer in
    let here = ap₂ (λ n H. check_branches (calls_from (n + 1) E) H m.indices us p (type_declaration m.ty.now).constructors (branch_list m.branches.now) b1) c.in_ok-check_motive.ensures.depth c.in_ok-check_motive.ensures.context in
    rw (known.1, known.2) (subst (λ r. StopsFor (why stop) r) (sym moved) (stops_on (why stop) _ _ (subst (λ r. StopsFor (why stop) r) here c.in_err-check_branches.ensures.answer)))

pub matches::match_with-returns-clause-answer : goal.matches::match_with-returns-clause-answer
matches::match_with-returns-clause-answer g t c =
    let E = items c.args.env.now in
    let calls = calls_from (c.args.work.now.depth + 1) E in
    let G = context c.args.ctx.now in
    let m = c.args.m.now in
    let p = shared_tree m.motive.now in
    let us = shared_trees c.args.parameters.now in
    let vs = shared_trees c.args.values.now in
    let b1 = budget c.check_motive.new.work in
    let moved = after_motive calls G m us vs (budget c.args.work.now) b1 c.in_ok-check_motive.ensures.answer in
    let here = ap₂ (λ n H. check_branches (calls_from (n + 1) E) H m.indices us p (type_declaration m.ty.now).constructors (branch_list m.branches.now) b1) c.in_ok-check_motive.ensures.depth c.in_ok-check_motive.ensures.context in
    let typed : Unit {0} → Counted Tree = λ _. fitting (substitute_all (vs ++ shared_tree m.scrutinee.now ∷ []) p) in
    subst (λ r. Counts shared_tree c.match_type.result (budget c.check_branches.new.work) r)
    (sym (moved ∙ ap (λ r. follow r typed) (sym here ∙ c.in_ok-check_branches.ensures.answer))) c.match_type.ensures
