-- Evaluation is by steps of the rules: by induction on what evaluation is done with, since each of its reductions is a
-- step, and a step in the function, the argument or the matched value is one of the whole. Conversion and inference
-- evaluate their terms, so their laws rest on it.
use Rattle.std.proofs.Common.{◌≡◌, ◌≢◌, ℕ, Some, ◌++◌, length, take, drop, true, refl, sym, ap, ap₂, ◌∙◌, subst, arith}
use Rattle.std.proofs.lemmas.List.{take-append-drop}
use Rattle.cic_terms.specs.Tree.{Former, AppF, LetF, CaseF, Binders, none, Tree, node, Children, child, app, ctor, case}
use Rattle.cic_names.specs.declared.name.GlobalId.{GlobalId}
use Rattle.cic_rules.specs.Environment.{Environment, Context}
use Rattle.cic_rules.specs.Telescopes.{apply, head_of, fixpoint}
use Rattle.cic_rules.specs.Step.{Step, beta, zeta, delta_variable, delta_constant, iota_match, iota_fix, inside, here, there}
use Rattle.cic_counted.specs.Readings.{arguments_of}
use Rattle.cic_counted.specs.Outcome.{Budget, done}
use Rattle.cic_counted.specs.Evaluation.{is_constructor, unfolds, matched, whnf_at}
use Rattle.cic_counted.specs.calls.Done.{Cost, Evaluates, Reduces, evaluates, needs_no_evaluation, variable_stays, variable_steps, constant_stays, constant_steps, let_steps, function_applied, application_stays, recursion_stays, recursion_steps, match_stays, match_steps}
use Rattle.cic_counted.proofs.Taken.{whnf_done}
use Rattle.cic_metatheory.specs.StepsTo.{StepsTo, arrived, after_step, ClosedBodies}
use Rattle.cic_soundness.proofs.evaluations.Readings.{apply_head, constructor_is, unfolds_is, matched_is}
use Rattle.cic_metatheory.proofs.basics.Applications.{apply_append}

module _ (E : Environment) (G : Context) where
  pub steps_to_more : {t u v : Tree} → StepsTo E G t u → StepsTo E G u v → StepsTo E G t v
  steps_to_more arrived q = q
  steps_to_more (after_step s p) q = after_step s (steps_to_more p q)

  steps_to_same : {t u v : Tree} → StepsTo E G t u → u ≡ v → StepsTo E G t v
  steps_to_same {t} p e = subst (StepsTo E G t) e p

  -- Applications and matches are no local definitions.
  no_let_app : AppF ≢ LetF
  no_let_app e = grind arith

  no_let_case : (id : GlobalId) → CaseF id ≢ LetF
  no_let_case id e = grind arith

  steps_to_first : {f : Former} {ks : Children} {t u : Tree} → f ≢ LetF → StepsTo E G t u → StepsTo E G (node f (child none t ks)) (node f (child none u ks))
  steps_to_first n arrived = arrived
  steps_to_first n (after_step s p) = after_step (inside n (here s)) (steps_to_first n p)

  steps_to_second : {f : Former} {b : Binders} {r t u : Tree} {ks : Children} → f ≢ LetF → StepsTo E G t u → StepsTo E G (node f (child b r (child none t ks))) (node f (child b r (child none u ks)))
  steps_to_second n arrived = arrived
  steps_to_second n (after_step s p) = after_step (inside n (there (here s))) (steps_to_second n p)

  -- The unfolding of a fixpoint and the choice of a branch are steps.
  recursion_step : (g w F : Tree) → unfolds (length (arguments_of g)) (head_of g) ≡ Some F → is_constructor (head_of w) ≡ true → Step E G (app g w) (app (apply F (arguments_of g)) w)
  recursion_step g w F q k =
      let u = unfolds_is (length (arguments_of g)) (head_of g) F q in
      let c = constructor_is (head_of w) k in
      let is_w : apply (ctor c.0) (arguments_of w) ≡ w = ap (λ z. apply z (arguments_of w)) (sym c.1) ∙ apply_head w in
      let is_g : apply (fixpoint u.which u.fs) (arguments_of g) ≡ g = ap (λ z. apply z (arguments_of g)) (sym u.is) ∙ apply_head g in
      iota_fix u.which u.fs (arguments_of g) c.0 (arguments_of w)
      (sym (apply_append (fixpoint u.which u.fs) (arguments_of g) _ ∙ ap₂ (λ x y. app x y) is_g is_w))
      u.at
      u.place
      (ap₂ (λ x y. app (apply x (arguments_of g)) y) u.to (sym is_w) ∙ sym (apply_append _ (arguments_of g) _))

  match_step : (id : GlobalId) (n : ℕ) (p w b : Tree) (branches : Children) → matched E id branches (arguments_of w) (head_of w) ≡ Some b → Step E G (case id n p w branches) b
  match_step id n p w b branches q =
      let s = matched_is E id branches (arguments_of w) (head_of w) b q in
      let r = s.K.parameters in
      let is_w : w ≡ apply (ctor s.c) (take r (arguments_of w) ++ drop r (arguments_of w)) = sym (ap₂ apply (sym s.is) (take-append-drop r (arguments_of w)) ∙ apply_head w) in
      iota_match {K = s.K} s.c (take r (arguments_of w)) (drop r (arguments_of w)) is_w s.meant s.owner s.count s.branch s.to

module _ (E : Environment) (closed : ClosedBodies E) (G : Context) where
  mutual
    pub evaluates_steps_to : {t v : Tree} {c : Cost} → Evaluates E G t v c → StepsTo E G t v
    evaluates_steps_to (evaluates h k) = reduces_steps_to h

    reduces_steps_to : {t v : Tree} {c : Cost} → Reduces E G t v c → StepsTo E G t v
    reduces_steps_to (needs_no_evaluation s) = arrived
    reduces_steps_to (variable_stays q) = arrived
    reduces_steps_to (variable_steps q s h k) = after_step (delta_variable q refl) (reduces_steps_to h)
    reduces_steps_to (constant_stays q) = arrived
    reduces_steps_to (constant_steps {id = id} {b = b} q h k) = after_step (delta_constant q (sym (closed id b q (length G)))) (reduces_steps_to h)
    reduces_steps_to (let_steps s h k) = after_step (zeta refl) (reduces_steps_to h)
    reduces_steps_to (function_applied hf s h k) = steps_to_more E G (steps_to_first E G (no_let_app E G) (evaluates_steps_to hf)) (after_step (beta refl) (reduces_steps_to h))
    reduces_steps_to (application_stays {f = f} {u = u} hf n q e) = steps_to_same E G (steps_to_first E G (no_let_app E G) (evaluates_steps_to hf)) (sym e)
    reduces_steps_to (recursion_stays hf q hu n e k) = steps_to_same E G (steps_to_first E G (no_let_app E G) (evaluates_steps_to hf)) (sym e)
    reduces_steps_to (recursion_steps {g = g} {F = F} {w = w} hf q hu n s h k) =
        steps_to_more E G (steps_to_first E G (no_let_app E G) (evaluates_steps_to hf))
        (steps_to_more E G (steps_to_second E G (no_let_app E G) (evaluates_steps_to hu)) (after_step (recursion_step E G g w F q n) (reduces_steps_to h)))
    reduces_steps_to (match_stays {id = id} ht q e) = steps_to_same E G (steps_to_second E G (no_let_case E G id) (evaluates_steps_to ht)) (sym e)
    reduces_steps_to (match_steps {id = id} {n = n} {p = p} {w = w} {b = b} {branches = branches} ht q s h k) =
        steps_to_more E G (steps_to_second E G (no_let_case E G id) (evaluates_steps_to ht)) (after_step (match_step E G id n p w b branches q) (reduces_steps_to h))

pub evaluation_steps_to : (E : Environment) (G : Context) (k : ℕ) (t v : Tree) (b b' : Budget) → ClosedBodies E → whnf_at k E G t b ≡ done v b' → StepsTo E G t v
evaluation_steps_to E G k t v b b' closed e = evaluates_steps_to E closed G (whnf_done E G k t v b b' e).1
