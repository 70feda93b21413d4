use Rattle.std.proofs.Common.{◌≡◌, IfOk, ◌&&◌, ◌-◌, ◌∷◌, true, false, length, map, sym, ap, ap₂, subst, ◌∙◌, arith}
use Rattle.cic_terms.specs.Denotes.{tree}
use Rattle.cic_rules.specs.Telescopes.{conclusion_of, domains_of, head_of}
use Rattle.cic_counted.specs.BlockTests.{occurs}
use Rattle.cic_counted.specs.NestedTest.{are_positive_types, are_small, is_conclusion}
use Rattle.cic_counted.specs.Readings.{arguments_of, instantiate}
use Rattle.cic_env.specs.Declarations.{type_declaration}
use Rattle.cic_env.specs.Environments.{items}
use Rattle.cic_positivity.specs.calls.Parts.{ids_of}
use Rattle.cic_spines.specs.Lists.{shared_trees}
use Rattle.nested_ind.specs.calls.Instances.{AreLifted, AreSmall, instance, instances}
use Rattle.nested_ind.specs.calls.Steps.{are_positive_domains, new_at, positive_at}
use Rattle.nested_ind.proofs.Steps.{all_but_middle, and_last, arguments_apart, occurs_in_codomain, one_less, positive_in_codomain}
use Rattle.nested_ind.proofs.positivities.+positive.Goals as goal

pub are_positive_arguments-returns-then-not-branch : goal.are_positive_arguments-returns-then-not-branch
are_positive_arguments-returns-then-not-branch n c =
    let E = items c.args.test.now.env.now in
    let ids = ids_of c.args.test.now.types.now in
    let positive = positive_at E ids c.args.left in
    let L = instances c.args.known.now in
    let us = shared_trees c.args.parameters.now in
    let t = instantiate us (tree c.args.ctor.now.ty) in
    sym (arguments_apart E ids positive L (length us) t
    ∙ and_last (are_small (domains_of t) && are_positive_domains positive L (domains_of t)) _ (sym c.in_ok-has_conclusion.ensures ∙ c.if-not-branch.true))

pub are_positive_arguments-returns-in-None : goal.are_positive_arguments-returns-in-None
are_positive_arguments-returns-in-None n c =
    let E = items c.args.test.now.env.now in
    let ids = ids_of c.args.test.now.types.now in
    let positive = positive_at E ids c.args.left in
    let L = instances c.args.known.now in
    let us = shared_trees c.args.parameters.now in
    let t = instantiate us (tree c.args.ctor.now.ty) in
    let small : are_small (domains_of t) ≡ false = subst (AreSmall (domains_of t)) c.in-None.is c.in_ok-small_arguments.ensures in
    sym (arguments_apart E ids positive L (length us) t
    ∙ ap (λ s. s && are_positive_domains positive L (domains_of t) && is_conclusion E ids (length us) (head_of (conclusion_of t)) (arguments_of (conclusion_of t))) small)

pub are_positive_arguments-returns-in-Some : goal.are_positive_arguments-returns-in-Some
are_positive_arguments-returns-in-Some n c =
    let E = items c.args.test.now.env.now in
    let ids = ids_of c.args.test.now.types.now in
    let positive = positive_at E ids c.args.left in
    let L = instances c.args.known.now in
    let us = shared_trees c.args.parameters.now in
    let t = instantiate us (tree c.args.ctor.now.ty) in
    let made = subst (AreSmall (domains_of t)) c.in-Some.is c.in_ok-small_arguments.ensures in
    let concluded : is_conclusion E ids (length us) (head_of (conclusion_of t)) (arguments_of (conclusion_of t)) ≡ true = sym c.in_ok-has_conclusion.ensures ∙ c.if-not-branch.false in
    subst (λ want. IfOk c.are_positive_domains.result (λ r. r ≡ want))
    (ap (are_positive_domains positive L) (ap shared_trees c.as_slice.ensures.value ∙ made.1)
    ∙ sym (arguments_apart E ids positive L (length us) t
    ∙ all_but_middle (are_small (domains_of t)) (are_positive_domains positive L (domains_of t)) _ made.0 concluded))
    c.are_positive_domains.ensures

pub is_new-returns : goal.is_new-returns
is_new-returns n c =
    let E = items c.args.test.now.env.now in
    let ids = ids_of c.args.test.now.types.now in
    let one = c.args.one in
    let ts = map type_declaration one.types.now in
    subst (λ want. IfOk c.are_positive_types.result (λ r. r ≡ want))
    (ap₂ (λ L us. are_positive_types E ids (positive_at E ids (c.args.left - 1)) L us ts)
    (ap instances c.as_slice-2.ensures.value ∙ c.in_ok-all.ensures)
    (ap shared_trees c.as_slice-3.ensures.value ∙ c.in_ok-parameters.ensures ∙ ap shared_trees c.as_slice.ensures.value)
    ∙ ap (λ f. f (instance one ∷ instances c.args.known.now) (shared_trees one.parameters.items) ts) (sym (one_less E ids c.args.left (omega arith))))
    c.are_positive_types.ensures

pub is_positive-loop-at-preserved : goal.is_positive-loop-at-preserved
is_positive-loop-at-preserved n c =
    let E = items c.args.test.now.env.now in
    let ids = ids_of c.args.test.now.types.now in
    let L = instances c.loop-at.under.items in
    let a = tree c.in-Prod.domain.value in
    let b = tree c.in-Prod.rest.value in
    let here = ap (λ z. occurs ids (tree z)) (sym c.in-Prod.is) ∙ c.loop-at.invariant.0 in
    let absent : occurs ids a ≡ false = ap (λ z. occurs ids (tree z)) (sym c.deref.ensures) ∙ sym c.occurs-in-Prod.ensures ∙ c.if-occurs.false in
    let lifted = subst (λ l. AreLifted (instances l) c.in_ok-lifted.field-0) c.as_slice.ensures.value c.in_ok-lifted.ensures in
    let made = subst (AreLifted L) c.in-Some.is lifted in (
      ap (λ z. occurs ids (tree z)) c.deref-at.ensures ∙ occurs_in_codomain E ids a b here absent,
      ap₂ (λ l z. positive_at E ids c.args.left l (tree z)) made.1 c.deref-at.ensures
          ∙ sym (ap (λ z. positive_at E ids c.args.left L (tree z)) c.in-Prod.is ∙ positive_in_codomain E ids (new_at E ids c.args.left) L a b here absent made.0)
          ∙ c.loop-at.invariant.1,
    )
