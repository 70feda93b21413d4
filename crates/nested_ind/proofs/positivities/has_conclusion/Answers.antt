use Rattle.std.proofs.Common.{◌≡◌, not, ◌&&◌, true, false, length, drop, sym, ap, ap₂, subst, ◌∙◌}
use Rattle.cic_terms.specs.Denotes.{tree}
use Rattle.cic_rules.specs.Telescopes.{conclusion_of, head_of}
use Rattle.cic_counted.specs.BlockTests.{occurs_in_any}
use Rattle.cic_counted.specs.NestedTest.{are_small}
use Rattle.cic_counted.specs.Readings.{arguments_of, instantiate}
use Rattle.cic_env.specs.Environments.{items}
use Rattle.cic_ind.specs.Conclusions.{is_type}
use Rattle.cic_positivity.specs.calls.Parts.{ids_of}
use Rattle.cic_spines.specs.Lists.{shared_trees}
use Rattle.nested_ind.specs.calls.Instances.{AreSmall}
use Rattle.nested_ind.proofs.Steps.{conclusion_apart}
use Rattle.nested_ind.proofs.positivities.has_conclusion.Goals as goal

pub returns-then-not-branch : goal.returns-then-not-branch
returns-then-not-branch c =
    let us = shared_trees c.args.parameters.now in
    let t = conclusion_of (instantiate us (tree c.args.ctor.now.ty)) in
    let ids = ids_of c.args.test.now.types.now in
    let indices = drop (length us) (arguments_of t) in
    sym (conclusion_apart (items c.args.test.now.env.now) ids (length us) (head_of t) (arguments_of t)
    ∙ ap (λ b. b && (are_small indices && not (occurs_in_any ids indices))) (sym c.in_ok-concludes.ensures ∙ c.if-not-branch.true))

pub returns-in-None : goal.returns-in-None
returns-in-None c =
    let us = shared_trees c.args.parameters.now in
    let t = conclusion_of (instantiate us (tree c.args.ctor.now.ty)) in
    let ids = ids_of c.args.test.now.types.now in
    let indices = drop (length us) (arguments_of t) in
    let type : is_type (head_of t) ≡ true = sym c.in_ok-concludes.ensures ∙ c.if-not-branch.false in
    let small : are_small indices ≡ false = subst (AreSmall indices) c.in-None.is c.in_ok-small_indices.ensures in
    sym (conclusion_apart (items c.args.test.now.env.now) ids (length us) (head_of t) (arguments_of t)
    ∙ ap₂ (λ b s. b && (s && not (occurs_in_any ids indices))) type small)

pub returns-in-Some : goal.returns-in-Some
returns-in-Some c =
    let us = shared_trees c.args.parameters.now in
    let t = conclusion_of (instantiate us (tree c.args.ctor.now.ty)) in
    let ids = ids_of c.args.test.now.types.now in
    let indices = drop (length us) (arguments_of t) in
    let type : is_type (head_of t) ≡ true = sym c.in_ok-concludes.ensures ∙ c.if-not-branch.false in
    let made = subst (AreSmall indices) c.in-Some.is c.in_ok-small_indices.ensures in
    ap not (c.occur_in_any.ensures ∙ ap (λ l. occurs_in_any ids (shared_trees l)) c.as_slice.ensures.value ∙ ap (occurs_in_any ids) made.1)
    ∙ sym (conclusion_apart (items c.args.test.now.env.now) ids (length us) (head_of t) (arguments_of t)
    ∙ ap₂ (λ b s. b && (s && not (occurs_in_any ids indices))) type made.0)
