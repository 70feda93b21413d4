use Rattle.std.proofs.Common.{◌≡◌, ◌+◌, ◌-◌, ◌^◌, ◌<◌, min, nat_eq, false, true, length, sym, ap, ap₂, ◌∙◌, arith}
use Rattle.cic_terms.specs.Tree.{rel}
use Rattle.cic_terms.specs.Denotes.{tree}
use Rattle.cic_rules.specs.Telescopes.{domains_of}
use Rattle.cic_counted.specs.Readings.{arguments_of}
use Rattle.cic_counted.specs.Sameness.{same_tree}
use Rattle.cic_counted.specs.BlockTests.{same_trees, parameter_variables}
use Rattle.cic_positivity.proofs.Walks.{no_arguments}
use Rattle.cic_positivity.proofs.ShapeLemmas.{parameter_step, other_parameter, too_few_parameters, all_parameters}
use Rattle.cic_positivity.proofs.constructor_types.are_parameters.Goals as goal

pub loop-place-init : goal.loop-place-init
loop-place-init c =
    let under = length (domains_of (tree c.args.rest.now)) in
    let all : c.args.parameters - 0 ≡ c.args.parameters = omega arith in
    let here : under + 0 ≡ under = omega arith in
    ap₂ (λ r n. same_trees (arguments_of (tree c.args.t.now)) (parameter_variables r n)) all here

pub returns-in_default : goal.returns-in_default
returns-in_default c =
    let left = c.args.parameters - c.loop-place.place in
    let under = length (domains_of (tree c.args.rest.now)) in
    let some : 0 < left = omega arith in
    sym (too_few_parameters left (under + c.loop-place.place) (arguments_of (tree c.loop-place.at.now)) some (no_arguments c.loop-place.at.now c.in_default.not-App))
    ∙ c.loop-place.invariant

pub returns-then-not-is_variable : goal.returns-then-not-is_variable
returns-then-not-is_variable c =
    let left = c.args.parameters - c.loop-place.place in
    let after = c.args.parameters - (c.loop-place.place + 1) in
    let number = length (domains_of (tree c.args.rest.now)) + c.loop-place.place in
    let one_more : left ≡ after + 1 = omega arith in
    let told : c.saturating_add.result ≡ min number (2 ^ 64 - 1) = omega arith in
    let differs : same_tree (tree c.in-App.argument.value) (rel number) ≡ false =
    ap (λ z. same_tree (tree z) (rel number)) (sym c.deref.ensures) ∙ sym (c.is_variable.ensures number told) ∙ c.if-not-is_variable.true in
    sym (ap (λ z. same_trees (arguments_of (tree z)) (parameter_variables left number)) c.in-App.is
    ∙ other_parameter left after number (arguments_of (tree c.in-App.function.value)) (tree c.in-App.argument.value) one_more differs)
    ∙ c.loop-place.invariant

pub loop-place-preserved : goal.loop-place-preserved
loop-place-preserved c =
    let left = c.args.parameters - c.loop-place.place in
    let after = c.args.parameters - (c.loop-place.place + 1) in
    let under = length (domains_of (tree c.args.rest.now)) in
    let number = under + c.loop-place.place in
    let one_more : left ≡ after + 1 = omega arith in
    let told : c.saturating_add.result ≡ min number (2 ^ 64 - 1) = omega arith in
    let next : under + (c.loop-place.place + 1) ≡ number + 1 = omega arith in
    let same : same_tree (tree c.in-App.argument.value) (rel number) ≡ true =
    ap (λ z. same_tree (tree z) (rel number)) (sym c.deref.ensures) ∙ sym (c.is_variable.ensures number told) ∙ c.if-not-is_variable.false in
    ap₂ (λ z n. same_trees (arguments_of (tree z)) (parameter_variables after n)) c.deref-at.ensures next
    ∙ sym (ap (λ z. same_trees (arguments_of (tree z)) (parameter_variables left number)) c.in-App.is
    ∙ parameter_step left after number (arguments_of (tree c.in-App.function.value)) (tree c.in-App.argument.value) one_more same)
    ∙ c.loop-place.invariant

pub returns : goal.returns
returns c =
    let number = length (domains_of (tree c.args.rest.now)) + c.loop-place.place in
    let none_left : 0 ≡ c.args.parameters - c.loop-place.place = omega arith in
    ap (λ z. nat_eq z 0) c.argument_count.ensures
    ∙ all_parameters number (arguments_of (tree c.loop-place.at.now))
    ∙ ap (λ r. same_trees (arguments_of (tree c.loop-place.at.now)) (parameter_variables r number)) none_left
    ∙ c.loop-place.invariant
