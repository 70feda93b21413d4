use Rattle.std.proofs.Common.{◌≡◌, ◌&&◌, ◌-◌, false, true, length, sym, ap, ◌∙◌}
use Rattle.std.proofs.lemmas.Bool.{and_left}
use Rattle.std.proofs.lemmas.List.{length-drop}
use Rattle.cic_terms.specs.Denotes.{tree}
use Rattle.cic_terms.specs.Tree.{ind}
use Rattle.cic_rules.specs.Telescopes.{head_of, domains_of, conclusion_of}
use Rattle.cic_counted.specs.BlockTests.{index_count}
use Rattle.cic_counted.specs.Sameness.{same_tree}
use Rattle.cic_counted.specs.Readings.{arguments_of}
use Rattle.cic_env.specs.Declarations.{type_declaration}
use Rattle.cic_positivity.specs.calls.Parts.{has_arguments}
use Rattle.cic_positivity.proofs.ShapeLemmas.{same_tree_from}
use Rattle.cic_positivity.proofs.constructor_types.has_conclusion.Goals as goal

pub returns-else-is_type : goal.returns-else-is_type
returns-else-is_type c =
    let id = c.args.ty.now.id in
    let count = length (domains_of (tree c.args.of.now)) - c.args.parameters in
    let indices = index_count c.args.parameters (type_declaration c.args.ty.now) in
    let applied = conclusion_of (tree c.args.of.now) in
    let other : same_tree (head_of applied) (ind id) ≡ false =
    sym (same_tree_from c.is_type.result (tree c.head.result.now) (ind id) c.is_type.ensures
    ∙ ap (λ z. same_tree z (ind id)) (c.head.ensures ∙ ap head_of c.conclusion-applied.ensures))
    ∙ c.if-is_type.false in
    c.if-is_type.false ∙ sym (and_left (same_tree (head_of applied) (ind id)) (has_arguments c.args.parameters count indices (arguments_of applied)) other)

pub returns-then-is_type : goal.returns-then-is_type
returns-then-is_type c =
    let id = c.args.ty.now.id in
    let r = c.args.parameters in
    let count = length (domains_of (tree c.args.of.now)) - r in
    let indices = index_count r (type_declaration c.args.ty.now) in
    let applied = conclusion_of (tree c.args.of.now) in
    let own : same_tree (head_of applied) (ind id) ≡ true =
    sym (same_tree_from c.is_type.result (tree c.head.result.now) (ind id) c.is_type.ensures
    ∙ ap (λ z. same_tree z (ind id)) (c.head.ensures ∙ ap head_of c.conclusion-applied.ensures))
    ∙ c.if-is_type.true in
    c.has_arguments.ensures
    ∙ ap (λ z. has_arguments r z (length (domains_of (tree c.under_products-then-is_type.result.now))) (arguments_of (tree c.conclusion-applied.result.now)))
    (ap length c.under_products.ensures ∙ length-drop r (domains_of (tree c.args.of.now)))
    ∙ ap (λ z. has_arguments r count z (arguments_of (tree c.conclusion-applied.result.now)))
    (ap length c.under_products-then-is_type.ensures ∙ length-drop r (domains_of (tree c.args.ty.now.arity)))
    ∙ ap (λ z. has_arguments r count indices (arguments_of z)) c.conclusion-applied.ensures
    ∙ sym (ap (λ z. z && has_arguments r count indices (arguments_of applied)) own)
