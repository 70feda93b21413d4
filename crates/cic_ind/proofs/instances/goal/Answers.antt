use Rattle.std.proofs.Common.{◌≡◌, length, drop, sym, ap, subst, ◌∙◌, arith}
use Rattle.std.proofs.lemmas.List.{length-map, drop-map}
use Rattle.cic_terms.specs.calls.Answer.{MakesShared}
use Rattle.cic_terms.specs.calls.Walk.{map_tree}
use Rattle.cic_rules.specs.Telescopes.{domains_of, conclusion_of}
use Rattle.cic_counted.specs.Readings.{arguments_of, instantiate}
use Rattle.cic_env.specs.Declarations.{constructor_declaration}
use Rattle.cic_spines.specs.Lists.{shared_tree, shared_trees}
use Rattle.cic_ind.specs.calls.Goals.{goal_variable, goal_terms}
use Rattle.cic_ind.specs.calls.Pending.{part_tree, part_trees, pending_tree}
use Rattle.cic_ind.proofs.Motives.{goal_of_parts}
use Rattle.cic_ind.proofs.instances.goal.Goals as goal

pub returns : goal.returns
returns c =
    let us = shared_trees c.args.parameters.now in
    let ctor = constructor_declaration c.args.ctor.now in
    let motive = shared_tree c.args.motive.now in
    let parts = part_trees c.in_ok-spine.spine.arguments.items in
    let type : pending_tree c.instance-ty.result ≡ instantiate us ctor.type = c.instance-ty.ensures in
    let count : c.in-Ok.more ≡ length (domains_of (instantiate us ctor.type)) =
    (let counted : c.in-Ok.more ≡ length c.in_ok-opened.opened.domains.items = omega (arith, c.in-Ok.ensures, c.len.ensures) in counted) ∙ sym (length-map c.in_ok-opened.opened.domains.items part_tree) ∙ ap length (c.in_ok-opened.ensures.domains ∙ ap domains_of type) in
    let arguments : parts ≡ arguments_of (conclusion_of (instantiate us ctor.type)) =
    c.in_ok-spine.ensures.arguments ∙ ap arguments_of (c.in_ok-opened.ensures.conclusion ∙ ap conclusion_of type) in
    let behind : part_trees c.behind.result.now ≡ drop (length us) parts =
    ap part_trees c.behind.ensures
    ∙ ap (λ l. part_trees (drop (length c.args.parameters.now) l)) c.as_slice.ensures.value
    ∙ sym (drop-map part_tree (length c.args.parameters.now) c.in_ok-spine.spine.arguments.items)
    ∙ ap (λ n. drop n parts) (sym (length-map c.args.parameters.now shared_tree)) in
    let want =
    ap (λ l. map_tree (goal_variable (goal_terms ctor.id us l c.in-Ok.more) c.args.indices c.in-Ok.more) 0 motive) behind
    ∙ goal_of_parts c.args.indices c.in-Ok.more us motive ctor parts count arguments in
    subst (λ t. MakesShared 4000 t c.at_constructor.result) want c.at_constructor.ensures
