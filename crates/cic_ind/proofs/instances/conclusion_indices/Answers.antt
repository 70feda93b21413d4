use Rattle.std.proofs.Common.{length, drop, sym, ap, ap₂, subst, ◌∙◌}
use Rattle.std.proofs.lemmas.List.{length-map, drop-map}
use Rattle.cic_rules.specs.Telescopes.{conclusion_of}
use Rattle.cic_counted.specs.Readings.{arguments_of}
use Rattle.cic_spines.specs.Lists.{shared_tree}
use Rattle.cic_spines.specs.Several.{MakesEach}
use Rattle.cic_ind.specs.calls.Pending.{part_tree, part_trees}
use Rattle.cic_ind.proofs.instances.conclusion_indices.Goals as goal

pub returns : goal.returns
returns c =
    let n = length c.args.parameters.now in
    subst (λ want. MakesEach want c.make_each.result)
    (ap part_trees c.behind.ensures
    ∙ ap (λ l. part_trees (drop n l)) c.as_slice.ensures.value
    ∙ sym (drop-map part_tree n c.in_ok-spine.spine.arguments.items)
    ∙ ap₂ drop (sym (length-map c.args.parameters.now shared_tree))
    (c.in_ok-spine.ensures.arguments ∙ ap arguments_of (c.in_ok-opened.ensures.conclusion ∙ ap conclusion_of c.instance-ty.ensures)))
    c.make_each.ensures
