use Rattle.std.proofs.Common.{List, map, ap, ◌∙◌}
use Rattle.std.proofs.lemmas.Result.{on_ok_weaker}
use Rattle.section_terms.specs.Hypotheses.{ids_of, without_lets}
use Rattle.section_uses.specs.Kept.{hypothesis}
use Rattle.section_uses.specs.declared.hypothesis.Hypothesis.{Hypothesis as Kept}
use Rattle.section_core.proofs.Layered.{lists_given_as}
use Rattle.section_core.proofs.discharging.put_arguments.Goals as goal

pub returns-clause-applied : goal.returns-clause-applied
returns-clause-applied c =
    let ids = c.as_slice-2.ensures.value ∙ c.in_ok-ids.ensures in
    let names = ap (λ v. v.items) c.in_ok-variables-2.ensures.ok ∙ c.in_ok-variables.ensures
    ∙ ap (λ (hs : List Kept). ids_of (without_lets (map hypothesis hs))) c.as_slice.ensures.value in
    on_ok_weaker c.put_all.result (λ p. lists_given_as _ _ _ _ c.args.arguments.now c.put_all.new.lists ids names p) c.put_all.ensures
