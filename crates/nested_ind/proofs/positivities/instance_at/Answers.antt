use Rattle.std.proofs.Common.{List, take, sym, ap, ap₂, ◌∙◌}
use Rattle.std.proofs.lemmas.List.{take-map}
use Rattle.cic_names.specs.declared.name.GlobalId.{GlobalId}
use Rattle.cic_terms.specs.Tree.{Tree}
use Rattle.cic_rules.specs.Nested.{Instance}
use Rattle.cic_positivity.specs.calls.Parts.{ids_of}
use Rattle.cic_spines.specs.Lists.{shared_tree, shared_trees}
use Rattle.nested_ind.proofs.positivities.instance_at.Goals as goal

pub returns-clause-instance : goal.returns-clause-instance
returns-clause-instance c =
    let made : List GlobalId → List Tree → Instance = λ ids us. record { types = ids; parameters = us } in
    let n = c.args.b.now.params in
    ap₂ made (ap ids_of c.as_slice.ensures.value)
    (ap shared_trees c.truncate.ensures.items ∙ sym (take-map shared_tree n c.in_ok-parameters.parameters.items) ∙ ap (take n) c.in_ok-parameters.ensures)
