use Rattle.std.proofs.Common.{Some, ◌≡◌, ap, sym, subst, ◌∙◌}
use Rattle.cic_terms.specs.Denotes.{branches}
use Rattle.cic_rules.specs.Telescopes.{branch_at}
use Rattle.cic_counted.specs.Evaluation.{branch_result}
use Rattle.cic_spines.specs.Lists.{shared_trees}
use Rattle.cic_spines.specs.calls.Parts.{branch_parts}
use Rattle.cic_spines.specs.Optional.{MakesIfAny}
use Rattle.cic_spines.proofs.Selected.{branch_is, no_branch, none_if_none}
use Rattle.cic_spines.proofs.branches.branch_result.Goals as goal

pub returns-in-None : goal.returns-in-None
returns-in-None c =
    none_if_none 4000 _
    (ap (λ z. branch_result c.args.parameters (shared_trees c.args.arguments.now) (branch_at z c.args.place)) c.as_slice.ensures
    ∙ ap (branch_result c.args.parameters (shared_trees c.args.arguments.now)) (no_branch c.as_slice.result.now c.args.place c.in-None.ensures.lookup.3))

pub returns-in-Some : goal.returns-in-Some
returns-in-Some c =
    let known = c.in-Some.ensures.lookup in
    let at : branch_at (branches c.args.all.now) c.args.place ≡ Some (branch_parts c.in-Some.branch.now) =
    ap (λ z. branch_at z c.args.place) c.as_slice.ensures
    ∙ branch_is c.as_slice.result.now c.args.place c.in-Some.branch.now known.3.0
    ∙ ap (λ b. Some (branch_parts b)) (sym known.1) in
    subst (λ b. MakesIfAny 4000 (branch_result c.args.parameters (shared_trees c.args.arguments.now) b) c.with_arguments.result) (sym at) c.with_arguments.ensures
