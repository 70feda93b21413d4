use Rattle.std.proofs.Common.{ap, ◌∙◌}
use Rattle.cic_terms.specs.Denotes.{branch_list}
use Rattle.cic_terms.specs.declared.term.Branch.{Branch}
use Rattle.cic_terms.proofs.Rows.{branch_more}
use Rattle.cic_terms.proofs.gathering.grown_branches.Goals as goal

pub returns-clause-ok : goal.returns-clause-ok
returns-clause-ok c =
    let b : Branch = record { binders = c.args.branch.now.binders; body = c.in_ok-body.body } in
    let begun = c.in_ok-items.ensures.ok in
    let body = c.in_ok-body.ensures.ok in
    ap branch_list c.in_ok-keep.ensures.ok ∙ branch_more c.in_ok-items.items.items b ∙ cc
