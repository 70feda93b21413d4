use Rattle.std.proofs.Common.{ap, ◌∙◌}
use Rattle.cic_terms.specs.Denotes.{branch_list}
use Rattle.cic_terms.specs.declared.term.Branch.{Branch}
use Rattle.cic_terms.proofs.Rows.{branch_more}
use Rattle.section_walks.proofs.gathering.add_branch.Goals as goal

pub returns-clause-added : goal.returns-clause-added
returns-clause-added c =
    let b : Branch = record { binders = c.args.branch.now.binders; body = c.in_ok-body.body } in
    let body = c.in_ok-body.ensures.ok in
    ap branch_list c.in_ok-keep.ensures.ok ∙ branch_more c.args.made.now.items b ∙ cc (body)
