use Rattle.std.proofs.Common.{length, ap, ◌∙◌, arith}
use Rattle.cic_terms.specs.Denotes.{term_list}
use Rattle.cic_terms.proofs.Rows.{term_more}
use Rattle.section_walks.proofs.gathering.add_term.Goals as goal

pub returns-clause-added : goal.returns-clause-added
returns-clause-added c =
    let term = c.in_ok-term.ensures.ok in
    ap (term_list 0) c.in_ok-keep.ensures.ok ∙ term_more 0 (length c.args.made.now.items) c.args.made.now.items c.in_ok-term.term (omega arith) ∙ cc (term)
