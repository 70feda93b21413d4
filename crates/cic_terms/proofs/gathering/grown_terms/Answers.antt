use Rattle.std.proofs.Common.{◌+◌, ap, ◌∙◌, arith, length-append}
use Rattle.cic_terms.specs.Denotes.{term_list}
use Rattle.cic_terms.proofs.Rows.{term_more}
use Rattle.cic_terms.proofs.gathering.grown_terms.Goals as goal

pub returns-clause-ok : goal.returns-clause-ok
returns-clause-ok c =
    let begun = c.in_ok-items.ensures.ok in
    let same = begun.1 in
    let term = c.in_ok-term.ensures.ok in (
      rw c.in_ok-keep.ensures.ok (rw length-append (ap (λ n. n + 1) begun.0)),
      ap (term_list 0) c.in_ok-keep.ensures.ok ∙ term_more 0 c.args.above c.in_ok-items.items.items c.in_ok-term.term (omega (arith, begun.0)) ∙ cc (same, term),
    )
