use Rattle.std.proofs.Common.{sym, ap, ◌∙◌, arith}
use Rattle.cic_terms.specs.Denotes.{tree}
use Rattle.cic_terms.specs.Tree.{prod}
use Rattle.cic_ind.proofs.Codomains.{codomain_begun, codomain_put_in}
use Rattle.cic_ind.proofs.pending.codomain.Goals as goal

pub returns-in-Prod-clause-some : goal.returns-in-Prod-clause-some
returns-in-Prod-clause-some c =
    let domain = tree c.in-Prod.field-0.value in
    codomain_begun c.args.all.now c.args.begin c.args.end c.args.at.now c.deref.result.now domain c.requires.order c.requires.within
    (ap tree c.in-Prod.is ∙ ap (λ t. prod domain (tree t)) (sym c.deref.ensures))

pub returns-in-Prod-deref : goal.returns-in-Prod-deref
returns-in-Prod-deref c =
    let domain = tree c.in-Prod-deref.field-0.value in
    record {
      begin = omega arith;
      some =
          codomain_put_in c.args.all.now c.args.begin c.args.end c.args.at.now c.deref-in-Prod-deref.result.now (tree c.in_ok-shown.shown.now.value) domain c.requires.within
          c.in_ok-shown.ensures.some
          (ap tree (sym c.deref-2.ensures ∙ c.in-Prod-deref.is) ∙ ap (λ t. prod domain (tree t)) (sym c.deref-in-Prod-deref.ensures));
      none = tt;
    }
