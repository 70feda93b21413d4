use Rattle.std.proofs.Common.{◌≡◌, ◌+◌, ◌-◌, List, map, ap, ◌∙◌, arith}
use Rattle.std.proofs.lemmas.Result.{err_from_is_err_and}
use Rattle.cic_terms.specs.Denotes.{tree}
use Rattle.section_terms.specs.calls.Standing.{under_binders}
use Rattle.section_uses.specs.Kept.{shared_tree}
use Rattle.section_discharge.specs.declared.binders.Binder.{Binder}
use Rattle.section_discharge.specs.calls.Binders.{bound, bind_with}
use Rattle.section_discharge.proofs.Whole.{over_refused, over_made}
use Rattle.section_discharge.proofs.binders.Binders.over.Goals as goal

pub returns-in_err-inside : goal.returns-in_err-inside
returns-in_err-inside c =
    let p = err_from_is_err_and c.from_residual-in_err-inside.result c.from_residual-in_err-inside.ensures.1 in
    rw (p.1, p.2) (record {
      ok = tt;
      fits = tt;
      deep = λ d. over_refused c.args.self.now c.args.binding (shared_tree c.in_ok-old.old) (tree c.args.t.now) (4000 - c.args.self.now.table.binders) c.requires (omega (arith, c.requires.made.most)) c.in_ok-old.ensures.ok (c.in_err-inside.ensures.deep d);
    })

pub returns : goal.returns
returns c =
    over_made c.args.self.now c.args.binding (shared_tree c.in_ok-old.old) (tree c.args.t.now) (shared_tree c.in_ok-inside.inside) (shared_tree c.in_ok-whole.whole) (4000 - c.args.self.now.table.binders) c.taken.result c.requires
    (omega (arith, c.requires.made.most)) c.in_ok-old.ensures.ok c.in_ok-inside.ensures.ok c.in_ok-inside.ensures.fits
    (c.in_ok-whole.ensures.ok ∙ ap (λ (xs : List Binder). under_binders (bind_with c.args.binding) (map bound xs) (shared_tree c.in_ok-inside.inside)) c.as_slice.ensures.value)
    c.taken.ensures.ok c.taken.ensures.err
