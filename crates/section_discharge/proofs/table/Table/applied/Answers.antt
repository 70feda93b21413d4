use Rattle.std.proofs.Common.{◌+◌, drop}
use Rattle.std.proofs.lemmas.Result.{err_from_is_err_and}
use Rattle.cic_terms.proofs.Children.{drop_at}
use Rattle.section_uses.specs.Kept.{shared_tree}
use Rattle.section_discharge.specs.calls.Tables.{state_of}
use Rattle.section_discharge.proofs.Tables.{one_applied, argument_deep}
use Rattle.section_discharge.proofs.table.Table.applied.Goals as goal

pub loop-id-preserved : goal.loop-id-preserved
loop-id-preserved c =
    let ids = c.args.ids.now in
    let i = c.loop-id.id-index in
    one_applied (state_of c.args.self.now).stands (shared_tree c.loop-id.made) (shared_tree c.in_ok-made.made) (shared_tree c.args.head) (shared_tree c.in_ok-argument.argument) c.id-item.result (drop i ids) (drop (i + 1) ids) ids
    c.loop-id.invariant (drop_at ids i c.id-item.result c.loop-id-test.true c.id-item.is) c.in_ok-argument.ensures.ok c.in_ok-made.ensures.ok

pub returns-in_err-argument-clause-deep : goal.returns-in_err-argument-clause-deep
returns-in_err-argument-clause-deep c =
    let p = err_from_is_err_and c.from_residual.result c.from_residual.ensures.1 in
    let ids = c.args.ids.now in
    let i = c.loop-id.id-index in
    rw (p.1, p.2) (λ d. argument_deep (state_of c.args.self.now).stands (shared_tree c.loop-id.made) (shared_tree c.args.head) c.id-item.result (drop i ids) (drop (i + 1) ids) ids
    c.loop-id.invariant (drop_at ids i c.id-item.result c.loop-id-test.true c.id-item.is) (c.in_err-argument.ensures.deep d))
