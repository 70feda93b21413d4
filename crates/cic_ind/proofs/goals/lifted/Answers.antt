use Rattle.std.proofs.Common.{arith}
use Rattle.std.proofs.lemmas.Result.{err_from_is_err_and}
use Rattle.cic_ind.specs.calls.Pending.{part_tree}
use Rattle.cic_ind.proofs.Motives.{too_deep_lifted}
use Rattle.cic_ind.proofs.goals.lifted.Goals as goal

pub returns-in_err-made : goal.returns-in_err-made
returns-in_err-made c =
    let p = err_from_is_err_and c.from_residual.result c.from_residual.ensures.1 in
    rw (p.1, p.2)
    (record { ok = tt; fits = tt; deep = λ d. too_deep_lifted 4294967295 c.args.room 0 c.args.by (part_tree c.args.part.now) (omega arith) (c.in_err-made.ensures.deep d) })
