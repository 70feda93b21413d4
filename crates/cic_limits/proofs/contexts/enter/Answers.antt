use Rattle.std.proofs.Common.{◌≤◌, length, drop, ap, ◌∙◌, arith}
use Rattle.cic_env.specs.Contexts.{context}
use Rattle.cic_limits.proofs.Telescopes.{drop_some}
use Rattle.cic_limits.proofs.contexts.enter.Goals as goal

pub returns-then-not-is_pushed-clause-same : goal.returns-then-not-is_pushed-clause-same
returns-then-not-is_pushed-clause-same c =
    let i = c.loop-entered.entered in
    let h : i ≤ length c.args.types.now = omega arith in
    c.leave.ensures ∙ ap (drop i) (c.is_pushed.ensures.same c.if-not-is_pushed.true ∙ c.loop-entered.invariant) ∙ drop_some (context c.args.ctx.now) c.args.types.now i h
