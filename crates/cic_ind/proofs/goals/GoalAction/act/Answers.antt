use Rattle.std.proofs.Common.{◌≡◌, ◌≤◌, ◌<◌, ◌-◌, ◌+◌, ◌⊎◌, inl, inr, length, get_or, arith}
use Rattle.std.proofs.lemmas.Result.{err_from_is_err_and}
use Rattle.cic_terms.specs.Lift.{lift_tree}
use Rattle.cic_terms.specs.Tree.{rel, ctor}
use Rattle.cic_rules.specs.Telescopes.{apply, lift_all, variables}
use Rattle.cic_spines.specs.Lists.{shared_trees}
use Rattle.cic_ind.specs.calls.Goals.{goal_variable, goal_terms}
use Rattle.cic_ind.specs.calls.Pending.{part_tree, part_trees}
use Rattle.cic_ind.proofs.Motives.{goal_part, made_for_variable, refused_for_variable}
use Rattle.cic_ind.proofs.goals.GoalAction.act.Goals as goal
use Rattle.cic_ind.proofs.goals.GoalAction.act.Goals.{then-own-from, else-own-from}

pub returns-in_err-lifted : goal.returns-in_err-lifted
returns-in_err-lifted c =
    let p = err_from_is_err_and c.from_residual-in_err-lifted.result c.from_residual-in_err-lifted.ensures.1 in
    let s = c.args.self.now in
    let last = apply (apply (ctor s.ctor.now) (lift_all s.more (shared_trees s.parameters.now))) (variables s.more) in
    let raised : ((c.args.n - c.args.at ≤ s.indices) × (c.if-own-from.raise ≡ 0)) ⊎ ((s.indices < c.args.n - c.args.at) × (c.if-own-from.raise ≡ s.more)) =
    elim c.if-own-from.branch [ then-own-from w ↦ inl (omega arith, omega arith) | else-own-from w ↦ inr (omega arith, omega arith) ] in
    let want : goal_variable (goal_terms s.ctor.now (shared_trees s.parameters.now) (part_trees s.arguments.now) s.more) s.indices s.more c.args.at c.args.n ≡ lift_tree 0 c.args.at (part_tree (get_or s.arguments.now (length s.arguments.now - (c.from-own.result + c.if-own-from.raise)) c.index-self-count.result)) =
    goal_part s.arguments.now last s.indices s.more c.args.at c.args.n c.if-own-from.raise _ c.index-self-count.result c.requires.free raised (omega arith) (omega arith) (omega arith) in
    rw (p.1, p.2) (refused_for_variable c.args.room (rel c.args.n) _ _ c.in_err-lifted.field-0.0 want c.in_err-lifted.ensures)

pub returns-then-place-count : goal.returns-then-place-count
returns-then-place-count c =
    let s = c.args.self.now in
    let last = apply (apply (ctor s.ctor.now) (lift_all s.more (shared_trees s.parameters.now))) (variables s.more) in
    let raised : ((c.args.n - c.args.at ≤ s.indices) × (c.if-own-from.raise ≡ 0)) ⊎ ((s.indices < c.args.n - c.args.at) × (c.if-own-from.raise ≡ s.more)) =
    elim c.if-own-from.branch [ then-own-from w ↦ inl (omega arith, omega arith) | else-own-from w ↦ inr (omega arith, omega arith) ] in
    let want : goal_variable (goal_terms s.ctor.now (shared_trees s.parameters.now) (part_trees s.arguments.now) s.more) s.indices s.more c.args.at c.args.n ≡ lift_tree 0 c.args.at (part_tree (get_or s.arguments.now (length s.arguments.now - (c.from-own.result + c.if-own-from.raise)) c.index-self-count.result)) =
    goal_part s.arguments.now last s.indices s.more c.args.at c.args.n c.if-own-from.raise _ c.index-self-count.result c.requires.free raised (omega arith) (omega arith) (omega arith) in
    made_for_variable c.args.room (rel c.args.n) _ _ c.in_ok-lifted.field-0 want c.in_ok-lifted.ensures
