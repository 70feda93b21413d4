use Rattle.std.proofs.Common.{map, get_or, refl, ap, arith}
use Rattle.std.proofs.lemmas.Result.{err_from_is_err_and}
use Rattle.std.proofs.lemmas.Option.{IfSome_then}
use Rattle.cic_terms.proofs.Children.{drop_whole}
use Rattle.gal_raw.specs.Commands.{constraint as written}
use Rattle.gal_raw.specs.declared.commands.Constraint.{Constraint as Written}
use Rattle.gal_raw.specs.declared.commands.Level.TheVariants.{Set}
use Rattle.gal_raw.specs.declared.commands.Relation.TheVariants.{Less}
use Rattle.elab_parts.proofs.Stated.{constraints_begin, drop_here, left_fault, right_fault, constraint_more, constraints_done}
use Rattle.elab_parts.proofs.constraints.read_constraints.Goals as goal

-- what stands behind the list
abbrev default : Written
default = record { left = Set; relation = Less; right = Set }

pub loop-one-init : goal.loop-one-init
loop-one-init c = constraints_begin _ _ _ _ refl c.new-made.ensures.items

pub returns-in_err-left : goal.returns-in_err-left
returns-in_err-left c =
    let p = err_from_is_err_and c.from_residual.result c.from_residual.ensures.1 in
    let x = get_or c.args.all.now c.loop-one.one-index default in
    let at = ap (map written) (drop_here c.args.all.now c.loop-one.one-index default c.loop-one-test.true) in
    rw (p.1, p.2) (IfSome_then _ c.in_err-left.ensures (λ f h. left_fault _ _ _ _ x _ f c.loop-one.invariant at h))

pub returns-in_err-right : goal.returns-in_err-right
returns-in_err-right c =
    let p = err_from_is_err_and c.from_residual-in_err-right.result c.from_residual-in_err-right.ensures.1 in
    let x = get_or c.args.all.now c.loop-one.one-index default in
    let at = ap (map written) (drop_here c.args.all.now c.loop-one.one-index default c.loop-one-test.true) in
    rw (p.1, p.2) (IfSome_then _ c.in_err-right.ensures (λ f h. right_fault _ _ _ _ x _ _ f c.loop-one.invariant at c.in_ok-left.ensures h))

pub loop-one-preserved : goal.loop-one-preserved
loop-one-preserved c =
    let x = get_or c.args.all.now c.loop-one.one-index default in
    let at = ap (map written) (drop_here c.args.all.now c.loop-one.one-index default c.loop-one-test.true) in
    constraint_more _ _ _ _ x _ _ _ _ c.loop-one.invariant at c.in_ok-left.ensures c.in_ok-right.ensures c.in_ok-add_related.ensures

pub returns : goal.returns
returns c = constraints_done _ _ _ _ c.loop-one.invariant (ap (map written) (drop_whole c.args.all.now c.loop-one.one-index (omega (arith, c.loop-one-test.false))))
