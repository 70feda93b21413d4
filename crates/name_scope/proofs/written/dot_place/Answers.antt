use Rattle.std.proofs.Common.{get_or, nat_eq}
use Rattle.cic_names.proofs.Equality.{nat_eq_decides}
use Rattle.name_scope.proofs.NameLaws.{differs}
use Rattle.name_scope.proofs.WordLaws.{walked_more, walked_dot, walked_all}
use Rattle.name_scope.proofs.written.dot_place.Goals as goal

pub loop-place-preserved : goal.loop-place-preserved
loop-place-preserved c =
    let text = c.args.text.now in
    let place = c.loop-place.place in
    walked_more text place 0 c.loop-place-test.true
    (differs (nat_eq (get_or text place 0) 46) (λ same. c.if-text-place-ne46.true ((nat_eq_decides (get_or text place 0) 46).0 same)))
    c.loop-place.invariant

pub returns-else-text-place-ne46-clause-dot : goal.returns-else-text-place-ne46-clause-dot
returns-else-text-place-ne46-clause-dot c =
    let text = c.args.text.now in
    let place = c.loop-place.place in
    λ within. walked_dot text place 0 within ((nat_eq_decides (get_or text place 0) 46).1 c.if-text-place-ne46.false) c.loop-place.invariant

pub returns-after-loop-place-clause-end : goal.returns-after-loop-place-clause-end
returns-after-loop-place-clause-end c = λ past. walked_all c.args.text.now c.loop-place.place past c.loop-place.invariant
