use Rattle.std.proofs.Common.{refl, arith}
use Rattle.section_core.specs.calls.States.{sections_of}
use Rattle.section_core.proofs.Ended.{declares_at, put_at, all_put, still_open}
use Rattle.section_core.proofs.state.State.put_all.Goals as goal

pub loop-kept-init : goal.loop-kept-init
loop-kept-init c = record {
  right = c.requires.right;
  some = omega (arith, c.requires.some, c.args.self.now.sections.ok.0);
  declare = c.requires.declare;
  put = refl;
}

pub loop-kept-preserved : goal.loop-kept-preserved
loop-kept-preserved c =
    let h = c.in_ok-put_kept.ensures in
    let all = c.args.all.now in
    record {
      right = h.right;
      some = still_open c.loop-kept.self c.put_kept.new.self _ h.added c.loop-kept.invariant.some;
      declare = (declares_at all c.loop-kept.kept-index c.kept-item.result c.loop-kept-test.true c.kept-item.is c.loop-kept.invariant.declare).1;
      put = put_at all c.loop-kept.kept-index c.kept-item.result c.loop-kept-test.true c.kept-item.is (sections_of c.loop-kept.self) _ _ h.added c.loop-kept.invariant.put;
    }

pub put_kept-requires-clause-some : goal.put_kept-requires-clause-some
put_kept-requires-clause-some c = omega (arith, c.loop-kept.invariant.some, c.loop-kept.self.sections.ok.0)

pub put_kept-requires-clause-declares : goal.put_kept-requires-clause-declares
put_kept-requires-clause-declares c =
    (declares_at c.args.all.now c.loop-kept.kept-index c.kept-item.result c.loop-kept-test.true c.kept-item.is c.loop-kept.invariant.declare).0

pub returns-clause-put : goal.returns-clause-put
returns-clause-put c = all_put c.args.all.now c.loop-kept.kept-index (sections_of c.loop-kept.self) _ c.loop-kept-test.false c.loop-kept.invariant.put
