use Rattle.std.proofs.Common.{◌-◌, ◌+◌, ◌∙◌, drop, length}
use Rattle.std.proofs.lemmas.Result.{err_from_is_err_and}
use Rattle.term_codec.proofs.Ends.{stops_same, one_less, none_less}
use Rattle.term_codec.proofs.Inserting.{count_then, item_more, item_stops, item_ends, next_above, below_more, goes_last}
use Rattle.term_codec.proofs.constraints.read_constraints.Goals as goal

pub returns-in_err-one : goal.returns-in_err-one
returns-in_err-one c =
    let p = err_from_is_err_and c.from_residual-in_err-one.result c.from_residual-in_err-one.ensures.1 in
    let b = c.args.b.now in
    let entry = count_then (drop c.args.place.now b) c.in_ok-count.count (drop c.number_at.new.place b) c.in_ok-count.ensures.ok in
    rw (p.1, p.2) (record {
      ok = tt;
      within = tt;
      stops = stops_same (length b) _ _ _ entry
          (item_stops (length b) c.loop-i.before _ _ _ c.loop-i.all (drop c.loop-i.place b) _ c.loop-i.invariant.left (one_less c.in_ok-count.count c.loop-i._i c.loop-i-test.true) c.in_err-one.ensures.stops);
    })

pub loop-i-preserved : goal.loop-i-preserved
loop-i-preserved c =
    let b = c.args.b.now in
    let one = c.in_ok-one.one in
    let here = c.loop-i.invariant.below in
    let above = next_above c.loop-i.before (drop c.loop-i.place b) one (drop c.next_constraint.new.place b) c.in_ok-one.ensures.ok in
    let all = c.in_ok-keep.ensures.all ∙ goes_last c.loop-i.before c.loop-i.all one here above in
    let more = item_more c.loop-i.before (c.in_ok-count.count - (c.loop-i._i + 1)) (c.in_ok-count.count - c.loop-i._i) _ c.loop-i.all one (drop c.loop-i.place b) (drop c.next_constraint.new.place b)
    c.loop-i.invariant.left (one_less c.in_ok-count.count c.loop-i._i c.loop-i-test.true) c.in_ok-one.ensures.ok in
    rw (c.in_ok-keep.ensures.before, all) (record { within = c.in_ok-one.ensures.within; below = below_more c.loop-i.before c.loop-i.all one here above; left = more })

pub returns : goal.returns
returns c =
    let b = c.args.b.now in
    let entry = count_then (drop c.args.place.now b) c.in_ok-count.count (drop c.number_at.new.place b) c.in_ok-count.ensures.ok in
    record {
      ok = entry ∙ item_ends c.loop-i.before _ _ c.loop-i.all (drop c.loop-i.place b) c.loop-i.invariant.left (none_less c.in_ok-count.count c.loop-i._i c.loop-i-test.false);
      within = c.loop-i.invariant.within;
      stops = tt;
    }
