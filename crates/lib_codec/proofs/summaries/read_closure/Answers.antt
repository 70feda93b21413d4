use Rattle.std.proofs.Common.{◌+◌, ◌-◌, drop, length, refl}
use Rattle.std.proofs.lemmas.Result.{err_from_is_err_and}
use Rattle.term_codec.proofs.Ends.{stops_same, one_less}
use Rattle.lib_format.specs.ContentsReading.{read_recorded}
use Rattle.lib_codec.specs.calls.Lists.{closure_of}
use Rattle.lib_codec.proofs.ReadItems.{item_more, item_stops, list_begins}
use Rattle.lib_codec.proofs.summaries.read_closure.Goals as goal

pub returns-in_err-one : goal.returns-in_err-one
returns-in_err-one c =
    let p = err_from_is_err_and c.from_residual-in_err-one.result c.from_residual-in_err-one.ensures.1 in
    let b = c.args.b.now in
    let entry = list_begins (λ before. read_recorded) (drop c.args.place.now b) c.in_ok-count.count (drop c.number_at.new.place b) c.in_ok-count.ensures.ok in
    rw (p.1, p.2) (record {
      ok = tt;
      within = tt;
      stops = stops_same (length b) _ _ _ entry
          (item_stops (length b) (λ before. read_recorded) (closure_of c.loop-i.items) _ _ _ (drop c.loop-i.place b) _ _ c.loop-i.invariant.left (one_less c.in_ok-count.count c.loop-i._i c.loop-i-test.true) refl c.in_err-one.ensures.stops);
    })

pub loop-i-preserved : goal.loop-i-preserved
loop-i-preserved c =
    let b = c.args.b.now in
    record {
      within = c.in_ok-one.ensures.within;
      left = item_more (λ before. read_recorded) (closure_of c.loop-i.items) _ (c.in_ok-count.count - (c.loop-i._i + 1)) _ _ c.in_ok-one.one (drop c.loop-i.place b) (drop c.read_recorded.new.place b) _
          c.loop-i.invariant.left (one_less c.in_ok-count.count c.loop-i._i c.loop-i-test.true) refl c.in_ok-one.ensures.ok c.in_ok-push.ensures.items;
    }
