use Rattle.std.proofs.Common.{[], ◌+◌, ◌-◌, drop, length, ap, sym, ◌∙◌}
use Rattle.std.proofs.lemmas.Result.{err_from_is_err_and}
use Rattle.term_codec.proofs.Ends.{stops_on, one_less}
use Rattle.lib_format.specs.Lists.{read_items}
use Rattle.lib_format.specs.OpaqueHeads.{bodies_end, read_row, next_row, filling}
use Rattle.lib_format.proofs.OpaqueLaws.{end_last}
use Rattle.lib_codec.specs.calls.Lists.{rows_of}
use Rattle.lib_codec.proofs.ReadItems.{item_more, item_stops}
use Rattle.lib_codec.proofs.opaques.read_filled.Goals as goal

pub returns-in_err-one : goal.returns-in_err-one
returns-in_err-one c =
    let p = err_from_is_err_and c.from_residual.result c.from_residual.ensures.1 in
    let b = c.args.b.now in
    let read = next_row c.args.room in
    let same = ap (λ n. read_row c.args.room n (drop c.loop-i.place b)) (sym c.loop-i.invariant.ends) in
    rw (p.1, p.2) (record {
      ok = tt;
      within = tt;
      stops = stops_on (length b) (read_items read [] c.args.count (drop c.args.place.now b)) filling _
          (item_stops (length b) read (rows_of c.loop-i.items) _ _ _ (drop c.loop-i.place b) _ _ c.loop-i.invariant.left (one_less c.args.count c.loop-i._i c.loop-i-test.true) same c.in_err-one.ensures.value.stops);
    })

pub loop-i-preserved : goal.loop-i-preserved
loop-i-preserved c =
    let b = c.args.b.now in
    let items = rows_of c.loop-i.items in
    let one = c.in_ok-one.one in
    let same = ap (λ n. read_row c.args.room n (drop c.loop-i.place b)) (sym c.loop-i.invariant.ends) in
    record {
      within = c.in_ok-one.ensures.value.within;
      ends = ap (λ n. n + one.length) c.loop-i.invariant.ends ∙ (sym (end_last items one) ∙ ap bodies_end (sym c.in_ok-push.ensures.items));
      fits = c.in_ok-one.ensures.fits;
      left = item_more (next_row c.args.room) items _ (c.args.count - (c.loop-i._i + 1)) _ _ one (drop c.loop-i.place b) (drop c.read_row.new.place b) _
          c.loop-i.invariant.left (one_less c.args.count c.loop-i._i c.loop-i-test.true) same c.in_ok-one.ensures.value.ok c.in_ok-push.ensures.items;
    }
