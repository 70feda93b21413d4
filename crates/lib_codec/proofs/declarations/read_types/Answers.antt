use Rattle.std.proofs.Common.{◌≡◌, ◌++◌, ◌∷◌, [], ◌+◌, ◌-◌, drop, length, ap, sym, ◌∙◌}
use Rattle.std.specs.Prelude.{map}
use Rattle.std.proofs.lemmas.Result.{err_from_is_err_and}
use Rattle.cic_env.specs.Declarations.{type_declaration}
use Rattle.term_codec.proofs.Ends.{stops_same, one_less}
use Rattle.lib_format.specs.DeclarationBytes.{block_names, type_names}
use Rattle.lib_format.specs.DeclarationReading.{next_type, read_inductive_type}
use Rattle.lib_format.proofs.Behind.{map_last, block_names_last, seen_more}
use Rattle.lib_codec.specs.calls.Lists.{types_of}
use Rattle.lib_codec.proofs.ReadItems.{item_more, item_stops, some_begin, some_count}
use Rattle.lib_codec.proofs.declarations.read_types.Goals as goal

pub returns-in_err-one-clause-value : goal.returns-in_err-one-clause-value
returns-in_err-one-clause-value c =
    let p = err_from_is_err_and c.from_residual-in_err-one.result c.from_residual-in_err-one.ensures.1 in
    let b = c.args.b.now in
    let read = next_type c.args.library.now c.args.seen.now in
    let entry = some_begin read (drop c.args.place.now b) c.in_ok-count.count (drop c.number_at.new.place b) (some_count c.in_ok-count.count c.if-count-eq0.false) c.in_ok-count.ensures.ok in
    let same = ap (λ z. read_inductive_type c.args.library.now z (drop c.loop-i.place b)) (sym c.loop-i.invariant.seen) in
    rw (p.1, p.2) (record {
      ok = tt;
      within = tt;
      stops = stops_same (length b) _ _ _ entry
          (item_stops (length b) read (types_of c.loop-i.items) _ _ _ (drop c.loop-i.place b) _ _ c.loop-i.invariant.left (one_less c.in_ok-count.count c.loop-i._i c.loop-i-test.true) same c.in_err-one.ensures.value.stops);
    })

pub loop-i-preserved : goal.loop-i-preserved
loop-i-preserved c =
    let b = c.args.b.now in
    let read = next_type c.args.library.now c.args.seen.now in
    let items = types_of c.loop-i.items in
    let one = type_declaration c.in_ok-one.one in
    let last : types_of c.push.new.self ≡ items ++ one ∷ [] = ap (map type_declaration) c.in_ok-push.ensures.items ∙ map_last type_declaration c.loop-i.items.items c.in_ok-one.one in
    let same = ap (λ z. read_inductive_type c.args.library.now z (drop c.loop-i.place b)) (sym c.loop-i.invariant.seen) in
    record {
      within = c.in_ok-one.ensures.value.within;
      seen = seen_more c.args.seen.now c.loop-i.seen _ (block_names items) (type_names one) _ c.loop-i.invariant.seen c.in_ok-one.ensures.seen (ap block_names last ∙ block_names_last items one);
      left = item_more read items _ (c.in_ok-count.count - (c.loop-i._i + 1)) _ _ one (drop c.loop-i.place b) (drop c.read_inductive_type.new.place b) _
          c.loop-i.invariant.left (one_less c.in_ok-count.count c.loop-i._i c.loop-i-test.true) same c.in_ok-one.ensures.value.ok last;
    }
