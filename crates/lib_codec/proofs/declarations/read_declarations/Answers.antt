use Rattle.std.proofs.Common.{◌≡◌, ◌++◌, ◌∷◌, [], ◌+◌, ◌-◌, drop, length, ap, sym, ◌∙◌, arith}
use Rattle.std.specs.Prelude.{map}
use Rattle.std.proofs.lemmas.Result.{err_from_is_err_and}
use Rattle.cic_env.specs.Declarations.{declaration}
use Rattle.term_codec.proofs.Ends.{stops_same, one_less}
use Rattle.lib_format.specs.DeclarationBytes.{declared_names, all_names, opaque_count, opaques_of}
use Rattle.lib_format.specs.DeclarationReading.{next_declaration, read_declaration}
use Rattle.lib_format.proofs.Behind.{map_last, all_names_last, opaques_last}
use Rattle.lib_codec.specs.calls.Lists.{declarations_of}
use Rattle.lib_codec.proofs.ReadItems.{item_more, item_stops, list_begins}
use Rattle.lib_codec.proofs.declarations.read_declarations.Goals as goal

pub returns-in_err-one : goal.returns-in_err-one
returns-in_err-one c =
    let p = err_from_is_err_and c.from_residual-in_err-one.result c.from_residual-in_err-one.ensures.1 in
    let b = c.args.b.now in
    let read = next_declaration c.args.library.now in
    let entry = list_begins read (drop c.args.place.now b) c.in_ok-count.count (drop c.number_at.new.place b) c.in_ok-count.ensures.ok in
    let same = ap (λ z. read_declaration c.args.library.now z (opaques_of (declarations_of c.loop-i.items)) (drop c.loop-i.place b)) (sym c.loop-i.invariant.seen)
    ∙ ap (λ n. read_declaration c.args.library.now c.loop-i.seen n (drop c.loop-i.place b)) (sym c.loop-i.invariant.opaques) in
    rw (p.1, p.2) (record {
      ok = tt;
      within = tt;
      stops = stops_same (length b) _ _ _ entry
          (item_stops (length b) read (declarations_of c.loop-i.items) _ _ _ (drop c.loop-i.place b) _ _ c.loop-i.invariant.left (one_less c.in_ok-count.count c.loop-i._i c.loop-i-test.true) same c.in_err-one.ensures.value.stops);
    })

pub loop-i-preserved : goal.loop-i-preserved
loop-i-preserved c =
    let b = c.args.b.now in
    let read = next_declaration c.args.library.now in
    let items = declarations_of c.loop-i.items in
    let one = declaration c.in_ok-one.one in
    let last : declarations_of c.push.new.self ≡ items ++ one ∷ [] = ap (map declaration) c.in_ok-push.ensures.items ∙ map_last declaration c.loop-i.items.items c.in_ok-one.one in
    let same = ap (λ z. read_declaration c.args.library.now z (opaques_of items) (drop c.loop-i.place b)) (sym c.loop-i.invariant.seen)
    ∙ ap (λ n. read_declaration c.args.library.now c.loop-i.seen n (drop c.loop-i.place b)) (sym c.loop-i.invariant.opaques) in
    let few = c.opaque_count.ensures.one in
    let within = c.loop-i.invariant.few in
    let sum : c.loop-i.opaques + c.opaque_count.result ≡ opaques_of items + opaque_count one = ap (λ n. n + c.opaque_count.result) c.loop-i.invariant.opaques ∙ ap (λ n. opaques_of items + n) c.opaque_count.ensures.value in
    record {
      within = c.in_ok-one.ensures.value.within;
      seen = c.in_ok-one.ensures.seen ∙ (ap (λ z. z ++ declared_names one) c.loop-i.invariant.seen ∙ (sym (all_names_last items one) ∙ ap all_names (sym last)));
      opaques = sum ∙ (sym (opaques_last items one) ∙ ap opaques_of (sym last));
      few = omega (arith, few, within);
      left = item_more read items _ (c.in_ok-count.count - (c.loop-i._i + 1)) _ _ one (drop c.loop-i.place b) (drop c.read_declaration.new.place b) _
          c.loop-i.invariant.left (one_less c.in_ok-count.count c.loop-i._i c.loop-i-test.true) same c.in_ok-one.ensures.value.ok last;
    }
