use Rattle.std.proofs.Common.{true, ◌≡◌, ◌+◌, ◌≤◌, length, drop, sym, ap, ◌∙◌, arith}
use Rattle.std.specs.List.{list_any}
use Rattle.std.proofs.lemmas.Bool.{or_right}
use Rattle.std.proofs.lemmas.List.{length_push}
use Rattle.cic_terms.specs.Denotes.{tree}
use Rattle.cic_counted.specs.Readings.{arguments_of}
use Rattle.cic_counted.specs.BlockTests.{occurs, occurs_in_any}
use Rattle.cic_positivity.specs.calls.Parts.{ids_of}
use Rattle.cic_positivity.proofs.OccurringIds.{behind_push}
use Rattle.cic_positivity.proofs.occurrences.occurs_behind.Goals as goal

pub returns-then-occurs : goal.returns-then-occurs
returns-then-occurs c =
    let ids = ids_of c.args.types.now in
    let function = tree c.in-App-at.function.value in
    let argument = tree c.in-App-at.argument.value in
    let ahead : length (arguments_of (tree c.loop-ahead.ahead.now)) ≡ length (arguments_of (tree c.in-App.further.value)) + 1 =
    ap (λ z. length (arguments_of (tree z))) c.in-App.is ∙ length_push (arguments_of (tree c.in-App.further.value)) (tree c.in-App.field-1.value) in
    let at : length (arguments_of (tree c.loop-ahead.at.now)) ≡ length (arguments_of function) + 1 =
    ap (λ z. length (arguments_of (tree z))) c.in-App-at.is ∙ length_push (arguments_of function) argument in
    let invariant = c.loop-ahead.invariant.0 in
    let behind : c.args.count ≤ length (arguments_of function) = omega arith in
    let found : occurs ids argument ≡ true = ap (λ z. occurs ids (tree z)) (sym c.deref.ensures) ∙ sym c.occurs.ensures ∙ c.if-occurs.true in
    sym (ap (λ z. occurs_in_any ids (drop c.args.count (arguments_of (tree z)))) c.in-App-at.is
    ∙ behind_push (occurs ids) c.args.count (arguments_of function) argument behind
    ∙ or_right (list_any (occurs ids) (drop c.args.count (arguments_of function))) (occurs ids argument) found)
    ∙ c.loop-ahead.invariant.1
