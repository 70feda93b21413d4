-- Each word that is missing or wrong is the first that is not understood.
use Rattle.std.proofs.Common.{map, string_bytes, subst, sym, ap, ◌∙◌}
use Rattle.cic_top.specs.CommandLine.{CommandLine, FirstNotUnderstood}
use Rattle.cic_top.specs.calls.Reading.{IsLibraryOf}
use Rattle.cic_top.proofs.CommandLines.{is_coqc, is_not_coqc, nothing_given, wrong_command, nothing_after_coqc, two_given, wrong_source, word_too_many, all_given}
use Rattle.cic_top.proofs.command_line.command.Goals as goal

pub returns-in_default : goal.returns-in_default
returns-in_default c =
    let none = c.in_default.ensures.item.3 in
    subst (λ ws. FirstNotUnderstood ws 1) (ap (map string_bytes) c.as_slice-items.ensures.value ∙ c.words.view_is) (nothing_given string_bytes _ none)

pub returns-then-ne : goal.returns-then-ne
returns-then-ne c =
    let some = c.in-Some.ensures.item.3 in
    subst (λ ws. FirstNotUnderstood ws 1) (ap (map string_bytes) c.as_slice-items.ensures.value ∙ c.words.view_is)
    (wrong_command string_bytes _ c.in-Some.first.now some.0 some.1 (λ e. is_not_coqc _ c.if-ne.ensures (c.as_str.ensures.value ∙ e)))

pub returns-in_default-get : goal.returns-in_default-get
returns-in_default-get c =
    let some = c.in-Some.ensures.item.3 in
    let is = is_coqc c.as_str.result.now c.if-ne.ensures in
    let none = c.in_default-get.ensures.lookup.3 in
    subst (λ ws. FirstNotUnderstood ws 2) (ap (map string_bytes) c.as_slice-items.ensures.value ∙ c.words.view_is)
    (nothing_after_coqc string_bytes _ c.in-Some.first.now some.0 some.1 (sym c.as_str.ensures.value ∙ is) none)

pub returns-in-None : goal.returns-in-None
returns-in-None c =
    let some = c.in-Some.ensures.item.3 in
    let is = is_coqc c.as_str.result.now c.if-ne.ensures in
    let two = c.in-Some-get.ensures.lookup.3 in
    let given = two_given string_bytes _ c.in-Some.first.now c.in-Some-get.second.now some.0 some.1 two.0 two.1 (sym c.as_str.ensures.value ∙ is) in
    let wrong = subst (λ found. IsLibraryOf found c.as_str-2.result.now) c.in-None.is c.in_ok-library.ensures in
    subst (λ ws. FirstNotUnderstood ws 2) (ap (map string_bytes) c.as_slice-items.ensures.value ∙ c.words.view_is)
    (wrong_source string_bytes _ c.in-Some-get.second.now given (λ library name e. wrong library name (c.as_str-2.ensures.value ∙ e)))

pub returns-in-Some-library : goal.returns-in-Some-library
returns-in-Some-library c =
    let some = c.in-Some.ensures.item.3 in
    let is = is_coqc c.as_str.result.now c.if-ne.ensures in
    let two = c.in-Some-get.ensures.lookup.3 in
    let given = two_given string_bytes _ c.in-Some.first.now c.in-Some-get.second.now some.0 some.1 two.0 two.1 (sym c.as_str.ensures.value ∙ is) in
    let found = subst (λ found. IsLibraryOf found c.as_str-2.result.now) c.in-Some-library.is c.in_ok-library.ensures in
    subst (λ ws. FirstNotUnderstood ws 3) (ap (map string_bytes) c.as_slice-items.ensures.value ∙ c.words.view_is)
    (word_too_many string_bytes _ c.in-Some-get.second.now c.in-Some-library.field-0 given found.0 (sym c.as_str-2.ensures.value ∙ found.1) c.if-items-gt2.true)

pub returns-in-Some-2 : goal.returns-in-Some-2
returns-in-Some-2 c =
    let some = c.in-Some.ensures.item.3 in
    let is = is_coqc c.as_str.result.now c.if-ne.ensures in
    let two = c.in-Some-get.ensures.lookup.3 in
    let given = two_given string_bytes _ c.in-Some.first.now c.in-Some-get.second.now some.0 some.1 two.0 two.1 (sym c.as_str.ensures.value ∙ is) in
    let found = subst (λ found. IsLibraryOf found c.as_str-2.result.now) c.in-Some-library.is c.in_ok-library.ensures in
    subst (λ ws. CommandLine ws c.in-Some-library.field-0) (ap (map string_bytes) c.as_slice-items.ensures.value ∙ c.words.view_is)
    (all_given string_bytes _ c.in-Some-get.second.now c.in-Some-library.field-0 given found.0 (sym c.as_str-2.ensures.value ∙ found.1) c.if-items-gt2.false)
