-- The first character, and those after it.
use Rattle.std.proofs.Common.{ap, sym, ◌∙◌, ◌&&◌, subst}
use Rattle.std.proofs.lemmas.Str.{chars_past_char}
use Rattle.std.specs.List.{list_all}
use Rattle.std.specs.Str.{chars, IsUtf8}
use Rattle.cic_names.specs.Identifier.{is_word, is_further}
use Rattle.cic_names.proofs.name.is_word.Goals as goal

pub returns-then-is_first : goal.returns-then-is_first
returns-then-is_first c =
    let rest = ap (λ bs. chars bs) (sym c.chars-further.ensures.rest) ∙ chars_past_char _ _ _ (subst (λ bs. IsUtf8 bs) (sym c.chars-further.ensures.rest) c.utf8.text) c.in-Some.ensures.steps.0 in
    let first = sym c.is_first.ensures ∙ c.if-is_first.true in
    let further = c.are_further.ensures ∙ ap (λ bs. list_all is_further (chars bs)) c.as_str.ensures in
    further ∙ sym (ap is_word rest ∙ ap (λ b. b && list_all is_further (chars c.next.new.self.rest.now)) first)
