-- What is left of the text passes where the whole does.
use Rattle.std.proofs.Common.{◌≡◌, ap, sym, ◌∙◌, ◌&&◌, [], List, ℕ, length, arith}
use Rattle.std.proofs.lemmas.Grind.{common_steps}
use Rattle.std.proofs.lemmas.Str.{chars_past_char, IsUtf8-past_char, chars-nil}
use Rattle.std.specs.List.{list_all}
use Rattle.std.specs.Str.{chars}
use Rattle.cic_names.specs.Identifier.{is_further}
use Rattle.cic_names.proofs.name.are_further.Goals as goal

empty : (bs : List ℕ) → length bs ≡ 0 → bs ≡ []
empty bs h = grind (arith, common_steps)

pub returns-then-not-is_further : goal.returns-then-not-is_further
returns-then-not-is_further c =
    let rest = chars_past_char _ _ _ c.loop-c.invariant.1 c.in-Some.ensures.steps.0 in
    let one = sym c.is_further.ensures ∙ c.if-not-is_further.true in
    sym (sym c.loop-c.invariant.0 ∙ ap (list_all is_further) rest ∙ ap (λ b. b && list_all is_further (chars c.next.new.self.rest.now)) one)

pub loop-c-preserved : goal.loop-c-preserved
loop-c-preserved c =
    let rest = chars_past_char _ _ _ c.loop-c.invariant.1 c.in-Some.ensures.steps.0 in
    let one = sym c.is_further.ensures ∙ c.if-not-is_further.false in (
      sym (sym c.loop-c.invariant.0 ∙ ap (list_all is_further) rest ∙ ap (λ b. b && list_all is_further (chars c.next.new.self.rest.now)) one),
      IsUtf8-past_char _ _ _ c.loop-c.invariant.1 c.in-Some.ensures.steps.0,
    )

pub returns : goal.returns
returns c =
    let none = empty _ c.in-None.ensures.steps.0.0 in
    sym (sym c.loop-c.invariant.0 ∙ ap (λ bs. list_all is_further (chars bs)) none ∙ ap (list_all is_further) chars-nil)
