-- A text is an identifier exactly where the three tests of the definition hold.
use Rattle.std.proofs.Common.{◌≡◌, refl, ap, sym, ◌∙◌, true, false, Bool, not, ◌&&◌, List, ℕ, true≢false}
use Rattle.std.proofs.lemmas.Str.{is_utf8-from_IsUtf8, IsUtf8-from_is_utf8}
use Rattle.std.specs.Str.{chars, IsUtf8, is_utf8}
use Rattle.cic_names.specs.Identifier.{is_word, is_reserved, IsIdentifier}
use Rattle.cic_names.proofs.name.identifier.Goals as goal
use Rattle.cic_names.proofs.name.identifier.Goals.{in_default-via-in-Ok+then-is_word+else-not-is_reserved, in_default-via-in-Ok+else-is_word, in_default-via-in_default}

is : (bs : List ℕ) → IsUtf8 bs → is_word (chars bs) ≡ true → is_reserved bs ≡ false → IsIdentifier bs
is bs u w r = ap (λ b. b && is_word (chars bs) && not (is_reserved bs)) (is_utf8-from_IsUtf8 bs u) ∙ ap (λ b. true && b && not (is_reserved bs)) w ∙ ap (λ b. not b) r

both : (a b : Bool) → a && b ≡ true → (a ≡ true) × (b ≡ true)
both true true h = (refl, refl)
both true false h = absurd (true≢false (sym h))
both false b h = absurd (true≢false (sym h))

parts : (bs : List ℕ) → IsIdentifier bs → IsUtf8 bs × (is_word (chars bs) ≡ true) × (not (is_reserved bs) ≡ true)
parts bs h =
    let p = both (is_utf8 bs && is_word (chars bs)) (not (is_reserved bs)) h in
    let q = both (is_utf8 bs) (is_word (chars bs)) p.0 in
    (IsUtf8-from_is_utf8 bs q.0, q.1, p.1)

pub returns-in-Ok-clause-found : goal.returns-in-Ok-clause-found
returns-in-Ok-clause-found c =
    let e = c.in-Ok.ensures.cases in
    let w = ap (λ bs. is_word (chars bs)) (sym e.0) ∙ sym c.is_word.ensures ∙ c.if-is_word.true in
    let r = ap (λ bs. is_reserved bs) (sym e.0) ∙ sym c.is_reserved.ensures ∙ c.if-not-is_reserved.true in
    is c.args.bytes.now e.1 w r

pub returns-in_default-clause-absent : goal.returns-in_default-clause-absent
returns-in_default-clause-absent c = elim c.in_default.branch [
  | in_default-via-in-Ok+then-is_word+else-not-is_reserved w ↦ λ h.
      let e = w.in-Ok.ensures.cases in
      let r = ap (λ bs. not (is_reserved bs)) (sym e.0) ∙ ap not (sym w.is_reserved.ensures ∙ w.if-not-is_reserved.false) in
      true≢false (sym (parts c.args.bytes.now h).2 ∙ r)
  | in_default-via-in-Ok+else-is_word w ↦ λ h.
      let e = w.in-Ok.ensures.cases in
      true≢false (sym (parts c.args.bytes.now h).1 ∙ ap (λ bs. is_word (chars bs)) (sym e.0) ∙ sym w.is_word.ensures ∙ w.if-is_word.false)
  | in_default-via-in_default w ↦ λ h. w.in_default.ensures.cases.0 (parts c.args.bytes.now h).0
]
