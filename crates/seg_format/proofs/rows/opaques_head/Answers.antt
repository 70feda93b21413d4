use Rattle.std.proofs.Common.{◌+◌, ◌*◌, sym, ◌∙◌, ap, ℕ, take}
use Rattle.std.proofs.lemmas.List.{take_all}
use Rattle.seg_format.proofs.OpaqueLaws.{short_head, long_head}
use Rattle.seg_format.proofs.rows.opaques_head.Goals as goal

pub returns-then-bytes-lt4 : goal.returns-then-bytes-lt4
returns-then-bytes-lt4 c = sym (short_head c.args.bytes.now c.if-bytes-lt4.true)

pub returns-then-end-bytes : goal.returns-then-end-bytes
returns-then-end-bytes c = ap (λ (n : ℕ). take (4 + 24 * n) c.args.bytes.now) c.number_at.ensures ∙ sym (long_head c.args.bytes.now c.if-bytes-lt4.false)

pub returns-else-end-bytes : goal.returns-else-end-bytes
returns-else-end-bytes c =
    sym (take_all (4 + 24 * c.number_at.result) c.args.bytes.now c.if-end-bytes.false)
    ∙ (ap (λ (n : ℕ). take (4 + 24 * n) c.args.bytes.now) c.number_at.ensures ∙ sym (long_head c.args.bytes.now c.if-bytes-lt4.false))
