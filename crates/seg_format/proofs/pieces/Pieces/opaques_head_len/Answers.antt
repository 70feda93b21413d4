use Rattle.std.proofs.Common.{◌≡◌, ◌++◌, ◌+◌, ◌*◌, length, take, sym, ap, ◌∙◌, arith, refl, List, ℕ, min}
use Rattle.std.proofs.lemmas.List.{take_all, take_min}
use Rattle.seg_format.specs.Numbers.{number_at}
use Rattle.seg_format.proofs.NumberLaws.{number_at-index}
use Rattle.seg_format.proofs.OpaqueLaws.{short_head, long_head}
use Rattle.seg_format.proofs.pieces.Pieces.opaques_head_len.Goals as goal

pub returns-then-all-lt4-clause-head : goal.returns-then-all-lt4-clause-head
returns-then-all-lt4-clause-head c =
    let both : List ℕ = c.args.self.now.front.now ++ c.args.self.now.rest.now in
    let all : c.len-all.result ≡ length both = c.len-all.ensures in
    take_all c.len-all.result both (omega (arith, all)) ∙ sym (short_head both (omega (arith, all, c.if-all-lt4.true)))

pub returns-clause-head : goal.returns-clause-head
returns-clause-head c =
    let both : List ℕ = c.args.self.now.front.now ++ c.args.self.now.rest.now in
    let all : c.len-all.result ≡ length both = c.len-all.ensures in
    let count : c.from_be_bytes-count.result ≡ number_at both 0 = c.from_be_bytes-count.ensures ∙ (rw (c.byte.ensures, c.byte-2.ensures, c.byte-3.ensures, c.byte-4.ensures) (sym (number_at-index both 0))) in
    let end : c.min.result ≡ min (4 + 24 * number_at both 0) (length both) = c.min.ensures ∙ rw (all, count) refl in
    ap (λ (n : ℕ). take n both) end ∙ (take_min (4 + 24 * number_at both 0) both ∙ sym (long_head both (omega (arith, all, c.if-all-lt4.false))))
