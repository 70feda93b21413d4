use Rattle.std.proofs.Common.{◌++◌, sym, ap, ◌∙◌, arith, ℕ, List}
use Rattle.std.proofs.lemmas.List.{take_all}
use Rattle.md5.specs.Md5.{md5}
use Rattle.seg_format.proofs.OpaqueLaws.{digested_opaques, digested_other}
use Rattle.seg_format.proofs.pieces.Pieces.digest.Goals as goal

pub returns-in-Opaques : goal.returns-in-Opaques
returns-in-Opaques c =
    let both : List ℕ = c.args.self.now.front.now ++ c.args.self.now.rest.now in
    rw c.in-Opaques.is
    (c.digest_of_first.ensures ∙ ap (λ (bs : List ℕ). md5 bs) (c.opaques_head_len.ensures.head ∙ sym (digested_opaques both)))

pub returns-in_default : goal.returns-in_default
returns-in_default c =
    let both : List ℕ = c.args.self.now.front.now ++ c.args.self.now.rest.now in
    let all = c.len.ensures in
    c.digest_of_first-in_default.ensures
    ∙ ap (λ (bs : List ℕ). md5 bs) (take_all c.len.result both (omega (arith, all)) ∙ sym (digested_other c.args.segment both c.in_default.not-Opaques))
