use Rattle.std.proofs.Common.{sym, ◌∙◌}
use Rattle.seg_format.proofs.OpaqueLaws.{digested_opaques, digested_other}
use Rattle.seg_format.proofs.rows.digested.Goals as goal

pub returns-in-Opaques : goal.returns-in-Opaques
returns-in-Opaques c = rw c.in-Opaques.is (c.opaques_head.ensures ∙ sym (digested_opaques c.args.bytes.now))

pub returns-in_default : goal.returns-in_default
returns-in_default c = sym (digested_other c.args.segment c.args.bytes.now c.in_default.not-Opaques)
