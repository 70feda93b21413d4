use Rattle.std.proofs.Common.{sym, ◌∙◌}
use Rattle.seg_format.proofs.NumberLaws.{number_at-index}
use Rattle.seg_format.proofs.fields.number_at.Goals as goal

pub returns : goal.returns
returns c = c.from_be_bytes.ensures ∙ sym (number_at-index c.args.bytes.now c.args.place)
