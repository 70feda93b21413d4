use Rattle.seg_format.proofs.OnlyLaws.{only}
use Rattle.seg_format.proofs.reading.Segments.of.Goals as goal

pub returns-clause-only : goal.returns-clause-only
returns-clause-only c = only c.args.bytes.now c.take_apart.result c.take_apart.ensures.spells c.take_apart.ensures.fault
