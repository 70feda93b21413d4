-- The same numbering meets the part.
use Rattle.univ_cycles.proofs.Cycles.{consistent_part}
use Rattle.univ_cycles.proofs.laws.consistency_passes_to_parts.Goals as goal

pub returns : goal.returns
returns c = consistent_part
