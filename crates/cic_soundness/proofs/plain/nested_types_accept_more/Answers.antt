use Rattle.cic_soundness.proofs.plain.nested_types_accept_more.Goals as goal
use Rattle.cic_soundness.proofs.blocks.PlainIsNested.{positive_block_is_nested}

pub returns-clause-blocks : goal.returns-clause-blocks
returns-clause-blocks c = positive_block_is_nested
