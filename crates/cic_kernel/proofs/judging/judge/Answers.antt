use Rattle.cic_kernel.proofs.judging.judge.Goals as goal

pub judge_block-requires-clause-new : goal.judge_block-requires-clause-new
judge_block-requires-clause-new g c = rw c.in-Inductive.is at c.requires.new
