use Rattle.seg_format.proofs.FrontLaws.{table_from_its_bytes, rows_from_their_bytes}
use Rattle.seg_format.proofs.laws.table_from_its_bytes.Goals as goal

pub returns-clause-demands : goal.returns-clause-demands
returns-clause-demands c = table_from_its_bytes

pub returns-clause-rows : goal.returns-clause-rows
returns-clause-rows c = rows_from_their_bytes
