-- What the program's refusals and answers stand for.
use Rattle.cic_work.specs.Verdicts.{cause_of}
use Rattle.cic_top.specs.Refusals as R
use Rattle.cic_top.specs.declared.answer.Refusal.{Refusal}
use Rattle.cic_top.specs.declared.answer.Refusal.TheVariants.{NoFile, NotYet, Duplicate, Unknown, Ill, Spent, Deep}
use Rattle.cic_top.specs.declared.answer.Answer.{Answer}
use Rattle.cic_top.specs.declared.answer.Answer.TheVariants.{Passed, Words, Refused, ReadFault, SinkFault, NoMemory}

abbrev pub refusal_of : Refusal → R.Refusal
refusal_of (NoFile name) = R.no_file name
refusal_of (NotYet name place) = R.not_yet name place
refusal_of (Duplicate name) = R.duplicate name
refusal_of (Unknown name) = R.unknown name
refusal_of (Ill id cause) = R.ill id (cause_of cause)
refusal_of (Spent id budget) = R.spent id budget
refusal_of (Deep id) = R.deep id

abbrev pub answer_of : Answer → R.Answer
answer_of Passed = R.passed
answer_of (Words k) = R.not_understood k
answer_of (Refused r) = R.refused (refusal_of r)
answer_of ReadFault = R.read_fault
answer_of SinkFault = R.sink_fault
answer_of NoMemory = R.no_memory
