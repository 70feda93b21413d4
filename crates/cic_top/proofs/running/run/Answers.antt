use Rattle.std.proofs.Common.{refl, inl, inr}
use Rattle.cic_top.proofs.Promises.{said-stated, said-says, said-words_only, said-words_where, said-refused_only, said-refused_where, said-passed_where, said-passed_only, said-formed, said-no_read_fault, said-no_sink_fault, said-no_fault, read-no_word, sink-no_word, memory-no_word, read-no_refusal, sink-no_refusal, memory-no_refusal, read-no_pass, sink-no_pass, memory-no_pass, read-no_sink, sink-no_read, memory-no_read, memory-no_sink, sink-sent, or-read, or-sink, or-memory}
use Rattle.cic_top.proofs.running.run.Goals as goal

pub returns-in-Ok-write-clause-stated : goal.returns-in-Ok-write-clause-stated
returns-in-Ok-write-clause-stated g c = said-stated c.in-Ok.ensures.says _ _ (rw c.as_bytes.ensures.value at c.in-Ok-write.ensures.sent)

pub returns-in-Ok-write-clause-says : goal.returns-in-Ok-write-clause-says
returns-in-Ok-write-clause-says g c = said-says c.in-Ok.ensures.says _ _ (rw c.as_bytes.ensures.value at c.in-Ok-write.ensures.sent)

pub returns-in-Ok-write-clause-words_only : goal.returns-in-Ok-write-clause-words_only
returns-in-Ok-write-clause-words_only g c = said-words_only c.in-Ok.ensures.says

pub returns-in-Ok-write-clause-words_where : goal.returns-in-Ok-write-clause-words_where
returns-in-Ok-write-clause-words_where g c = said-words_where c.in-Ok.ensures.says

pub returns-in-Ok-write-clause-refused_only : goal.returns-in-Ok-write-clause-refused_only
returns-in-Ok-write-clause-refused_only g c = said-refused_only c.in-Ok.ensures.says

pub returns-in-Ok-write-clause-refused_where : goal.returns-in-Ok-write-clause-refused_where
returns-in-Ok-write-clause-refused_where g c = said-refused_where c.in-Ok.ensures.says

pub returns-in-Ok-write-clause-passed_where : goal.returns-in-Ok-write-clause-passed_where
returns-in-Ok-write-clause-passed_where g c = said-passed_where c.in-Ok.ensures.says

pub returns-in-Ok-write-clause-read_fault : goal.returns-in-Ok-write-clause-read_fault
returns-in-Ok-write-clause-read_fault g c = said-no_read_fault c.in-Ok.ensures.says

pub returns-in-Ok-write-clause-sink_fault : goal.returns-in-Ok-write-clause-sink_fault
returns-in-Ok-write-clause-sink_fault g c = said-no_sink_fault c.in-Ok.ensures.says

pub returns-in-Ok-write-clause-read_quiet : goal.returns-in-Ok-write-clause-read_quiet
returns-in-Ok-write-clause-read_quiet g c = λ _. c.in-Ok.ensures.quiet

pub returns-in-Ok-write-clause-sink_quiet : goal.returns-in-Ok-write-clause-sink_quiet
returns-in-Ok-write-clause-sink_quiet g c = λ _. c.in-Ok-write.ensures.quiet

pub returns-in-Ok-write-clause-files : goal.returns-in-Ok-write-clause-files
returns-in-Ok-write-clause-files g c = c.in-Ok.ensures.files

pub returns-in-Ok-write-clause-unsent : goal.returns-in-Ok-write-clause-unsent
returns-in-Ok-write-clause-unsent g c = said-no_fault c.in-Ok.ensures.says

pub returns-in-Ok-write-clause-part : goal.returns-in-Ok-write-clause-part
returns-in-Ok-write-clause-part g c = said-no_sink_fault c.in-Ok.ensures.says

pub returns-in-Err-Failed-write-clause-stated : goal.returns-in-Err-Failed-write-clause-stated
returns-in-Err-Failed-write-clause-stated g c = λ fs sent is_told is_sent quiet. absurd (quiet (inr c.in-Err-Failed-write.ensures.failed))

pub returns-in-Err-Failed-write-clause-words_only : goal.returns-in-Err-Failed-write-clause-words_only
returns-in-Err-Failed-write-clause-words_only g c = λ k e. sink-no_word k e

pub returns-in-Err-Failed-write-clause-words_where : goal.returns-in-Err-Failed-write-clause-words_where
returns-in-Err-Failed-write-clause-words_where g c = λ k _. or-sink _

pub returns-in-Err-Failed-write-clause-refused_only : goal.returns-in-Err-Failed-write-clause-refused_only
returns-in-Err-Failed-write-clause-refused_only g c = λ fs r _ e. sink-no_refusal r e

pub returns-in-Err-Failed-write-clause-refused_where : goal.returns-in-Err-Failed-write-clause-refused_where
returns-in-Err-Failed-write-clause-refused_where g c = λ fs r _ _. or-sink _

pub returns-in-Err-Failed-write-clause-passed_where : goal.returns-in-Err-Failed-write-clause-passed_where
returns-in-Err-Failed-write-clause-passed_where g c = λ fs E _ _. or-sink _

pub returns-in-Err-Failed-write-clause-read_fault : goal.returns-in-Err-Failed-write-clause-read_fault
returns-in-Err-Failed-write-clause-read_fault g c = sink-no_read

pub returns-in-Err-Failed-write-clause-sink_fault : goal.returns-in-Err-Failed-write-clause-sink_fault
returns-in-Err-Failed-write-clause-sink_fault g c = λ _. c.in-Err-Failed-write.ensures.failed

pub returns-in-Err-Failed-write-clause-read_quiet : goal.returns-in-Err-Failed-write-clause-read_quiet
returns-in-Err-Failed-write-clause-read_quiet g c = λ _. c.in-Ok.ensures.quiet

pub returns-in-Err-Failed-write-clause-sink_quiet : goal.returns-in-Err-Failed-write-clause-sink_quiet
returns-in-Err-Failed-write-clause-sink_quiet g c = λ no_fault. absurd (no_fault refl)

pub returns-in-Err-Failed-write-clause-files : goal.returns-in-Err-Failed-write-clause-files
returns-in-Err-Failed-write-clause-files g c = c.in-Ok.ensures.files

pub returns-in-Err-Failed-write-clause-unsent : goal.returns-in-Err-Failed-write-clause-unsent
returns-in-Err-Failed-write-clause-unsent g c = sink-sent

pub returns-in-Err-Failed-write-clause-part : goal.returns-in-Err-Failed-write-clause-part
returns-in-Err-Failed-write-clause-part g c = λ _. record { answer = _; output = _; says = c.in-Ok.ensures.says; sends = rw c.as_bytes.ensures.value at c.in-Err-Failed-write.ensures.part }

pub returns-in-Err-Failed-clause-stated : goal.returns-in-Err-Failed-clause-stated
returns-in-Err-Failed-clause-stated g c = λ fs sent is_told is_sent quiet. absurd (quiet (inl (rw c.in-Err-Failed.field-0-is at c.in-Err-Failed.ensures.failed)))

pub returns-in-Err-Failed-clause-words_only : goal.returns-in-Err-Failed-clause-words_only
returns-in-Err-Failed-clause-words_only g c = λ k e. read-no_word k e

pub returns-in-Err-Failed-clause-words_where : goal.returns-in-Err-Failed-clause-words_where
returns-in-Err-Failed-clause-words_where g c = λ k _. or-read _

pub returns-in-Err-Failed-clause-refused_only : goal.returns-in-Err-Failed-clause-refused_only
returns-in-Err-Failed-clause-refused_only g c = λ fs r _ e. read-no_refusal r e

pub returns-in-Err-Failed-clause-refused_where : goal.returns-in-Err-Failed-clause-refused_where
returns-in-Err-Failed-clause-refused_where g c = λ fs r _ _. or-read _

pub returns-in-Err-Failed-clause-passed_where : goal.returns-in-Err-Failed-clause-passed_where
returns-in-Err-Failed-clause-passed_where g c = λ fs E _ _. or-read _

pub returns-in-Err-Failed-clause-read_fault : goal.returns-in-Err-Failed-clause-read_fault
returns-in-Err-Failed-clause-read_fault g c = λ _. rw c.in-Err-Failed.field-0-is at c.in-Err-Failed.ensures.failed

pub returns-in-Err-Failed-clause-sink_fault : goal.returns-in-Err-Failed-clause-sink_fault
returns-in-Err-Failed-clause-sink_fault g c = read-no_sink

pub returns-in-Err-Failed-clause-read_quiet : goal.returns-in-Err-Failed-clause-read_quiet
returns-in-Err-Failed-clause-read_quiet g c = λ no_fault. absurd (no_fault refl)

pub returns-in-Err-Failed-clause-sink_quiet : goal.returns-in-Err-Failed-clause-sink_quiet
returns-in-Err-Failed-clause-sink_quiet g c = λ _. refl

pub returns-in-Err-Failed-clause-files : goal.returns-in-Err-Failed-clause-files
returns-in-Err-Failed-clause-files g c = c.in-Err-Failed.ensures.files

pub returns-in-Err-Failed-clause-unsent : goal.returns-in-Err-Failed-clause-unsent
returns-in-Err-Failed-clause-unsent g c = λ _. refl

pub returns-in-Err-Failed-clause-part : goal.returns-in-Err-Failed-clause-part
returns-in-Err-Failed-clause-part g c = read-no_sink

pub returns-in-Err-NoMemory-clause-stated : goal.returns-in-Err-NoMemory-clause-stated
returns-in-Err-NoMemory-clause-stated g c = λ fs sent is_told is_sent quiet. inl refl

pub returns-in-Err-NoMemory-clause-words_only : goal.returns-in-Err-NoMemory-clause-words_only
returns-in-Err-NoMemory-clause-words_only g c = λ k e. memory-no_word k e

pub returns-in-Err-NoMemory-clause-words_where : goal.returns-in-Err-NoMemory-clause-words_where
returns-in-Err-NoMemory-clause-words_where g c = λ k _. or-memory _

pub returns-in-Err-NoMemory-clause-refused_only : goal.returns-in-Err-NoMemory-clause-refused_only
returns-in-Err-NoMemory-clause-refused_only g c = λ fs r _ e. memory-no_refusal r e

pub returns-in-Err-NoMemory-clause-refused_where : goal.returns-in-Err-NoMemory-clause-refused_where
returns-in-Err-NoMemory-clause-refused_where g c = λ fs r _ _. or-memory _

pub returns-in-Err-NoMemory-clause-passed_where : goal.returns-in-Err-NoMemory-clause-passed_where
returns-in-Err-NoMemory-clause-passed_where g c = λ fs E _ _. or-memory _

pub returns-in-Err-NoMemory-clause-read_fault : goal.returns-in-Err-NoMemory-clause-read_fault
returns-in-Err-NoMemory-clause-read_fault g c = memory-no_read

pub returns-in-Err-NoMemory-clause-sink_fault : goal.returns-in-Err-NoMemory-clause-sink_fault
returns-in-Err-NoMemory-clause-sink_fault g c = memory-no_sink

pub returns-in-Err-NoMemory-clause-read_quiet : goal.returns-in-Err-NoMemory-clause-read_quiet
returns-in-Err-NoMemory-clause-read_quiet g c = λ _. rw c.in-Err-NoMemory.field-0-is at c.in-Err-NoMemory.ensures.quiet

pub returns-in-Err-NoMemory-clause-sink_quiet : goal.returns-in-Err-NoMemory-clause-sink_quiet
returns-in-Err-NoMemory-clause-sink_quiet g c = λ _. refl

pub returns-in-Err-NoMemory-clause-files : goal.returns-in-Err-NoMemory-clause-files
returns-in-Err-NoMemory-clause-files g c = c.in-Err-NoMemory.ensures.files

pub returns-in-Err-NoMemory-clause-unsent : goal.returns-in-Err-NoMemory-clause-unsent
returns-in-Err-NoMemory-clause-unsent g c = λ _. refl

pub returns-in-Err-NoMemory-clause-part : goal.returns-in-Err-NoMemory-clause-part
returns-in-Err-NoMemory-clause-part g c = memory-no_sink

pub returns-in-Ok-write-clause-passed_only : goal.returns-in-Ok-write-clause-passed_only
returns-in-Ok-write-clause-passed_only g c = said-passed_only c.in-Ok.ensures.says

pub returns-in-Err-Failed-write-clause-passed_only : goal.returns-in-Err-Failed-write-clause-passed_only
returns-in-Err-Failed-write-clause-passed_only g c = λ fs _ e. sink-no_pass e

pub returns-in-Err-Failed-clause-passed_only : goal.returns-in-Err-Failed-clause-passed_only
returns-in-Err-Failed-clause-passed_only g c = λ fs _ e. read-no_pass e

pub returns-in-Err-NoMemory-clause-passed_only : goal.returns-in-Err-NoMemory-clause-passed_only
returns-in-Err-NoMemory-clause-passed_only g c = λ fs _ e. memory-no_pass e

pub returns-in-Ok-write-clause-formed : goal.returns-in-Ok-write-clause-formed
returns-in-Ok-write-clause-formed g c = said-formed c.in-Ok.ensures.says _ _ (rw c.as_bytes.ensures.value at c.in-Ok-write.ensures.sent)

pub returns-in-Err-Failed-write-clause-formed : goal.returns-in-Err-Failed-write-clause-formed
returns-in-Err-Failed-write-clause-formed g c = sink-no_pass

pub returns-in-Err-Failed-clause-formed : goal.returns-in-Err-Failed-clause-formed
returns-in-Err-Failed-clause-formed g c = read-no_pass

pub returns-in-Err-NoMemory-clause-formed : goal.returns-in-Err-NoMemory-clause-formed
returns-in-Err-NoMemory-clause-formed g c = memory-no_pass
