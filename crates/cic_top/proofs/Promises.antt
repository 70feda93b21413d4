-- What `run` promises, clause by clause, where the command's own answer is given, and where a fault is.
use Rattle.std.proofs.Common.{◌≡◌, ℕ, ◌++◌, List, refl, subst, inl, inr}
use Rattle.std.specs.Prelude.{Option, Some, ◌⊎◌}
use Rattle.cic_io.specs.Files.{Files, file_at}
use Rattle.cic_io.specs.Sending.{SentAll}
use Rattle.cic_rules.specs.Environment.{Environment}
use Rattle.cic_top.specs.CommandLine.{FirstNotUnderstood}
use Rattle.cic_top.specs.Refusals as R
use Rattle.cic_top.specs.Command.{Contents, Refuses, Accepts, IsAccepted, Answers, is_misread, refuses, accepts, AreContentsOf}
use Rattle.cic_top.specs.Runs.{Says, UnlessFault, IsOrFault, SaysAndSends, AnswersAsStatedUnlessFaults}
use Rattle.cic_top.specs.Formed.{AcceptsFormed}
use Rattle.cic_top.proofs.Compilations.{compiled-is_formed}
use Rattle.cic_top.proofs.Answered.{no_read_fault, no_sink_fault, no_memory_fault, unless_fault, answered-word, answered-refusal, answered-pass, word-is_answered, refusal-is_answered, pass-is_answered}

-- Over told files the contents are those of the files.
content-told : (content : Contents) (told : Option Files) (fs : Files) → told ≡ Some fs → AreContentsOf content told → content ≡ file_at fs
content-told content told fs is_told h = let P : Option Files → Type 0 = AreContentsOf content in subst P is_told h

sent-told : (old new : Option (List ℕ)) (output sent : List ℕ) → old ≡ Some sent → SentAll old output new → new ≡ Some (sent ++ output)
sent-told old new output sent is_sent h = let P : Option (List ℕ) → Type 0 = λ o. SentAll o output new in subst P is_sent h

-- A command that passes has an environment that is formed at every numbering.
passed-formed : {words : List (List ℕ)} {told : Option Files} {a : R.Answer} {output : List ℕ} (content : Contents) → AreContentsOf content told → Answers words content a output →
    (old new : Option (List ℕ)) → SentAll old output new → a ≡ R.passed → AcceptsFormed words told old new
passed-formed content of_folder (is_misread m t) old new sends e = absurd cc
passed-formed content of_folder (refuses m t) old new sends e = absurd cc
passed-formed content of_folder (accepts {E = E} {output = output} m t) old new sends e = record {
  E = E;
  content = content;
  of_folder = of_folder;
  accepts = m;
  formed = λ N _. compiled-is_formed N m.source.compiles;
  output = output;
  list = t;
  sends = sends;
}

module _ {words : List (List ℕ)} {told : Option Files} {a : R.Answer} {output : List ℕ} (says : Says words told a output) where
  answers-told : (fs : Files) → told ≡ Some fs → Answers words (file_at fs) a output
  answers-told fs is_told = subst (λ content. Answers words content a output) (content-told says.content told fs is_told says.of_folder) says.answers

  pub said-stated : (old new : Option (List ℕ)) {rose : Type 0} → SentAll old output new → AnswersAsStatedUnlessFaults words told a old new rose
  said-stated old new sends fs sent is_told is_sent quiet =
      inr (record { output = output; answers = answers-told fs is_told; sends = sent-told old new output sent is_sent sends })

  pub said-says : (old new : Option (List ℕ)) → SentAll old output new → UnlessFault a (SaysAndSends words told a old new)
  said-says old new sends = unless_fault says.answers (record { output = output; says = says; sends = sends })

  pub said-words_only : (k : ℕ) → a ≡ R.not_understood k → FirstNotUnderstood words k
  said-words_only = answered-word says.answers

  pub said-words_where : (k : ℕ) → FirstNotUnderstood words k → IsOrFault a (R.not_understood k)
  said-words_where k first = inl (word-is_answered says.answers k first)

  pub said-refused_only : (fs : Files) (r : R.Refusal) → told ≡ Some fs → a ≡ R.refused r → Refuses words (file_at fs) r
  said-refused_only fs r is_told e = answered-refusal (answers-told fs is_told) r e

  pub said-refused_where : (fs : Files) (r : R.Refusal) → told ≡ Some fs → Refuses words (file_at fs) r → IsOrFault a (R.refused r)
  said-refused_where fs r is_told why = inl (refusal-is_answered (answers-told fs is_told) r why)

  pub said-passed_only : (fs : Files) → told ≡ Some fs → a ≡ R.passed → IsAccepted words (file_at fs)
  said-passed_only fs is_told e = answered-pass (answers-told fs is_told) e

  pub said-passed_where : (fs : Files) (E : Environment) → told ≡ Some fs → Accepts words (file_at fs) E → IsOrFault a R.passed
  said-passed_where fs E is_told why = inl (pass-is_answered (answers-told fs is_told) E why)

  pub said-formed : (old new : Option (List ℕ)) → SentAll old output new → a ≡ R.passed → AcceptsFormed words told old new
  said-formed old new sends = passed-formed says.content says.of_folder says.answers old new sends

  pub said-no_read_fault : {P : Type 0} → a ≡ R.read_fault → P
  said-no_read_fault = no_read_fault says.answers

  pub said-no_sink_fault : {P : Type 0} → a ≡ R.sink_fault → P
  said-no_sink_fault = no_sink_fault says.answers

  pub said-no_fault : {P : Type 0} → (a ≡ R.read_fault) ⊎ (a ≡ R.no_memory) → P
  said-no_fault (inl e) = no_read_fault says.answers e
  said-no_fault (inr e) = no_memory_fault says.answers e

-- Answers that are faults are no others.
pub read-no_word : {P : Type 0} (k : ℕ) → R.read_fault ≡ R.not_understood k → P
read-no_word k e = absurd cc

pub sink-no_word : {P : Type 0} (k : ℕ) → R.sink_fault ≡ R.not_understood k → P
sink-no_word k e = absurd cc

pub memory-no_word : {P : Type 0} (k : ℕ) → R.no_memory ≡ R.not_understood k → P
memory-no_word k e = absurd cc

pub read-no_refusal : {P : Type 0} (r : R.Refusal) → R.read_fault ≡ R.refused r → P
read-no_refusal r e = absurd cc

pub sink-no_refusal : {P : Type 0} (r : R.Refusal) → R.sink_fault ≡ R.refused r → P
sink-no_refusal r e = absurd cc

pub memory-no_refusal : {P : Type 0} (r : R.Refusal) → R.no_memory ≡ R.refused r → P
memory-no_refusal r e = absurd cc

pub read-no_pass : {P : Type 0} → R.read_fault ≡ R.passed → P
read-no_pass e = absurd cc

pub sink-no_pass : {P : Type 0} → R.sink_fault ≡ R.passed → P
sink-no_pass e = absurd cc

pub memory-no_pass : {P : Type 0} → R.no_memory ≡ R.passed → P
memory-no_pass e = absurd cc

pub read-no_sink : {P : Type 0} → R.read_fault ≡ R.sink_fault → P
read-no_sink e = absurd cc

pub sink-no_read : {P : Type 0} → R.sink_fault ≡ R.read_fault → P
sink-no_read e = absurd cc

pub memory-no_read : {P : Type 0} → R.no_memory ≡ R.read_fault → P
memory-no_read e = absurd cc

pub memory-no_sink : {P : Type 0} → R.no_memory ≡ R.sink_fault → P
memory-no_sink e = absurd cc

pub sink-sent : {P : Type 0} → (R.sink_fault ≡ R.read_fault) ⊎ (R.sink_fault ≡ R.no_memory) → P
sink-sent (inl e) = absurd cc
sink-sent (inr e) = absurd cc

pub or-read : (this : R.Answer) → IsOrFault R.read_fault this
or-read this = inr (inl refl)

pub or-sink : (this : R.Answer) → IsOrFault R.sink_fault this
or-sink this = inr (inr (inl refl))

pub or-memory : (this : R.Answer) → IsOrFault R.no_memory this
or-memory this = inr (inr (inr refl))
