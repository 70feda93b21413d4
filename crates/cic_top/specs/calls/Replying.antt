-- What the functions that make a reply give.
use Rattle.std.specs.Prelude.{ℕ, List, Option, ◌≡◌, string_bytes}
use Rattle.cic_rules.specs.Environment.{Environment}
use Rattle.cic_top.specs.Refusals as R
use Rattle.cic_top.specs.Command.{RefusesSource, AcceptsSource}
use Rattle.cic_top.specs.Texts.{IsAxiomList, IsRefusalLine, word_line}
use Rattle.cic_top.specs.Views.{answer_of}
use Rattle.cic_top.specs.declared.running.Reply.{Reply}

-- A library with these bytes as its source has this answer and this output.
pub data RepliesTo (library : List ℕ) (bytes : Option (List ℕ)) : R.Answer → (output : List ℕ) → Type 0 where
  replies_refusal : {r : R.Refusal} {output : List ℕ} →
      RefusesSource library bytes r →
      IsRefusalLine r output →
      RepliesTo library bytes (R.refused r) output
  replies_environment : {E : Environment} {output : List ℕ} →
      AcceptsSource library bytes E →
      IsAxiomList E output →
      RepliesTo library bytes R.passed output

-- The reply gives the refusal with its line.
pub record RepliesRefusal (r : R.Refusal) (reply : Reply) : Type 0 where
  pub answer : answer_of reply.answer ≡ R.refused r
  pub line : IsRefusalLine r (string_bytes reply.output)

-- The reply passes with the list of axioms.
pub record RepliesList (E : Environment) (reply : Reply) : Type 0 where
  pub answer : answer_of reply.answer ≡ R.passed
  pub list : IsAxiomList E (string_bytes reply.output)

-- The reply gives the word that is not understood with its line.
pub record RepliesWord (k : ℕ) (reply : Reply) : Type 0 where
  pub answer : answer_of reply.answer ≡ R.not_understood k
  pub line : string_bytes reply.output ≡ word_line k
