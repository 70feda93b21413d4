-- What a command line answers and prints, over the contents of files: `content name` is the bytes of
-- the file of that name, where there is one.
use Rattle.std.specs.Prelude.{ℕ, ◌≡◌, List, Option, Some, None, IfSome}
use Rattle.cic_io.specs.Files.{Files, file_at}
use Rattle.cic_rules.specs.Environment.{Environment}
use Rattle.cic_top.specs.CommandLine.{CommandLine, FirstNotUnderstood, source_name}
use Rattle.cic_top.specs.Refusals.{Refusal, no_file, Answer, passed, not_understood, refused}
use Rattle.cic_top.specs.Compilation.{Compiles, environment, refusal}
use Rattle.cic_top.specs.Texts.{IsAxiomList, IsRefusalLine, word_line}

-- The contents of files.
abbrev pub Contents : Type 0
Contents = List ℕ → Option (List ℕ)

-- Contents are those of the folder, where it tells its files.
abbrev pub AreContentsOf : Contents → Option Files → Type 0
AreContentsOf content told = IfSome told (λ fs. content ≡ file_at fs)

-- The source of a library is refused: there is none, or it is refused as it is compiled.
pub data RefusesSource (library : List ℕ) : Option (List ℕ) → Refusal → Type 0 where
  is_absent : {bytes : Option (List ℕ)} →
      bytes ≡ None →
      RefusesSource library bytes (no_file (source_name library))
  is_refused : {bytes : Option (List ℕ)} {source : List ℕ} {r : Refusal} →
      bytes ≡ Some source →
      Compiles library source (refusal r) →
      RefusesSource library bytes r

-- The source of a library is compiled to an environment.
pub record AcceptsSource (library : List ℕ) (bytes : Option (List ℕ)) (E : Environment) : Type 0 where
  pub source : List ℕ
  pub is : bytes ≡ Some source
  pub compiles : Compiles library source (environment E)

-- The command compiles a library whose source is refused, or compiled to an environment.
pub record Refuses (words : List (List ℕ)) (content : Contents) (r : Refusal) : Type 0 where
  pub library : List ℕ
  pub command : CommandLine words library
  pub source : RefusesSource library (content (source_name library)) r

pub record Accepts (words : List (List ℕ)) (content : Contents) (E : Environment) : Type 0 where
  pub library : List ℕ
  pub command : CommandLine words library
  pub source : AcceptsSource library (content (source_name library)) E

-- The command accepts some environment.
abbrev pub IsAccepted : List (List ℕ) → Contents → Type 0
IsAccepted words content = (E : Environment) × Accepts words content E

-- What the command answers and what it prints.
pub data Answers (words : List (List ℕ)) (content : Contents) : Answer → (output : List ℕ) → Type 0 where
  is_misread : {k : ℕ} {output : List ℕ} →
      FirstNotUnderstood words k →
      output ≡ word_line k →
      Answers words content (not_understood k) output
  refuses : {r : Refusal} {output : List ℕ} →
      Refuses words content r →
      IsRefusalLine r output →
      Answers words content (refused r) output
  accepts : {E : Environment} {output : List ℕ} →
      Accepts words content E →
      IsAxiomList E output →
      Answers words content passed output
