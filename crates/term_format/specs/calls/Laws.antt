-- The laws of spelling and reading, as statements.
use Rattle.std.specs.Prelude.{ℕ, ◌≡◌, ◌<◌, List, [], ◌++◌, All}
use Rattle.cic_names.specs.declared.level.Level.{Level}
use Rattle.cic_names.specs.declared.constraint.Constraint.{Constraint}
use Rattle.cic_names.specs.Orders.{name_bytes, level_bytes}
use Rattle.cic_terms.specs.Tree.{Tree}
use Rattle.term_format.specs.Spelling.{term_bytes, constraints_bytes}
use Rattle.term_format.specs.Storable.{IsName, IsLevel, AreStorable, IsStorable}
use Rattle.term_format.specs.Reading.{value, read_name, read_level}
use Rattle.term_format.specs.ConstraintReading.{read_constraints}
use Rattle.term_format.specs.TermReading.{read_whole_term}

-- Bytes begin with the spelling of something that can be stored.
pub record Spells (Storable : Type 0) (spelling bytes rest : List ℕ) : Type 0 where
  pub storable : Storable
  pub spelled : bytes ≡ spelling ++ rest

-- What is spelled is read, and the bytes after it are left.
abbrev pub spelled_names_are_read : Type 0
spelled_names_are_read = (name rest : List ℕ) → IsName name → read_name (name_bytes name ++ rest) ≡ value name rest

abbrev pub spelled_levels_are_read : Type 0
spelled_levels_are_read = (l : Level) (rest : List ℕ) → IsLevel l → read_level (level_bytes l ++ rest) ≡ value l rest

abbrev pub spelled_constraints_are_read : Type 0
spelled_constraints_are_read = (cs : List Constraint) (rest : List ℕ) → AreStorable cs → read_constraints (constraints_bytes cs ++ rest) ≡ value cs rest

abbrev pub spelled_terms_are_read : Type 0
spelled_terms_are_read = (t : Tree) (rest : List ℕ) → IsStorable t → read_whole_term (term_bytes t ++ rest) ≡ value t rest

-- What is read can be stored, and exactly the bytes before the rest spell it.
abbrev pub read_names_are_spelled : Type 0
read_names_are_spelled = (bytes name rest : List ℕ) → All (λ b. b < 256) bytes → read_name bytes ≡ value name rest → Spells (IsName name) (name_bytes name) bytes rest

abbrev pub read_levels_are_spelled : Type 0
read_levels_are_spelled = (bytes : List ℕ) (l : Level) (rest : List ℕ) → All (λ b. b < 256) bytes → read_level bytes ≡ value l rest → Spells (IsLevel l) (level_bytes l) bytes rest

abbrev pub read_constraints_are_spelled : Type 0
read_constraints_are_spelled = (bytes : List ℕ) (cs : List Constraint) (rest : List ℕ) → All (λ b. b < 256) bytes → read_constraints bytes ≡ value cs rest → Spells (AreStorable cs) (constraints_bytes cs) bytes rest

abbrev pub read_terms_are_spelled : Type 0
read_terms_are_spelled = (bytes : List ℕ) (t : Tree) (rest : List ℕ) → All (λ b. b < 256) bytes → read_whole_term bytes ≡ value t rest → Spells (IsStorable t) (term_bytes t) bytes rest

-- Different values have different spellings.
abbrev pub constraints_have_one_spelling : Type 0
constraints_have_one_spelling = (cs ds : List Constraint) → AreStorable cs → AreStorable ds → constraints_bytes cs ≡ constraints_bytes ds → cs ≡ ds

abbrev pub terms_have_one_spelling : Type 0
terms_have_one_spelling = (t u : Tree) → IsStorable t → IsStorable u → term_bytes t ≡ term_bytes u → t ≡ u

-- No spelling is the proper beginning of another.
abbrev pub constraints_end_themselves : Type 0
constraints_end_themselves = (cs ds : List Constraint) (more : List ℕ) → AreStorable cs → AreStorable ds → constraints_bytes cs ++ more ≡ constraints_bytes ds → more ≡ []

abbrev pub terms_end_themselves : Type 0
terms_end_themselves = (t u : Tree) (more : List ℕ) → IsStorable t → IsStorable u → term_bytes t ++ more ≡ term_bytes u → more ≡ []
