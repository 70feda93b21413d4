-- What is printed: the list of axioms, and the line of a refusal. Every line ends with a line feed.
use Rattle.std.specs.Prelude.{ℕ, List, [], ◌∷◌, ◌++◌, codes, decimal, ◌≡◌}
use Rattle.std.specs.Ordering.{nat_cmp}
use Rattle.std.specs.Cmp.Lexicographic.{slice_cmp}
use Rattle.std.specs.declared.cmp.Ordering.{Ordering}
use Rattle.std.specs.declared.cmp.Ordering.TheVariants.{Less, Equal, Greater}
use Rattle.cic_terms.specs.Tree.{Tree}
use Rattle.cic_names.specs.declared.name.GlobalId.{GlobalId}
use Rattle.cic_names.specs.Texts.{id_text}
use Rattle.cic_rules.specs.Environment.{Environment, declared, axiom_of}
use Rattle.cic_counted.specs.Outcome.{Cause, unbound, global, local, not_sort}
use Rattle.gal_print.specs.Printing.{term_text}
use Rattle.cic_top.specs.Refusals.{Refusal, no_file, not_yet, duplicate, unknown, ill, spent, deep}

-- A line of the list of axioms: a printed id and a printed type.
pub record AxiomLine : Type 0 where
  pub id : List ℕ
  pub type : List ℕ

abbrev pub line_text : AxiomLine → List ℕ
line_text line = line.id ++ codes " : " ++ line.type ++ codes "\n"

-- The axioms of an environment in order of declaration, each as a line. Types are printed over the environment
-- `over`.
pub data AxiomLines (over : Environment) : Environment → List AxiomLine → Type 0 where
  no_item : AxiomLines over [] []
  one_axiom : {E : Environment} {id : GlobalId} {type : Tree} {lines : List AxiomLine} →
      AxiomLines over E lines →
      AxiomLines over (declared (axiom_of id type) ∷ E) (record { id = id_text id; type = term_text over 0 type } ∷ lines)

-- Lines in the order of their printed ids as byte strings: each is put before the first that is above
-- it. A line of the same id takes the place of the one before it; no two axioms have one id.
abbrev pub put_line : AxiomLine → Ordering → AxiomLine → (rest put : List AxiomLine) → List AxiomLine
put_line new Less line rest put = new ∷ line ∷ rest
put_line new Equal line rest put = new ∷ rest
put_line new Greater line rest put = line ∷ put

abbrev pub insert_line : List AxiomLine → AxiomLine → List AxiomLine
insert_line [] new = new ∷ []
insert_line (line ∷ rest) new = put_line new (slice_cmp nat_cmp new.id line.id) line rest (insert_line rest new)

abbrev pub insert_lines : (sorted lines : List AxiomLine) → List AxiomLine
insert_lines sorted [] = sorted
insert_lines sorted (line ∷ lines) = insert_lines (insert_line sorted line) lines

abbrev pub lines_text : List AxiomLine → List ℕ
lines_text [] = []
lines_text (line ∷ lines) = line_text line ++ lines_text lines

-- The list of axioms of an environment: a head line and a line for each axiom, sorted by printed id;
-- or one line where there is no axiom.
abbrev pub axiom_list : List AxiomLine → List ℕ
axiom_list [] = codes "Closed under the global context\n"
axiom_list (line ∷ lines) = codes "Axioms:\n" ++ lines_text (insert_lines [] (line ∷ lines))

pub record IsAxiomList (E : Environment) (output : List ℕ) : Type 0 where
  pub lines : List AxiomLine
  pub each : AxiomLines E E lines
  pub text : output ≡ axiom_list lines

-- A line that tells an error.
abbrev pub error_line : List ℕ → List ℕ
error_line text = codes "Error: " ++ text ++ codes "\n"

-- The line of a word that is not understood.
abbrev pub word_line : ℕ → List ℕ
word_line k = error_line (codes "word " ++ decimal k ++ codes " is not understood.")

-- Why a declaration of the language is ill formed, as it is told. The term that is no sort stands in a
-- context of so many variables. It has no match, so nothing that is declared shows in its text.
pub data IsCauseText : Cause → List ℕ → Type 0 where
  not_sort_text : {depth : ℕ} {form : Tree} →
      IsCauseText (not_sort depth form) (term_text [] depth form ++ codes " is not a sort.")
  unbound_id_text : {id : GlobalId} →
      IsCauseText (unbound (global id)) (id_text id ++ codes " is unbound.")
  unbound_variable_text : {k : ℕ} →
      IsCauseText (unbound (local k)) (codes "variable " ++ decimal k ++ codes " is unbound.")

-- A refusal and its line.
pub data IsRefusalLine : Refusal → List ℕ → Type 0 where
  no_file_line : {name : List ℕ} →
      IsRefusalLine (no_file name) (error_line (codes "no file " ++ name ++ codes "."))
  not_yet_line : {name : List ℕ} {place : ℕ} →
      IsRefusalLine (not_yet name place) (error_line (name ++ codes ": not yet at byte " ++ decimal place ++ codes "."))
  duplicate_line : {name : List ℕ} →
      IsRefusalLine (duplicate name) (error_line (codes "duplicate name " ++ name ++ codes "."))
  unknown_line : {name : List ℕ} →
      IsRefusalLine (unknown name) (error_line (codes "unknown name " ++ name ++ codes "."))
  ill_line : {id : GlobalId} {cause : Cause} {text : List ℕ} →
      IsCauseText cause text →
      IsRefusalLine (ill id cause) (error_line (codes "In " ++ id_text id ++ codes ": " ++ text))
  spent_line : {id : GlobalId} {budget : ℕ} →
      IsRefusalLine (spent id budget)
      (error_line (codes "In " ++ id_text id ++ codes ": the budget of " ++ decimal budget ++ codes " steps is spent."))
  deep_line : {id : GlobalId} →
      IsRefusalLine (deep id) (error_line (codes "In " ++ id_text id ++ codes ": too deep."))
