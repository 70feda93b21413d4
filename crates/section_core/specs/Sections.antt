-- Sections (Coq Reference Manual, "Section mechanism", "Summary of the commands Section, Variable, Let, End", and
-- "Proof using").
use Rattle.std.specs.Prelude.{ℕ, Option, Some, None, List, [], ◌∷◌, ◌++◌, if◌then◌else◌}
use Rattle.cic_names.specs.declared.name.GlobalId.{GlobalId}
use Rattle.cic_rules.specs.Environment.{Declaration, declared_ids}
use Rattle.section_terms.specs.Hypotheses.{Hypothesis, ids_of, without_lets}
use Rattle.section_terms.specs.Used.{used, is_in, statement_names, body_names}
use Rattle.section_terms.specs.Discharge.{generalised}

-- Which hypotheses a declaration may use, beside those that its statement uses: those of its body, none (`Proof using
-- Type`), all that are declared before it (`Proof using All`), or these (`Proof using h1 .. hn`).
pub data Allowed : Type 0 where
  free : Allowed
  statement : Allowed
  every : Allowed
  listed : List GlobalId → Allowed

-- What stands in a section: a hypothesis, or a declaration.
pub data Entry : Type 0 where
  assumed : Hypothesis → Entry
  added : Declaration → Allowed → Entry

-- An open section, with what stands in it in order. Open sections are given with the innermost first.
pub record Section : Type 0 where
  pub name : List ℕ
  pub entries : List Entry

-- What is known after some entries: the hypotheses in order, and for each id over which of them it is generalised,
-- where it is that of a declaration.
pub record Known : Type 0 where
  pub hypotheses : List Hypothesis
  pub over : GlobalId → List GlobalId

abbrev pub nothing_known : Known
nothing_known = record { hypotheses = []; over = λ c. [] }

-- A function that gives this for these ids.
abbrev pub giving : (ids value : List GlobalId) → (GlobalId → List GlobalId) → GlobalId → List GlobalId
giving ids value f c = if is_in c ids then value else f c

-- Those of these hypotheses that a declaration uses.
abbrev pub used_by : (over : GlobalId → List GlobalId) → List Hypothesis → Declaration → Allowed → List Hypothesis
used_by over hs d free = used over hs (statement_names d ++ body_names d)
used_by over hs d statement = used over hs (statement_names d)
used_by over hs d every = hs
used_by over hs d (listed ids) = used over hs (statement_names d ++ ids)

abbrev pub know : Known → Entry → Known
know k (assumed h) = record { hypotheses = k.hypotheses ++ h ∷ []; over = k.over }
know k (added d u) = record {
  hypotheses = k.hypotheses;
  over = giving (declared_ids d) (ids_of (used_by k.over k.hypotheses d u)) k.over;
}

abbrev pub know_all : Known → List Entry → Known
know_all k [] = k
know_all k (e ∷ es) = know_all (know k e) es

abbrev pub known : List Section → Known
known [] = nothing_known
known (s ∷ outer) = know_all (known outer) s.entries

-- The first hypothesis that the body of a declaration uses and that it may not use.
abbrev pub first_outside : List GlobalId → List Hypothesis → Option Hypothesis
first_outside ids [] = None
first_outside ids (h ∷ hs) = if is_in h.id ids then first_outside ids hs else Some h

abbrev pub undeclared : Known → Declaration → Allowed → Option Hypothesis
undeclared k d u = first_outside (ids_of (used_by k.over k.hypotheses d u)) (used k.over k.hypotheses (body_names d))

-- What is kept of a section, in order: each declaration generalised over the hypotheses of the section before it that
-- it uses. `own` are these hypotheses, and `arguments` gives the variables to which a constant of the section is
-- applied. A block speaks of its own types, so it is among these constants.
abbrev pub kept : Known → (own : List Hypothesis) → (arguments : GlobalId → List GlobalId) → List Entry → List Entry
kept k own arguments [] = []
kept k own arguments (assumed h ∷ es) = kept (know k (assumed h)) (own ++ h ∷ []) arguments es
kept k own arguments (added d u ∷ es) =
    let uses = used_by k.over own d u in
    let with_own = giving (declared_ids d) (ids_of (without_lets uses)) arguments in
    added (generalised with_own uses d) u ∷ kept (know k (added d u)) own with_own es

abbrev pub discharged : (outer : List Section) → Section → List Entry
discharged outer s = kept (known outer) [] (λ c. []) s.entries

-- Entries put last into the innermost section, and nowhere where none is open.
abbrev pub into_innermost : List Section → List Entry → List Section
into_innermost [] es = []
into_innermost (s ∷ outer) es = record { name = s.name; entries = s.entries ++ es } ∷ outer

-- The innermost section, what is kept of it at its end, and the sections that are open then: what is kept stands in
-- the section around it, where there is one.
abbrev pub innermost : List Section → Option Section
innermost [] = None
innermost (s ∷ outer) = Some s

abbrev pub kept_at_end : List Section → List Entry
kept_at_end [] = []
kept_at_end (s ∷ outer) = discharged outer s

abbrev pub open_after_end : List Section → List Section
open_after_end [] = []
open_after_end (s ∷ outer) = into_innermost outer (discharged outer s)
