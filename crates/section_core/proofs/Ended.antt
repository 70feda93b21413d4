-- The end of a section.
use Rattle.std.proofs.Common.{◌≡◌, ℕ, ◌+◌, ◌<◌, ◌≤◌, Some, option_map, Result, IfErr, List, [], ◌∷◌, ◌++◌, map, length, reverse, take, drop, get_or, refl, sym, ap, subst, ◌∙◌, append_assoc, arith}
use Rattle.std.proofs.lemmas.List.{append-nil, reverse-append, take_all, length-map, length-reverse}
use Rattle.std.proofs.lemmas.Result.{MatchResult-weaker}
use Rattle.cic_names.specs.declared.name.GlobalId.{GlobalId}
use Rattle.cic_rules.specs.Environment.{Declaration, declared_ids}
use Rattle.cic_env.specs.Declarations.{declaration}
use Rattle.cic_terms.proofs.Children.{drop_at, drop_whole}
use Rattle.cic_terms.proofs.Gathered.{take_more}
use Rattle.section_terms.specs.Hypotheses.{Hypothesis, ids_of, without_lets}
use Rattle.section_terms.specs.Discharge.{generalised}
use Rattle.section_uses.specs.Kept.{hypothesis, Layer, layers_of}
use Rattle.section_core.specs.Sections.{Entry, assumed, added, Section, Known, know, known, giving, kept, into_innermost, innermost, kept_at_end}
use Rattle.section_core.specs.Answers.{Declares, IsFirstDeep, declarations_of, section_name, IsNotLeft}
use Rattle.section_core.specs.calls.Names.{allowed}
use Rattle.section_core.specs.calls.Stored.{entry_of, UsesRight, AllDeclare, with_own, made_of, kept_stored, kept_entry, EntriesDeclare}
use Rattle.section_core.specs.calls.States.{section_of, sections_of, AreRight, IsState, IsNotKept}
use Rattle.section_core.specs.declared.entry.Kept.{Kept}
use Rattle.section_core.specs.declared.entry.Entry.{Entry as Stored}
use Rattle.section_core.specs.declared.entry.Entry.TheVariants as stored
use Rattle.section_core.specs.declared.fault.LeaveFault.{LeaveFault}
use Rattle.section_core.specs.declared.fault.LeaveFault.TheVariants as not_left
use Rattle.section_core.specs.declared.open_section.OpenSection.{OpenSection}
use Rattle.section_core.specs.declared.state.State.{State}
use Rattle.section_core.proofs.Discharged.{same_declared_ids}

abbrev pub no_arguments : GlobalId → List GlobalId
no_arguments c = []

-- What is kept, by what is stored with each declaration
pub kept_is : (k : Known) (own : List Hypothesis) (arguments : GlobalId → List GlobalId) (es : List Stored) → UsesRight k own es →
    kept k own arguments (map entry_of es) ≡ kept_stored arguments es
kept_is k own arguments [] right = refl
kept_is k own arguments (stored.Assumed h ∷ es) right = kept_is (know k (assumed (hypothesis h))) (own ++ hypothesis h ∷ []) arguments es right
kept_is k own arguments (stored.Added a ∷ es) right =
    let d : Declaration = declaration a.decl in
    let next : Known = know k (added d (allowed a.usage)) in
    let whole : List Hypothesis → List Entry
    = λ us.
    added (generalised (giving (declared_ids d) (ids_of (without_lets us)) arguments) us d) (allowed a.usage)
    ∷ kept next own (giving (declared_ids d) (ids_of (without_lets us)) arguments) (map entry_of es) in
    ap whole (sym right.0)
    ∙ ap (λ (rest : List Entry). added (made_of a (with_own a arguments)) (allowed a.usage) ∷ rest) (kept_is next own (with_own a arguments) es right.2)

pub uses_declare : (k : Known) (own : List Hypothesis) (es : List Stored) → UsesRight k own es → AllDeclare es
uses_declare k own [] right = tt
uses_declare k own (stored.Assumed h ∷ es) right = (tt, uses_declare (know k (assumed (hypothesis h))) (own ++ hypothesis h ∷ []) es right)
uses_declare k own (stored.Added a ∷ es) right = (right.1, uses_declare (know k (added (declaration a.decl) (allowed a.usage))) own es right.2)

still_declares : (arguments : GlobalId → List GlobalId) (hs : List Hypothesis) (d : Declaration) → Declares d → Declares (generalised arguments hs d)
still_declares arguments hs d declares = λ none. declares (sym (same_declared_ids arguments hs d) ∙ none)

pub kept_declare : (arguments : GlobalId → List GlobalId) (es : List Stored) → AllDeclare es → EntriesDeclare (kept_stored arguments es)
kept_declare arguments [] declare = tt
kept_declare arguments (stored.Assumed h ∷ es) declare = kept_declare arguments es declare.1
kept_declare arguments (stored.Added a ∷ es) declare =
    (still_declares (with_own a arguments) (map hypothesis a.uses.items) (declaration a.decl) declare.0, kept_declare (with_own a arguments) es declare.1)

-- The innermost section
last_is : {A : Type 0} (xs : List A) (n : ℕ) (x : A) → n + 1 ≡ length xs → x ≡ get_or xs n x → xs ≡ take n xs ++ x ∷ []
last_is xs n x e at =
    let all : take (n + 1) xs ≡ xs = take_all (n + 1) xs (omega (arith, e)) in
    sym all ∙ take_more xs n x (omega (arith, e)) at

uses_of_innermost : (o : OpenSection) (os : List OpenSection) (ls : List Layer) → AreRight (o ∷ os) ls → UsesRight (known (map section_of os)) [] o.entries.items
uses_of_innermost o os [] right = absurd right
uses_of_innermost o os (l ∷ ls) right = right.0.uses

module _ (s : State) (is : IsState s) (n : ℕ) (o : OpenSection) (e : n + 1 ≡ length s.sections.items) (at : o ≡ get_or s.sections.items n o) where
  abbrev around : List OpenSection
  around = reverse (take n s.sections.items)

  turned : reverse s.sections.items ≡ o ∷ around
  turned = ap reverse (last_is s.sections.items n o e at) ∙ reverse-append (take n s.sections.items) (o ∷ [])

  sections_are : sections_of s ≡ section_of o ∷ map section_of around
  sections_are = ap (map section_of) turned

  uses : UsesRight (known (map section_of around)) [] o.entries.items
  uses = uses_of_innermost o around (reverse (layers_of s.over)) (subst (λ (os : List OpenSection). AreRight os (reverse (layers_of s.over))) turned is.right)

  pub innermost_declares : AllDeclare o.entries.items
  innermost_declares = uses_declare (known (map section_of around)) [] o.entries.items uses

  pub innermost_kept : kept_stored no_arguments o.entries.items ≡ kept_at_end (sections_of s)
  innermost_kept = sym (kept_is (known (map section_of around)) [] no_arguments o.entries.items uses) ∙ ap kept_at_end (sym sections_are)

  pub innermost_name : option_map section_name (innermost (sections_of s)) ≡ Some o.name
  innermost_name = ap (λ (ss : List Section). option_map section_name (innermost ss)) sections_are

  is_not_left : (name : List ℕ) (fault : LeaveFault) → IsNotKept o name fault → IsNotLeft (sections_of s) name fault
  is_not_left name (not_left.WrongEnd found inner) why = (why.0, innermost_name ∙ ap Some (sym why.1), why.2)
  is_not_left name (not_left.Deep id) why =
      (innermost_name ∙ ap Some why.0, subst (λ (es : List Entry). IsFirstDeep id (declarations_of es)) innermost_kept why.1)
  is_not_left name not_left.NoMemory why = tt

  pub why_not_left : {A : Type 0} (r : Result A LeaveFault) (name : List ℕ) → IfErr r (IsNotKept o name) → IfErr r (IsNotLeft (sections_of s) name)
  why_not_left r name why = MatchResult-weaker r why (λ _ h. h) (λ fault h. is_not_left name fault h)

-- Whatever is kept of the innermost section declares something.
pub end_declares : (s : State) → IsState s → EntriesDeclare (kept_at_end (sections_of s))
end_declares s is = go (reverse s.sections.items) (reverse (layers_of s.over)) is.right
  where
    go : (os : List OpenSection) (ls : List Layer) → AreRight os ls → EntriesDeclare (kept_at_end (map section_of os))
    go [] ls right = tt
    go (o ∷ os) ls right =
        let uses : UsesRight (known (map section_of os)) [] o.entries.items = uses_of_innermost o os ls right in
        subst EntriesDeclare (sym (kept_is (known (map section_of os)) [] no_arguments o.entries.items uses))
        (kept_declare no_arguments o.entries.items (uses_declare (known (map section_of os)) [] o.entries.items uses))

-- Entries put in one by one
pub put_none : (ss : List Section) → into_innermost ss [] ≡ ss
put_none [] = refl
put_none (s ∷ outer) = ap (λ (es : List Entry). record { name = s.name; entries = es } ∷ outer) (append-nil s.entries)

pub put_next : (ss : List Section) (e : Entry) (es : List Entry) → into_innermost (into_innermost ss (e ∷ [])) es ≡ into_innermost ss (e ∷ es)
put_next [] e es = refl
put_next (s ∷ outer) e es = ap (λ (xs : List Entry). record { name = s.name; entries = xs } ∷ outer) (append_assoc s.entries (e ∷ []) es)

same_length : (ss : List Section) (es : List Entry) → length (into_innermost ss es) ≡ length ss
same_length [] es = refl
same_length (s ∷ outer) es = refl

length_of_sections : (s : State) → length (sections_of s) ≡ length s.sections.items
length_of_sections s = length-map (reverse s.sections.items) section_of ∙ length-reverse s.sections.items

pub still_open : (old new : State) (es : List Entry) → sections_of new ≡ into_innermost (sections_of old) es → 0 < length old.sections.items → 0 < length new.sections.items
still_open old new es e some =
    let same : length new.sections.items ≡ length old.sections.items =
    sym (length_of_sections new) ∙ ap length e ∙ same_length (sections_of old) es ∙ length_of_sections old in
    omega (arith, same, some)

module _ (all : List Kept) (i : ℕ) (k : Kept) (lt : i < length all) (at : k ≡ get_or all i k) where
  pub declares_at : EntriesDeclare (map kept_entry (drop i all)) → Declares (declaration k.decl) × EntriesDeclare (map kept_entry (drop (i + 1) all))
  declares_at declare = subst (λ (ks : List Kept). EntriesDeclare (map kept_entry ks)) (drop_at all i k lt at) declare

  pub put_at : (old new whole : List Section) → new ≡ into_innermost old (kept_entry k ∷ []) → into_innermost old (map kept_entry (drop i all)) ≡ whole →
      into_innermost new (map kept_entry (drop (i + 1) all)) ≡ whole
  put_at old new whole e rest =
      ap (λ (ss : List Section). into_innermost ss (map kept_entry (drop (i + 1) all))) e
      ∙ put_next old (kept_entry k) (map kept_entry (drop (i + 1) all))
      ∙ ap (λ (ks : List Kept). into_innermost old (map kept_entry ks)) (sym (drop_at all i k lt at))
      ∙ rest

pub all_put : (all : List Kept) (i : ℕ) (ss whole : List Section) → length all ≤ i → into_innermost ss (map kept_entry (drop i all)) ≡ whole → ss ≡ whole
all_put all i ss whole le rest =
    sym (put_none ss) ∙ ap (λ (ks : List Kept). into_innermost ss (map kept_entry ks)) (sym (drop_whole all i le)) ∙ rest
