-- The lines of the list of axioms, as the program makes them.
use Rattle.std.proofs.Common.{ℕ, List, [], ◌∷◌, ◌++◌, ◌≡◌, refl, sym, ap, ◌∙◌, map, true, codes, length, drop, get_or, ◌<◌, ◌+◌, decimal, append_assoc, subst, rules}
use Rattle.std.specs.Ordering.{nat_cmp, is_eq, match_ordering}
use Rattle.std.specs.Cmp.Lexicographic.{slice_cmp}
use Rattle.std.specs.declared.cmp.Ordering.{Ordering}
use Rattle.std.specs.declared.cmp.Ordering.TheVariants.{Less, Equal, Greater}
use Rattle.std.specs.declared.string.String.{String}
use Rattle.std.specs.declared.alloc.Global.{Global}
use Rattle.std.specs.String.{string_cmp, string_bytes}
use Rattle.std.specs.Str.{bytes_eq}
use Rattle.std.specs.BTreeMap.{insert_entry}
use Rattle.std.proofs.lemmas.List.{drop_more}
use Rattle.std.proofs.lemmas.Map.Text.{is_eq-slice_cmp}
use Rattle.std.proofs.lemmas.Slice.Eq.{bytes_eq-Decides}
use Rattle.cic_terms.specs.Tree.{Tree}
use Rattle.cic_names.specs.declared.name.GlobalId.{GlobalId}
use Rattle.cic_names.specs.Texts.{id_text}
use Rattle.cic_rules.specs.Environment as R
use Rattle.cic_rules.specs.Environment.{Environment, declared, axiom_of}
use Rattle.cic_env.specs.Items.{as_item}
use Rattle.cic_env.specs.declared.item.Item.{Item}
use Rattle.cic_counted.specs.Outcome.{Cause, Missing, unbound, global, local, not_sort}
use Rattle.gal_print.specs.Printing.{term_text}
use Rattle.gal_print.specs.Appending.{Appends}
use Rattle.cic_top.specs.Refusals.{Refusal, no_file, not_yet, duplicate, unknown, ill, spent, deep}
use Rattle.cic_top.specs.Texts.{IsCauseText, not_sort_text, unbound_id_text, unbound_variable_text, AxiomLine, AxiomLines, no_item, one_axiom, put_line, insert_line, insert_lines, axiom_list, IsAxiomList, error_line, IsRefusalLine, no_file_line, not_yet_line, duplicate_line, unknown_line, ill_line, spent_line, deep_line}
use Rattle.cic_top.specs.calls.Lines.{IsAxiom, HasCauseText, line_of, lines_of, AreSortedAxioms}

-- What the lines of an environment say of its first axiom.
pub record FirstAxiom (over : Environment) (id : GlobalId) (type : Tree) (E : Environment) (lines : List AxiomLine) : Type 0 where
  pub rest : List AxiomLine
  pub others : AxiomLines over E rest
  pub is : lines ≡ record { id = id_text id; type = term_text over 0 type } ∷ rest

pub first_axiom : {over : Environment} {id : GlobalId} {type : Tree} {E : Environment} {lines : List AxiomLine} →
    AxiomLines over (declared (axiom_of id type) ∷ E) lines →
    FirstAxiom over id type E lines
first_axiom (one_axiom {lines = lines} others) = record { rest = lines; others = others; is = refl }

pub no_line : {over : Environment} {lines : List AxiomLine} → AxiomLines over [] lines → lines ≡ []
no_line no_item = refl

-- An entry put into a map of entries is its line put among their lines.
same_bytes : (a b : List ℕ) → slice_cmp nat_cmp a b ≡ Equal → a ≡ b
same_bytes a b h = let e : bytes_eq a b ≡ true = sym (is_eq-slice_cmp a b) ∙ ap is_eq h in
    search (rules, bytes_eq-Decides a b, e)

put_entry : (key value : String Global) (entry : String Global × String Global) (rest put : List (String Global × String Global)) (lines : List AxiomLine) (o : Ordering) →
    slice_cmp nat_cmp (string_bytes key) (string_bytes entry.0) ≡ o →
    lines_of put ≡ lines →
    lines_of (match_ordering o ((key, value) ∷ entry ∷ rest) ((entry.0, value) ∷ rest) (entry ∷ put)) ≡ put_line (line_of (key, value)) o (line_of entry) (lines_of rest) lines
put_entry key value entry rest put lines Less is h = refl
put_entry key value entry rest put lines Equal is h =
    ap (λ (bytes : List ℕ). (let line : AxiomLine = record { id = bytes; type = string_bytes value } in line) ∷ lines_of rest) (sym (same_bytes _ _ is))
put_entry key value entry rest put lines Greater is h = ap (λ (later : List AxiomLine). line_of entry ∷ later) h

pub insert_entry_line : (entries : List (String Global × String Global)) (key value : String Global) →
    lines_of (insert_entry string_cmp entries key value) ≡ insert_line (lines_of entries) (line_of (key, value))
insert_entry_line [] key value = refl
insert_entry_line (entry ∷ entries) key value =
    put_entry key value entry entries (insert_entry string_cmp entries key value) (insert_line (lines_of entries) (line_of (key, value)))
    (slice_cmp nat_cmp (string_bytes key) (string_bytes entry.0)) refl (insert_entry_line entries key value)

-- Lines with one put among them are some.
put_some : (new line : AxiomLine) (rest put : List AxiomLine) (o : Ordering) → put_line new o line rest put ≡ [] → ⊥
put_some new line rest put Less e = cc
put_some new line rest put Equal e = cc
put_some new line rest put Greater e = cc

insert_some : (lines : List AxiomLine) (new : AxiomLine) → insert_line lines new ≡ [] → ⊥
insert_some [] new e = cc
insert_some (line ∷ lines) new e = put_some new line lines (insert_line lines new) (slice_cmp nat_cmp new.id line.id) e

sorted_none : (sorted lines : List AxiomLine) → insert_lines sorted lines ≡ [] → (sorted ≡ []) × (lines ≡ [])
sorted_none sorted [] e = (e, refl)
sorted_none sorted (line ∷ lines) e = absurd (insert_some sorted line (sorted_none (insert_line sorted line) lines e).0)

pub no_sorted_line : (lines : List AxiomLine) → insert_lines [] lines ≡ [] → lines ≡ []
no_sorted_line lines e = (sorted_none [] lines e).1

-- The lines so far, with those that are left, are the lines of the whole environment.
pub record SortedSoFar (E left : Environment) (sorted : List AxiomLine) : Type 0 where
  pub lines : List AxiomLine
  pub rest : List AxiomLine
  pub each : AxiomLines E E lines
  pub each_left : AxiomLines E left rest
  pub order : insert_lines sorted rest ≡ insert_lines [] lines

pub sorted_at_start : (E left : Environment) (lines : List AxiomLine) → left ≡ E → AxiomLines E E lines → SortedSoFar E left []
sorted_at_start E left lines same each = record {
  lines = lines;
  rest = lines;
  each = each;
  each_left = subst (λ (F : Environment). AxiomLines E F lines) (sym same) each;
  order = refl;
}

-- One more axiom is put among the lines.
pub sorted_more : (E left : Environment) (id : GlobalId) (type : Tree) (entries : List (String Global × String Global)) (key value : String Global) →
    SortedSoFar E (declared (axiom_of id type) ∷ left) (lines_of entries) →
    string_bytes key ≡ id_text id →
    string_bytes value ≡ term_text E 0 type →
    SortedSoFar E left (lines_of (insert_entry string_cmp entries key value))
sorted_more E left id type entries key value sorted named printed =
    let first : FirstAxiom E id type left sorted.rest = first_axiom sorted.each_left in
    let put : lines_of (insert_entry string_cmp entries key value) ≡ insert_line (lines_of entries) (line_of (key, value)) = insert_entry_line entries key value in
    let line : line_of (key, value) ≡ record { id = id_text id; type = term_text E 0 type } = cc in
    record {
      lines = sorted.lines;
      rest = first.rest;
      each = sorted.each;
      each_left = first.others;
      order = (ap (λ (ls : List AxiomLine). insert_lines ls first.rest) (put ∙ ap (insert_line (lines_of entries)) line)
          ∙ ap (insert_lines (lines_of entries)) (sym first.is)) ∙ sorted.order;
    }

pub sorted_at_end : (E left : Environment) (sorted : List AxiomLine) → left ≡ [] → SortedSoFar E left sorted → AreSortedAxioms E sorted
sorted_at_end E left sorted none so_far =
    let no : so_far.rest ≡ [] = no_line (subst (λ (F : Environment). AxiomLines E F so_far.rest) none so_far.each_left) in
    record {
      lines = so_far.lines;
      each = so_far.each;
      order = ap (insert_lines sorted) (sym no) ∙ so_far.order;
    }

-- The first of the items that are left is an axiom.
axiom_first : {over : Environment} {item : R.Item} {E : Environment} {lines : List AxiomLine} → AxiomLines over (item ∷ E) lines → IsAxiom item
axiom_first (one_axiom others) = tt

next_left : (kept : List Item) (i : ℕ) (item : Item) → i < length kept → item ≡ get_or kept i item →
    map as_item (drop i kept) ≡ as_item item ∷ map as_item (drop (i + 1) kept)
next_left kept i item below is =
    ap (map as_item) (drop_more kept i item below ∙ ap (λ (k : Item). k ∷ drop (i + 1) kept) (sym is))

pub left_axiom : (E : Environment) (sorted : List AxiomLine) (kept : List Item) (i : ℕ) (item : Item) →
    i < length kept →
    item ≡ get_or kept i item →
    SortedSoFar E (map as_item (drop i kept)) sorted →
    IsAxiom (as_item item)
left_axiom E sorted kept i item below is so_far =
    axiom_first (subst (λ (F : Environment). AxiomLines E F so_far.rest) (next_left kept i item below is) so_far.each_left)

pub first_left : (E : Environment) (sorted : List AxiomLine) (kept : List Item) (i : ℕ) (item : Item) (id : GlobalId) (type : Tree) →
    i < length kept →
    item ≡ get_or kept i item →
    as_item item ≡ declared (axiom_of id type) →
    SortedSoFar E (map as_item (drop i kept)) sorted →
    SortedSoFar E (declared (axiom_of id type) ∷ map as_item (drop (i + 1) kept)) sorted
first_left E sorted kept i item id type below is parts so_far =
    let left : map as_item (drop i kept) ≡ declared (axiom_of id type) ∷ map as_item (drop (i + 1) kept) =
    next_left kept i item below is ∙ ap (λ (d : R.Item). d ∷ map as_item (drop (i + 1) kept)) parts in
    subst (λ (F : Environment). SortedSoFar E F sorted) left so_far

-- The list where there is no axiom.
pub closed_list : (E : Environment) (sorted : List AxiomLine) → AreSortedAxioms E sorted → sorted ≡ [] →
    IsAxiomList E (codes "Closed under the global context\n")
closed_list E sorted axioms none =
    let no : axioms.lines ≡ [] = no_sorted_line axioms.lines (sym axioms.order ∙ none) in
    record { lines = axioms.lines; each = axioms.each; text = sym (ap axiom_list no) }

-- The lines of refusals, as they are put together.
line_as : (r s : Refusal) (text line : List ℕ) → r ≡ s → text ≡ line → IsRefusalLine s line → IsRefusalLine r text
line_as r s text line same_refusal same_text is =
    subst (λ (x : Refusal). IsRefusalLine x text) (sym same_refusal) (subst (λ (t : List ℕ). IsRefusalLine s t) (sym same_text) is)

pub no_file_text : (r : Refusal) (name text : List ℕ) → r ≡ no_file name →
    text ≡ codes "Error: no file " ++ (name ++ codes ".\n") →
    IsRefusalLine r text
no_file_text r name text is e = line_as r (no_file name) text _ is (simp append_assoc e) no_file_line

pub not_yet_text : (r : Refusal) (name : List ℕ) (place : ℕ) (text : List ℕ) → r ≡ not_yet name place →
    text ≡ codes "Error: " ++ (name ++ (codes ": not yet at byte " ++ (decimal place ++ codes ".\n"))) →
    IsRefusalLine r text
not_yet_text r name place text is e = line_as r (not_yet name place) text _ is (simp append_assoc e) not_yet_line

pub duplicate_text : (r : Refusal) (name text : List ℕ) → r ≡ duplicate name →
    text ≡ codes "Error: duplicate name " ++ (name ++ codes ".\n") →
    IsRefusalLine r text
duplicate_text r name text is e = line_as r (duplicate name) text _ is (simp append_assoc e) duplicate_line

-- The causes of refusals, as their parts are put behind what was there.
cause_at : (cause cause' : Cause) (old new text : List ℕ) → cause ≡ cause' → IsCauseText cause' text → new ≡ old ++ text → Appends (IsCauseText cause) old new
cause_at cause cause' old new text same is e = record { added = text; is_such = subst (λ (c : Cause). IsCauseText c text) (sym same) is; text = e }

pub not_sort_appended : (cause : Cause) (depth : ℕ) (form : Tree) (old printed new : List ℕ) → cause ≡ not_sort depth form → printed ≡ old ++ term_text [] depth form → new ≡ printed ++ codes " is not a sort." →
    Appends (IsCauseText cause) old new
not_sort_appended cause depth form old printed new is h e =
    cause_at cause (not_sort depth form) old new (term_text [] depth form ++ codes " is not a sort.") is not_sort_text
    (e ∙ ap (λ (z : List ℕ). z ++ codes " is not a sort.") h ∙ append_assoc old (term_text [] depth form) (codes " is not a sort."))

pub unbound_id_appended : (what : Missing) (id : GlobalId) (old new : List ℕ) → what ≡ global id → new ≡ old ++ (id_text id ++ codes " is unbound.") →
    Appends (IsCauseText (unbound what)) old new
unbound_id_appended what id old new is e =
    cause_at (unbound what) (unbound (global id)) old new (id_text id ++ codes " is unbound.") (ap unbound is) unbound_id_text e

pub unbound_variable_appended : (what : Missing) (k : ℕ) (old start numbered new : List ℕ) → what ≡ local k → start ≡ old ++ codes "variable " → numbered ≡ start ++ decimal k → new ≡ numbered ++ codes " is unbound." →
    Appends (IsCauseText (unbound what)) old new
unbound_variable_appended what k old start numbered new is g f e =
    cause_at (unbound what) (unbound (local k)) old new (codes "variable " ++ decimal k ++ codes " is unbound.") (ap unbound is) unbound_variable_text
    (e ∙ ap (λ (z : List ℕ). z ++ codes " is unbound.") (f ∙ ap (λ (z : List ℕ). z ++ decimal k) g) ∙ variable_bytes old (codes "variable ") (decimal k) (codes " is unbound."))
  where
    variable_bytes : (o a b c : List ℕ) → o ++ a ++ b ++ c ≡ o ++ (a ++ b ++ c)
    variable_bytes o a b c = ap (λ (z : List ℕ). z ++ c) (append_assoc o a b) ∙ append_assoc o (a ++ b) c

pub cause_is : (cause cause' : Cause) (old new : List ℕ) → cause ≡ cause' → Appends (IsCauseText cause') old new → Appends (IsCauseText cause) old new
cause_is cause cause' old new e h = subst (λ (c : Cause). Appends (IsCauseText c) old new) (sym e) h

pub unknown_text : (r : Refusal) (name text : List ℕ) → r ≡ unknown name →
    text ≡ codes "Error: unknown name " ++ (name ++ codes ".\n") →
    IsRefusalLine r text
unknown_text r name text is e = line_as r (unknown name) text _ is (simp append_assoc e) unknown_line

-- The line of an ill-formed declaration, as its parts are put behind one another.
pub ill_text : (id : GlobalId) (cause : Cause) (start caused line : List ℕ) →
    start ≡ codes "Error: In " ++ (id_text id ++ codes ": ") → Appends (IsCauseText cause) start caused → line ≡ caused ++ codes "\n" →
    IsRefusalLine (ill id cause) line
ill_text id cause start caused line e h k =
    line_as (ill id cause) (ill id cause) line _ refl
    (k ∙ ap (λ (z : List ℕ). z ++ codes "\n") (h.text ∙ ap (λ (z : List ℕ). z ++ h.added) e)
    ∙ ill_bytes (id_text id) h.added)
    (ill_line h.is_such)
  where
    ill_bytes : (id cause : List ℕ) → codes "Error: In " ++ (id ++ codes ": ") ++ cause ++ codes "\n" ≡ error_line (codes "In " ++ id ++ codes ": " ++ cause)
    ill_bytes id cause = simp append_assoc

spent_bytes : (id : List ℕ) (budget : ℕ) (text : List ℕ) →
    text ≡ codes "Error: In " ++ (id ++ (codes ": the budget of " ++ (decimal budget ++ codes " steps is spent.\n"))) →
    text ≡ error_line (codes "In " ++ id ++ codes ": the budget of " ++ decimal budget ++ codes " steps is spent.")
spent_bytes id budget text e = simp append_assoc e

pub spent_text : (r : Refusal) (id : GlobalId) (budget : ℕ) (text : List ℕ) → r ≡ spent id budget →
    text ≡ codes "Error: In " ++ (id_text id ++ (codes ": the budget of " ++ (decimal budget ++ codes " steps is spent.\n"))) →
    IsRefusalLine r text
spent_text r id budget text is e =
    line_as r (spent id budget) text _ is (spent_bytes (id_text id) budget text e) spent_line

deep_bytes : (id text : List ℕ) →
    text ≡ codes "Error: In " ++ (id ++ codes ": too deep.\n") →
    text ≡ error_line (codes "In " ++ id ++ codes ": too deep.")
deep_bytes id text e = simp append_assoc e

pub deep_text : (r : Refusal) (id : GlobalId) (text : List ℕ) → r ≡ deep id →
    text ≡ codes "Error: In " ++ (id_text id ++ codes ": too deep.\n") →
    IsRefusalLine r text
deep_text r id text is e = line_as r (deep id) text _ is (deep_bytes (id_text id) text e) deep_line
