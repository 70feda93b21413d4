-- A command line and a source are read in one way, and a source is compiled in one way.
use Rattle.std.proofs.Common.{ℕ, List, [], ◌++◌, ◌≡◌, ◌≤◌, ◌<◌, length, drop, inl, inr, refl, sym, ap, subst, ◌∙◌, append-nil, arith, codes}
use Rattle.std.proofs.lemmas.Bool.{cases_order, cases_lt}
use Rattle.std.proofs.lemmas.List.{append_cancel_right, take-append-drop}
use Rattle.gal_elab.proofs.Determined.{one_term, not_both, one_unknown}
use Rattle.cic_rules.specs.Environment.{Environment}
use Rattle.gal_parser.specs.Tokens.{after_blanks}
use Rattle.gal_parser.specs.Grammar.{SpellsSentences, no_sentence, one_more, Reads, NotYetAt, too_long, unread, Sentence}
use Rattle.gal_parser.proofs.GrammarLaws.{one_sentence, sentence_shortens, no_sentence_at_end}
use Rattle.cic_top.specs.CommandLine.{source_name, CommandLine, coqc, FirstNotUnderstood}
use Rattle.cic_top.specs.Refusals.{Refusal, unknown}
use Rattle.cic_top.specs.Compilation.{Adds, adds_axiom, IsRefused, duplicate_name, unknown_name, not_accepted, Compiled, refusal, Runs, all_run, one_adds, one_is_refused, Compiles, is_not_yet, is_read}

-- Words are the command line of one library.
pub one_library : {words : List (List ℕ)} {a b : List ℕ} → CommandLine words a → CommandLine words b → a ≡ b
one_library {a = a} {b = b} (coqc n e) (coqc n' e') =
    let same : source_name a ≡ source_name b = cc in append_cancel_right a b (codes ".v") same

-- Words are no command line and misread.
pub no_command_line-misread : {words : List (List ℕ)} {k : ℕ} {a : List ℕ} → FirstNotUnderstood words k → CommandLine words a → ⊥
no_command_line-misread {words = words} {k = k} {a = a} misread line = elim misread.this [
  | inl w ↦ w.1 (drop k words, a, subst (λ ws. CommandLine ws a) (sym (take-append-drop k words)) line)
  | inr w ↦ w.1 (a, line)
]

-- No word before the first that is not understood is another such word.
no_earlier_word : {words : List (List ℕ)} {j k : ℕ} → FirstNotUnderstood words j → FirstNotUnderstood words k → j < k → ⊥
no_earlier_word {words = words} {j = j} {k = k} first second h = elim first.this [
  | inl w ↦ w.1 (second.earlier j h)
  | inr w ↦ elim second.this [ inl v ↦ absurd (omega arith) | inr v ↦ absurd (omega arith) ]
]

-- One word is the first that is not understood.
pub one_word : {words : List (List ℕ)} {j k : ℕ} → FirstNotUnderstood words j → FirstNotUnderstood words k → j ≡ k
one_word {j = j} {k = k} first second = elim (cases_order j k) [
  | inl e ↦ e
  | inr apart ↦ elim apart [ inl h ↦ absurd (no_earlier_word first second h) | inr h ↦ absurd (no_earlier_word second first h) ]
]

-- What sentences leave is at most as long as the text.
leave_at_most : {s r : List ℕ} {cs : List Sentence} → SpellsSentences s r cs → length r ≤ length s
leave_at_most no_sentence = omega arith
leave_at_most (one_more h t) = let a = sentence_shortens h in let b = leave_at_most t in omega arith

-- Sentences that take no byte leave the text, and so do those of blanks alone, which are none.
leave_all : {q r : List ℕ} {es : List Sentence} → length q ≤ length r → SpellsSentences q r es → q ≡ r
leave_all le no_sentence = refl
leave_all le (one_more h t) = let a = sentence_shortens h in let b = leave_at_most t in absurd (omega arith)

none_of_blanks : {q r : List ℕ} {es : List Sentence} → after_blanks q ≡ [] → SpellsSentences q r es → (es ≡ []) × (q ≡ r)
none_of_blanks e no_sentence = (refl, refl)
none_of_blanks e (one_more h t) = absurd (no_sentence_at_end e h)

-- Of two lists of sentences with which a text begins, the longer one goes on from the other.
goes_on_to : {s q r : List ℕ} {ds cs : List Sentence} → SpellsSentences s q ds → SpellsSentences s r cs → length r ≤ length q →
    (es : List Sentence) × SpellsSentences q r es × (cs ≡ ds ++ es)
goes_on_to {cs = cs} no_sentence whole le = (cs, whole, refl)
goes_on_to (one_more h t) no_sentence le = let a = sentence_shortens h in let b = leave_at_most t in absurd (omega arith)
goes_on_to {r = r} (one_more h t) (one_more {cs = cs'} h' t') le =
    let same = one_sentence h' h in
    let (es, rest, e) = goes_on_to t (subst (λ z. SpellsSentences z r cs') same.1 t') le in
    let first = same.0 in
    (es, rest, (cc))

-- A source is read in one way.
pub one_reading : {s : List ℕ} {cs ds : List Sentence} → Reads s cs → Reads s ds → cs ≡ ds
one_reading {cs = cs} {ds = ds} a b = elim (cases_lt (length a.rest) (length b.rest)) [
  | inl h ↦
      let (es, more, e) = goes_on_to b.sentences a.sentences (omega arith) in
      let nothing = (none_of_blanks b.blanks more).0 in
      e ∙ ap (λ z. ds ++ z) nothing ∙ append-nil ds
  | inr h ↦
      let (es, more, e) = goes_on_to a.sentences b.sentences h in
      let nothing = (none_of_blanks a.blanks more).0 in
      sym (e ∙ ap (λ z. cs ++ z) nothing ∙ append-nil cs)
]

-- A source that is read has no place where it is not understood.
pub no_place_if_read : {s : List ℕ} {place : ℕ} {cs : List Sentence} → NotYetAt s place → Reads s cs → ⊥
no_place_if_read (too_long over e) read = let short = read.short in absurd (omega arith)
no_place_if_read (unread short at) read =
    let (es, more, e) = goes_on_to read.sentences at.leaves.spelled (at.leaves.longest read.rest _ read.sentences) in
    let same = (none_of_blanks read.blanks more).1 in
    let byte = at.byte in
    let none = ap length (subst (λ z. after_blanks z ≡ []) same read.blanks) in
    omega arith

-- A source is not understood from one place on.
pub one_place : {s : List ℕ} {p q : ℕ} → NotYetAt s p → NotYetAt s q → p ≡ q
one_place (too_long over e) (too_long over' e') = e ∙ sym e'
one_place (too_long over e) (unread short at) = absurd (omega arith)
one_place (unread short at) (too_long over e) = absurd (omega arith)
one_place (unread short at) (unread short' at') =
    let le = at.leaves.longest at'.rest _ at'.leaves.spelled in
    let (es, more, e) = goes_on_to at'.leaves.spelled at.leaves.spelled le in
    let same = leave_all (at'.leaves.longest at.rest _ at.leaves.spelled) more in
    let size = ap (λ z. length (after_blanks z)) same in
    let position = at.position in
    let position' = at'.position in
    omega arith

-- A sentence adds one declaration or is refused for one reason.
one_addition : {library : List ℕ} {E E' E'' : Environment} {s : Sentence} → Adds library E s E' → Adds library E s E'' → E' ≡ E''
one_addition (adds_axiom new stands accepted) (adds_axiom new' stands' accepted') =
    let same = one_term stands stands' in cc

not_added_and_refused : {library : List ℕ} {E E' : Environment} {s : Sentence} {r : Refusal} → Adds library E s E' → IsRefused library E s r → ⊥
not_added_and_refused (adds_axiom new stands accepted) (duplicate_name old) = new old
not_added_and_refused (adds_axiom new stands accepted) (unknown_name new' first) = not_both stands first
not_added_and_refused (adds_axiom new stands accepted) (not_accepted new' stands' rejected) =
    let same = one_term stands stands' in cc

one_refusal : {library : List ℕ} {E : Environment} {s : Sentence} {r r' : Refusal} → IsRefused library E s r → IsRefused library E s r' → r ≡ r'
one_refusal (duplicate_name old) (duplicate_name old') = refl
one_refusal (duplicate_name old) (unknown_name new first) = absurd (new old)
one_refusal (duplicate_name old) (not_accepted new stands rejected) = absurd (new old)
one_refusal (unknown_name new first) (duplicate_name old) = absurd (new old)
one_refusal (unknown_name new first) (unknown_name new' first') = ap unknown (one_unknown first first')
one_refusal (unknown_name new first) (not_accepted new' stands rejected) = absurd (not_both stands first)
one_refusal (not_accepted new stands rejected) (duplicate_name old) = absurd (new old)
one_refusal (not_accepted new stands rejected) (unknown_name new' first) = absurd (not_both stands first)
one_refusal (not_accepted new stands rejected) (not_accepted new' stands' rejected') =
    let same = one_term stands stands' in cc

-- Sentences run in one way.
pub one_run : {library : List ℕ} {E : Environment} {ss : List Sentence} {c d : Compiled} → Runs library E ss c → Runs library E ss d → c ≡ d
one_run all_run all_run = refl
one_run {library = library} {d = d} (one_adds {ss = ss} adds rest) (one_adds adds' rest') =
    one_run rest (subst (λ z. Runs library z ss d) (one_addition adds' adds) rest')
one_run (one_adds adds rest) (one_is_refused refused) = absurd (not_added_and_refused adds refused)
one_run (one_is_refused refused) (one_adds adds rest) = absurd (not_added_and_refused adds refused)
one_run (one_is_refused refused) (one_is_refused refused') = ap refusal (one_refusal refused refused')

-- A source is compiled in one way.
pub one_compilation : {library source : List ℕ} {c d : Compiled} → Compiles library source c → Compiles library source d → c ≡ d
one_compilation (is_not_yet at) (is_not_yet at') = let same = one_place at at' in cc
one_compilation (is_not_yet at) (is_read read runs) = absurd (no_place_if_read at read)
one_compilation (is_read read runs) (is_not_yet at) = absurd (no_place_if_read at read)
one_compilation {library = library} {d = d} (is_read read runs) (is_read read' runs') =
    one_run runs (subst (λ z. Runs library [] z d) (one_reading read' read) runs')
