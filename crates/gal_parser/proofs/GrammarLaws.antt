-- Laws of the grammar: a text is read in one way, and what follows where no further sentence begins. By them what the
-- parser finds is all that a source says, and the place that it answers is the only one.
use Rattle.std.proofs.Common.{ℕ, List, [], ◌∷◌, ◌++◌, ◌≡◌, ◌≤◌, ◌<◌, ◌+◌, length, refl, ap, ap₂, sym, subst, ◌∙◌, append-nil, arith}
use Rattle.std.specs.Prelude.{codes}
use Rattle.gal_parser.specs.Tokens.{after_blanks, SpellsWord, SpellsIdentifier, SpellsColon, SpellsStop, SpellsSymbol}
use Rattle.gal_parser.specs.Grammar.{RawTerm, name, for_all, arrow, Sentence, axiom_sentence, SpellsTerm, spells_for_all, spells_arrow, spells_atom, SpellsAtom, spells_prop, spells_name, spells_group, deepest_nesting, SpellsSentence, spells_axiom, SpellsSentences, no_sentence, one_more, longest_source, Reads, NotYetAt, too_long, unread}
use Rattle.gal_parser.specs.calls.Reading.{Lacks, ReadsAll}
use Rattle.gal_parser.specs.declared.lexer.Fault.{Fault}
use Rattle.gal_parser.specs.declared.lexer.Fault.TheVariants.{NoMatch, NoMemory}
use Rattle.gal_parser.proofs.TokenLaws.{one_word, one_identifier, one_colon, one_stop, word_at, identifier_at, colon_at, symbol_at, no_identifier_at, no_word_at_end, no_word_at_parenthesis, blanks_shorten, word_shortens, colon_shortens, stop_shortens, symbol_leaves}

-- what lacks a part lacks the whole
pub lacks_part : {Y Z : Type 0} {R : List ℕ → Y → Type 0} {W : List ℕ → Z → Type 0} (e : Fault) → Lacks e R →
    ((r : List ℕ) (z : Z) → W r z → (q : List ℕ) × (y : Y) × R q y) → Lacks e W
lacks_part NoMatch none part = λ r z w. let (q, y, h) = part r z w in none q y h
lacks_part NoMemory none part = tt

-- products of equal parts are equal
same_product : {x x' : List ℕ} {t t' u u' : RawTerm} → x ≡ x' → t ≡ t' → u ≡ u' → for_all x t u ≡ for_all x' t' u'
same_product p q r = (cc)

-- no atom begins where the word forall stands
pub no_atom_at_forall : {room : ℕ} {s s' a r : List ℕ} {t : RawTerm} → s ≡ s' → SpellsWord (after_blanks s) a (codes "forall") → SpellsAtom room s' r t → ⊥
no_atom_at_forall e h (spells_prop h') = let size = ap length (word_at (ap after_blanks e) h h').0 in omega arith
no_atom_at_forall e h (spells_name h') = no_identifier_at (ap after_blanks e) refl h h'
no_atom_at_forall e h (spells_group h1 h2 h3) = no_word_at_parenthesis (ap after_blanks (sym e)) h1 h

-- equal texts begin with one term at the most, and with one atom
mutual
  pub one_term_at : {m n : ℕ} {s s' r r' : List ℕ} {t t' : RawTerm} → s ≡ s' → SpellsTerm m s r t → SpellsTerm n s' r' t' → (t ≡ t') × (r ≡ r')
  one_term_at e (spells_for_all h1 h2 h3 h4 h5 h6) (spells_for_all k1 k2 k3 k4 k5 k6) =
      let word = word_at (ap after_blanks e) h1 k1 in
      let binder = identifier_at (ap after_blanks word.1) h2 k2 in
      let colon = colon_at (ap after_blanks binder.1) h3 k3 in
      let type = one_term_at colon h4 k4 in
      let comma = symbol_at (codes ",") (ap after_blanks type.1) h5 k5 in
      let body = one_term_at comma h6 k6 in
      (same_product binder.0 type.0 body.0, body.1)
  one_term_at e (spells_for_all h1 h2 h3 h4 h5 h6) (spells_arrow k1 k2 k3) = absurd (no_atom_at_forall e h1 k1)
  one_term_at e (spells_for_all h1 h2 h3 h4 h5 h6) (spells_atom k1 k2) = absurd (no_atom_at_forall e h1 k1)
  one_term_at e (spells_arrow h1 h2 h3) (spells_for_all k1 k2 k3 k4 k5 k6) = absurd (no_atom_at_forall (sym e) k1 h1)
  one_term_at e (spells_arrow h1 h2 h3) (spells_arrow k1 k2 k3) =
      let from = one_atom_at e h1 k1 in
      let to = one_term_at (symbol_at (codes "->") (ap after_blanks from.1) h2 k2) h3 k3 in
      (ap₂ arrow from.0 to.0, to.1)
  one_term_at e (spells_arrow {b = b} h1 h2 h3) (spells_atom k1 k2) =
      absurd (k2 b (subst (λ z. SpellsSymbol (codes "->") (after_blanks z) b) (one_atom_at e h1 k1).1 h2))
  one_term_at e (spells_atom h1 h2) (spells_for_all k1 k2 k3 k4 k5 k6) = absurd (no_atom_at_forall (sym e) k1 h1)
  one_term_at e (spells_atom h1 h2) (spells_arrow {b = b} k1 k2 k3) =
      absurd (h2 b (subst (λ z. SpellsSymbol (codes "->") (after_blanks z) b) (sym (one_atom_at e h1 k1).1) k2))
  one_term_at e (spells_atom h1 h2) (spells_atom k1 k2) = one_atom_at e h1 k1

  pub one_atom_at : {m n : ℕ} {s s' r r' : List ℕ} {t t' : RawTerm} → s ≡ s' → SpellsAtom m s r t → SpellsAtom n s' r' t' → (t ≡ t') × (r ≡ r')
  one_atom_at e (spells_prop h) (spells_prop k) = (refl, (word_at (ap after_blanks e) h k).1)
  one_atom_at e (spells_prop h) (spells_name k) = absurd (no_identifier_at (ap after_blanks e) refl h k)
  one_atom_at e (spells_prop h) (spells_group k1 k2 k3) = absurd (no_word_at_parenthesis (ap after_blanks (sym e)) k1 h)
  one_atom_at e (spells_name h) (spells_prop k) = absurd (no_identifier_at (ap after_blanks (sym e)) refl k h)
  one_atom_at e (spells_name h) (spells_name k) = let x = identifier_at (ap after_blanks e) h k in (ap name x.0, x.1)
  one_atom_at e (spells_name h) (spells_group k1 k2 k3) = absurd (no_word_at_parenthesis (ap after_blanks (sym e)) k1 h.word)
  one_atom_at e (spells_group h1 h2 h3) (spells_prop k) = absurd (no_word_at_parenthesis (ap after_blanks e) h1 k)
  one_atom_at e (spells_group h1 h2 h3) (spells_name k) = absurd (no_word_at_parenthesis (ap after_blanks e) h1 k.word)
  one_atom_at e (spells_group h1 h2 h3) (spells_group k1 k2 k3) =
      let inner = one_term_at (symbol_at (codes "(") (ap after_blanks e) h1 k1) h2 k2 in
      (inner.0, symbol_at (codes ")") (ap after_blanks inner.1) h3 k3)

-- a text begins with one term and one atom at the most
pub one_term : {m n : ℕ} {s r r' : List ℕ} {t t' : RawTerm} → SpellsTerm m s r t → SpellsTerm n s r' t' → (t ≡ t') × (r ≡ r')
one_term h k = one_term_at refl h k

pub one_atom : {m n : ℕ} {s r r' : List ℕ} {t t' : RawTerm} → SpellsAtom m s r t → SpellsAtom n s r' t' → (t ≡ t') × (r ≡ r')
one_atom h k = one_atom_at refl h k

-- the parts of a sentence from a token on: the stop, the term, the colon, the name, the word Axiom
abbrev pub FromStop : List ℕ → List ℕ → List ℕ → RawTerm → Sentence → Type 0
FromStop d r x t c = SpellsStop (after_blanks d) r × (axiom_sentence x t ≡ c)

abbrev pub FromTerm : List ℕ → List ℕ → List ℕ → Sentence → Type 0
FromTerm k r x c = (d : List ℕ) × (t : RawTerm) × SpellsTerm deepest_nesting k d t × FromStop d r x t c

abbrev pub FromColon : List ℕ → List ℕ → List ℕ → Sentence → Type 0
FromColon b r x c = (k : List ℕ) × SpellsColon (after_blanks b) k × FromTerm k r x c

abbrev pub FromName : List ℕ → List ℕ → Sentence → Type 0
FromName a r c = (b : List ℕ) × (x : List ℕ) × SpellsIdentifier (after_blanks a) b x × FromColon b r x c

abbrev pub FromAxiom : List ℕ → List ℕ → Sentence → Type 0
FromAxiom s r c = (a : List ℕ) × SpellsWord (after_blanks s) a (codes "Axiom") × FromName a r c

-- a sentence has these parts
pub sentence_parts : {s r : List ℕ} {c : Sentence} → SpellsSentence s r c → FromAxiom s r c
sentence_parts (spells_axiom {a = a} {b = b} {c = k} {d = d} {x = x} {t = t} h1 h2 h3 h4 h5) =
    (a, h1, (b, x, h2, (k, h3, (d, t, h4, (h5, refl)))))

-- the word Axiom, the name, the colon and the term are those that were read, so the rest follows them
pub after_axiom : {s a r : List ℕ} {c : Sentence} → SpellsWord (after_blanks s) a (codes "Axiom") → SpellsSentence s r c → FromName a r c
after_axiom {r = r} {c = c} h whole =
    let (a', h', rest) = sentence_parts whole in subst (λ z. FromName z r c) (one_word h' h).1 rest

pub after_name : (a : List ℕ) {b r x : List ℕ} {c : Sentence} → SpellsIdentifier (after_blanks a) b x → FromName a r c → FromColon b r x c
after_name a {b = b} {r = r} {c = c} h (b', x', h', rest) =
    let same = one_identifier h' h in
    subst (λ z. FromColon b r z c) same.0 (subst (λ z. FromColon z r x' c) same.1 rest)

pub after_colon : (b : List ℕ) {k r x : List ℕ} {c : Sentence} → SpellsColon (after_blanks b) k → FromColon b r x c → FromTerm k r x c
after_colon b {r = r} {x = x} {c = c} h (k', h', rest) = subst (λ z. FromTerm z r x c) (one_colon h' h) rest

pub after_term : {k d r x : List ℕ} {t : RawTerm} {c : Sentence} → SpellsTerm deepest_nesting k d t → FromTerm k r x c → FromStop d r x t c
after_term {d = d} {r = r} {x = x} {c = c} h (d', t', h', rest) =
    let same = one_term h' h in
    subst (λ z. FromStop d r x z c) same.0 (subst (λ z. FromStop z r x t' c) same.1 rest)

-- a text begins with one sentence at the most
pub one_sentence : {s r r' : List ℕ} {c c' : Sentence} → SpellsSentence s r c → SpellsSentence s r' c' → (c ≡ c') × (r ≡ r')
one_sentence (spells_axiom {a = a} {b = b} h1 h2 h3 h4 h5) whole =
    let last = after_term h4 (after_colon b h3 (after_name a h2 (after_axiom h1 whole))) in
    (last.1, one_stop h5 last.0)

-- a term, an atom, a sentence and a list of sentences leave less
mutual
  term_shortens : {m : ℕ} {s r : List ℕ} {t : RawTerm} → SpellsTerm m s r t → length r < length s
  term_shortens {s = s} (spells_for_all {a = a} {b = b} {d = d} h1 h2 h3 h4 h5 h6) =
      let word = word_shortens h1 in
      let binder = word_shortens h2.word in
      let colon = colon_shortens h3 in
      let type = term_shortens h4 in
      let comma = symbol_leaves (codes ",") h5 in
      let body = term_shortens h6 in
      let at_s = blanks_shorten s in
      let at_a = blanks_shorten a in
      let at_b = blanks_shorten b in
      let at_d = blanks_shorten d in
      omega arith
  term_shortens (spells_arrow {a = a} h1 h2 h3) =
      let from = atom_shortens h1 in
      let symbol = symbol_leaves (codes "->") h2 in
      let to = term_shortens h3 in
      let at_a = blanks_shorten a in
      omega arith
  term_shortens (spells_atom h1 h2) = atom_shortens h1

  atom_shortens : {m : ℕ} {s r : List ℕ} {t : RawTerm} → SpellsAtom m s r t → length r < length s
  atom_shortens {s = s} (spells_prop h) = let a = word_shortens h in let b = blanks_shorten s in omega arith
  atom_shortens {s = s} (spells_name h) = let a = word_shortens h.word in let b = blanks_shorten s in omega arith
  atom_shortens {s = s} (spells_group {b = b} h1 h2 h3) =
      let opens = symbol_leaves (codes "(") h1 in
      let inner = term_shortens h2 in
      let closes = symbol_leaves (codes ")") h3 in
      let at_s = blanks_shorten s in
      let at_b = blanks_shorten b in
      omega arith

pub sentence_shortens : {s r : List ℕ} {c : Sentence} → SpellsSentence s r c → length r < length s
sentence_shortens {s = s} (spells_axiom {a = a} {b = b} {d = d} h1 h2 h3 h4 h5) =
    let one = word_shortens h1 in
    let two = word_shortens h2.word in
    let three = colon_shortens h3 in
    let four = term_shortens h4 in
    let five = stop_shortens h5 in
    let at_s = blanks_shorten s in
    let at_a = blanks_shorten a in
    let at_b = blanks_shorten b in
    let at_d = blanks_shorten d in
    omega arith

-- no sentence begins where only blanks follow
pub no_sentence_at_end : {s r : List ℕ} {c : Sentence} → after_blanks s ≡ [] → SpellsSentence s r c → ⊥
no_sentence_at_end e (spells_axiom h1 h2 h3 h4 h5) = no_word_at_end h1 e

sentences_shorten : {s r : List ℕ} {cs : List Sentence} → SpellsSentences s r cs → length r ≤ length s
sentences_shorten no_sentence = omega arith
sentences_shorten (one_more h t) = let a = sentence_shortens h in let b = sentences_shorten t in omega arith

-- one sentence more at the end
pub sentences_then : {s a r : List ℕ} {cs : List Sentence} {c : Sentence} → SpellsSentences s a cs → SpellsSentence a r c → SpellsSentences s r (cs ++ c ∷ [])
sentences_then no_sentence d = one_more d no_sentence
sentences_then (one_more h t) d = one_more h (sentences_then t d)

-- each list of sentences goes on to the one after which none begins
goes_on : {s q r : List ℕ} {ds cs : List Sentence} → SpellsSentences s q ds → SpellsSentences s r cs →
    ((p : List ℕ) (c : Sentence) → SpellsSentence r p c → ⊥) → (es : List Sentence) × SpellsSentences q r es × (cs ≡ ds ++ es)
goes_on {cs = cs} no_sentence whole last = (cs, whole, refl)
goes_on (one_more {a = a} {c = c} h t) no_sentence last = absurd (last a c h)
goes_on {r = r} (one_more h t) (one_more {cs = cs'} h' t') last =
    let same = one_sentence h' h in
    let (es, rest, e) = goes_on t (subst (λ z. SpellsSentences z r cs') same.1 t') last in
    let first = same.0 in
    (es, rest, (cc))

-- the sentences after which none begins are the longest list
longest_left : {s q r : List ℕ} {ds cs : List Sentence} → ReadsAll s r cs → SpellsSentences s q ds → length r ≤ length q
longest_left all t = let (es, more, e) = goes_on t all.spelled all.last in sentences_shorten more

-- where only blanks follow, no list of sentences goes on
no_more : {q r : List ℕ} {es : List Sentence} → after_blanks q ≡ [] → SpellsSentences q r es → (es ≡ []) × (q ≡ r)
no_more e no_sentence = (refl, refl)
no_more e (one_more h t) = absurd (no_sentence_at_end e h)

-- what is read of a source is all of it
pub only_these : {s r : List ℕ} {cs ds : List Sentence} → ReadsAll s r cs → Reads s ds → (cs ≡ ds) × (after_blanks r ≡ [])
only_these {ds = ds} all whole =
    let (es, more, e) = goes_on whole.sentences all.spelled all.last in
    let (nothing, here) = no_more whole.blanks more in
    (e ∙ ap (λ z. ds ++ z) nothing ∙ append-nil ds, subst (λ z. after_blanks z ≡ []) here whole.blanks)

-- a list of sentences that takes no byte is empty
as_long : {q r : List ℕ} {es : List Sentence} → length q ≤ length r → SpellsSentences q r es → q ≡ r
as_long le no_sentence = refl
as_long le (one_more h t) = let a = sentence_shortens h in let b = sentences_shorten t in absurd (omega arith)

-- the place where a text is not understood is the one behind the sentences that are read
pub only_place : {s r : List ℕ} {cs : List Sentence} {place : ℕ} → ReadsAll s r cs → length s ≤ longest_source → NotYetAt s place →
    (0 < length (after_blanks r)) × (place + length (after_blanks r) ≡ length s)
only_place all short (too_long over e) = absurd (omega arith)
only_place {s = s} {r = r} {cs = cs} {place = place} all short (unread short' at) =
    let (es, more, e) = goes_on at.leaves.spelled all.spelled all.last in
    let same = as_long (at.leaves.longest r cs all.spelled) more in
    (subst (λ z. 0 < length (after_blanks z)) same at.byte, subst (λ z. place + length (after_blanks z) ≡ length s) same at.position)

-- the place behind the sentences that are read, if a byte that is no blank follows them
pub unread_at : {s r : List ℕ} {cs : List Sentence} {place : ℕ} → ReadsAll s r cs → length s ≤ longest_source →
    0 < length (after_blanks r) → place + length (after_blanks r) ≡ length s → NotYetAt s place
unread_at {r = r} {cs = cs} all short byte position = unread short (record {
  rest = r;
  leaves = record { sentences = cs; spelled = all.spelled; longest = λ q ds t. longest_left all t };
  byte = byte;
  position = position;
})

-- what is left after the sentences and blanks is part of the source
pub all_shorten : {s r : List ℕ} {cs : List Sentence} → ReadsAll s r cs → length (after_blanks r) ≤ length s
all_shorten {r = r} all = let a = blanks_shorten r in let b = sentences_shorten all.spelled in omega arith
