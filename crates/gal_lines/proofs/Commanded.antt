-- The sentences of each command of a file are as many lists as there are commands, and hold all its tokens.
use Rattle.std.proofs.Common.{ℕ, suc, Bool, true, false, List, [], ◌∷◌, ◌++◌, ◌≡◌, length, map, not, refl, ap, sym, ◌∙◌, if◌then◌else◌}
use Rattle.std.proofs.lemmas.List.{length-map}
use Rattle.gal_lexer.specs.declared.token.Token.{Token}
use Rattle.gal_lexer.specs.declared.token.Kind.{Kind}
use Rattle.gal_lexer.specs.declared.token.Kind.TheVariants as K
use Rattle.gal_lexer.specs.declared.token.Mark.TheVariants as M
use Rattle.gal_grammar.specs.Tokens.{of_kind, spelled, all_spelled}
use Rattle.gal_grammar.specs.Commands.{Command}
use Rattle.gal_grammar.specs.Grammar.{File}
use Rattle.gal_lines.specs.Sentences.{is_stop_kind, is_stop, with_token, sentences, sentence_goes_on, command_goes_on, with_sentence, commands, lines_of, command_lines}
use Rattle.gal_lines.specs.Joined.{joined}
use Rattle.gal_lines.proofs.Wants.{count_if}
use Rattle.gal_lines.proofs.Counts.{ends_token, count_first, begun, at_start, count_file, file_opens}

kind_stop : (k : Kind) (place : ℕ) (text : List ℕ) → ends_token (of_kind k place text) ≡ is_stop_kind k
kind_stop (K.Mark M.Stop) place text = refl
kind_stop k place text = refl

stop_same : (source : List ℕ) (t : Token) → ends_token (spelled source t) ≡ is_stop t
stop_same source t = kind_stop t.kind t.place _

-- some sentence ends with or behind the tokens of a sentence that is not ended yet
abbrev SomeSentence : List (List Token) → Type 0
SomeSentence ss = (s : List Token) × (rest : List (List Token)) × (ss ≡ s ∷ rest)

some_more : (t : Token) (ss : List (List Token)) → SomeSentence ss → SomeSentence (with_token t ss)
some_more t ss (s, rest, e) = (t ∷ s, rest, ap (with_token t) e)

some_sentence : (source : List ℕ) (ts : List Token) → at_start false (all_spelled source ts) ≡ true → SomeSentence (sentences ts)
some_sentence source [] e = absurd (cc)
some_sentence source (t ∷ ts) e = by (is_stop t) (ap (λ b. at_start b (all_spelled source ts)) (sym (stop_same source t)) ∙ e) (λ h. some_sentence source ts h)
  where
    by : (v : Bool) → at_start v (all_spelled source ts) ≡ true → (at_start false (all_spelled source ts) ≡ true → SomeSentence (sentences ts)) → SomeSentence (if v then (t ∷ []) ∷ sentences ts else with_token t (sentences ts))
    by true h further = (t ∷ [], sentences ts, refl)
    by false h further = some_more t (sentences ts) (further h)

-- how many sentences begin a command
abbrev openers : List ℕ → List (List Token) → ℕ
openers source [] = 0
openers source (s ∷ ss) = count_if (not (sentence_goes_on source s)) (openers source ss)

abbrev behind_first : List (List Token) → List (List Token)
behind_first [] = []
behind_first (s ∷ ss) = ss

-- the same of sentences of which the first is whole or the rest of one
abbrev opened_in : List ℕ → Bool → List (List Token) → ℕ
opened_in source true ss = openers source ss
opened_in source false ss = openers source (behind_first ss)

one_opener : (source : List ℕ) (b : Bool) (t : Token) (x : List Token) (ss : List (List Token)) → opened_in source b ((t ∷ x) ∷ ss) ≡ count_first b (spelled source t) (openers source ss)
one_opener source true t x ss = refl
one_opener source false t x ss = refl

count_sentences : (source : List ℕ) (ts : List Token) (b : Bool) → at_start b (all_spelled source ts) ≡ true → opened_in source b (sentences ts) ≡ begun b (all_spelled source ts)
count_sentences source [] true e = refl
count_sentences source [] false e = absurd (cc)
count_sentences source (t ∷ ts) b e = by (is_stop t) (stop_same source t) (λ v h. count_sentences source ts v h)
  where
    by : (v : Bool) → ends_token (spelled source t) ≡ v →
        ((w : Bool) → at_start w (all_spelled source ts) ≡ true → opened_in source w (sentences ts) ≡ begun w (all_spelled source ts)) →
        opened_in source b (if v then (t ∷ []) ∷ sentences ts else with_token t (sentences ts)) ≡ count_first b (spelled source t) (begun (ends_token (spelled source t)) (all_spelled source ts))
    by true u further =
        let h : at_start true (all_spelled source ts) ≡ true = ap (λ x. at_start x (all_spelled source ts)) (sym u) ∙ e in
        one_opener source b t [] (sentences ts)
        ∙ ap (λ n. count_first b (spelled source t) n) (further true h ∙ sym (ap (λ x. begun x (all_spelled source ts)) u))
    by false u further =
        let h : at_start false (all_spelled source ts) ≡ true = ap (λ x. at_start x (all_spelled source ts)) (sym u) ∙ e in
        let (s, rest, q) = some_sentence source ts h in
        ap (λ ss. opened_in source b (with_token t ss)) q
        ∙ one_opener source b t s rest
        ∙ ap (λ n. count_first b (spelled source t) n)
        (ap (λ ss. openers source (behind_first ss)) (sym q) ∙ further false h ∙ sym (ap (λ x. begun x (all_spelled source ts)) u))

abbrev HasHead : List Token → List (List (List Token)) → Type 0
HasHead s cs = (x : List (List Token)) × (rest : List (List (List Token))) × (cs ≡ (s ∷ x) ∷ rest)

head_with : (source : List ℕ) (s : List Token) (cs : List (List (List Token))) → HasHead s (with_sentence source s cs)
head_with source s [] = ([], [], refl)
head_with source s (c ∷ cs) = by (command_goes_on source c)
  where
    by : (b : Bool) → HasHead s (if b then (s ∷ c) ∷ cs else (s ∷ []) ∷ c ∷ cs)
    by true = (c, cs, refl)
    by false = ([], c ∷ cs, refl)

apart : (g : Bool) (s r : List Token) (x : List (List Token)) (cs : List (List (List Token))) (n : ℕ) → suc (length cs) ≡ suc n →
    length (if g then (s ∷ r ∷ x) ∷ cs else (s ∷ []) ∷ (r ∷ x) ∷ cs) ≡ suc (count_if (not g) n)
apart true s r x cs n e = e
apart false s r x cs n e = ap suc e

count_commands : (source : List ℕ) (s : List Token) (ss : List (List Token)) → length (commands source (s ∷ ss)) ≡ suc (openers source ss)
count_commands source s [] = refl
count_commands source s (r ∷ ss) =
    let (x, cs, q) = head_with source r (commands source ss) in
    ap (λ y. length (with_sentence source s y)) q
    ∙ apart (sentence_goes_on source r) s r x cs (openers source ss) (sym (ap length q) ∙ count_commands source r ss)

first_sentence : (source : List ℕ) (t : Token) (ts : List Token) → at_start true (all_spelled source (t ∷ ts)) ≡ true →
    (x : List Token) × (rest : List (List Token)) × (sentences (t ∷ ts) ≡ (t ∷ x) ∷ rest)
first_sentence source t ts e = by (is_stop t) (ap (λ b. at_start b (all_spelled source ts)) (sym (stop_same source t)) ∙ e)
  where
    by : (v : Bool) → at_start v (all_spelled source ts) ≡ true →
        (x : List Token) × (rest : List (List Token)) × ((if v then (t ∷ []) ∷ sentences ts else with_token t (sentences ts)) ≡ (t ∷ x) ∷ rest)
    by true h = ([], sentences ts, refl)
    by false h = let (s, rest, q) = some_sentence source ts h in (s, rest, ap (with_token t) q)

count_all : (source : List ℕ) (ts : List Token) (cs : List Command) → File (all_spelled source ts) cs → length (commands source (sentences ts)) ≡ length cs
count_all source [] cs r = sym (count_file [] cs r).0
count_all source (t ∷ ts) cs r =
    let h = count_file (all_spelled source (t ∷ ts)) cs r in
    let opening = file_opens (spelled source t) (all_spelled source ts) cs r in
    let (x, rest, q) = first_sentence source t ts h.1 in
    ap (λ y. length (commands source y)) q
    ∙ count_commands source (t ∷ x) rest
    ∙ sym (ap (λ g. count_if (not g) (openers source rest)) opening)
    ∙ ap (openers source) (sym q)
    ∙ count_sentences source (t ∷ ts) true h.1
    ∙ sym h.0

-- each command of a file has its sentences
pub command_each : (source : List ℕ) (ts : List Token) (cs : List Command) → File (all_spelled source ts) cs → length (command_lines source ts) ≡ length cs
command_each source ts cs r = length-map (commands source (sentences ts)) (λ c. map (lines_of source) c) ∙ count_all source ts cs r

joined_all : (source : List ℕ) (ts : List Token) (b : Bool) → at_start b (all_spelled source ts) ≡ true → joined (sentences ts) ≡ ts
joined_all source [] b e = refl
joined_all source (t ∷ ts) b e = by (is_stop t) (ap (λ x. at_start x (all_spelled source ts)) (sym (stop_same source t)) ∙ e) (λ v h. joined_all source ts v h)
  where
    by : (v : Bool) → at_start v (all_spelled source ts) ≡ true → ((w : Bool) → at_start w (all_spelled source ts) ≡ true → joined (sentences ts) ≡ ts) → joined (if v then (t ∷ []) ∷ sentences ts else with_token t (sentences ts)) ≡ t ∷ ts
    by true h further = ap (λ y. t ∷ y) (further true h)
    by false h further =
        let (s, rest, q) = some_sentence source ts h in
        ap (λ ss. joined (with_token t ss)) q ∙ ap (λ ss. t ∷ joined ss) (sym q) ∙ ap (λ y. t ∷ y) (further false h)

-- each token of a file is in a sentence
pub sentences_hold : (source : List ℕ) (ts : List Token) (cs : List Command) → File (all_spelled source ts) cs → joined (sentences ts) ≡ ts
sentences_hold source ts cs r = joined_all source ts true (count_file (all_spelled source ts) cs r).1

joined_with : (source : List ℕ) (s : List Token) (cs : List (List (List Token))) → joined (with_sentence source s cs) ≡ s ∷ joined cs
joined_with source s [] = refl
joined_with source s (c ∷ cs) = by (command_goes_on source c)
  where
    by : (b : Bool) → joined (if b then (s ∷ c) ∷ cs else (s ∷ []) ∷ c ∷ cs) ≡ s ∷ (c ++ joined cs)
    by true = refl
    by false = refl

-- each sentence is in a command
pub commands_hold : (source : List ℕ) (ss : List (List Token)) → joined (commands source ss) ≡ ss
commands_hold source [] = refl
commands_hold source (s ∷ ss) = joined_with source s (commands source ss) ∙ ap (λ y. s ∷ y) (commands_hold source ss)
