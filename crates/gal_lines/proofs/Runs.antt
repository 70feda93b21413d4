-- Sentences and commands from the front are those of the definition.
use Rattle.std.proofs.Common.{ℕ, zero, suc, Bool, true, false, List, [], ◌∷◌, ◌++◌, ◌≡◌, ◌≤◌, ◌<◌, ◌+◌, length, Option, Some, None, map, drop, get_or, add-one, refl, ap, sym, subst, ◌∙◌, append_assoc, append-nil, arith, if◌then◌else◌}
use Rattle.std.specs.Prelude.{unwrap_or}
use Rattle.gal_lexer.specs.declared.token.Token.{Token}
use Rattle.gal_grammar.specs.Tokens.{spelled}
use Rattle.gal_lines.specs.Sentences.{is_stop, with_token, sentences, goes_on, command_goes_on, with_sentence, commands, lines_between, last_of, lines_of, command_lines}
use Rattle.gal_lines.specs.declared.places.Lines.{Lines}
use Rattle.gal_lines.specs.declared.building.Opened.{Opened}
use Rattle.gal_lines.specs.calls.Groups.{HaveSentences}
use Rattle.std.proofs.lemmas.Option.{same_Some}
use Rattle.std.proofs.lemmas.List.{length-map}
use Rattle.gal_lines.specs.calls.Building.{State, start, opening, lines_up_to, some_command, closed, put_in, with_open, token_behind, next, run, IsOpenBefore}
use Rattle.std.proofs.Math.Seq.{drop-cons}

-- where the sentences of commands stand
abbrev pub placed : List ℕ → List (List (List Token)) → List (List Lines)
placed source cs = map (λ c. map (lines_of source) c) cs

-- the sentences of the command that is open, before commands of which the first may go on with it
abbrev pub attach : List ℕ → List Lines → List (List (List Token)) → List (List Lines)
attach source [] cs = placed source cs
attach source (l ∷ ls) [] = (l ∷ ls) ∷ []
attach source (l ∷ ls) (c ∷ cs) =
    if command_goes_on source c then ((l ∷ ls) ++ map (lines_of source) c) ∷ placed source cs else (l ∷ ls) ∷ placed source (c ∷ cs)

-- all commands of a state, with those that are still to come
abbrev pub all_of : List ℕ → State → List (List (List Token)) → List (List Lines)
all_of source s cs = s.done ++ attach source s.current cs

attach_one : (source : List ℕ) (t : Token) (x : List Token) (cs : List (List (List Token))) →
    attach source (lines_of source (t ∷ x) ∷ []) cs ≡ placed source (with_sentence source (t ∷ x) cs)
attach_one source t x [] = refl
attach_one source t x (c ∷ cs) = by (command_goes_on source c)
  where
    by : (b : Bool) →
        (if b then ((lines_of source (t ∷ x) ∷ []) ++ map (lines_of source) c) ∷ placed source cs else (lines_of source (t ∷ x) ∷ []) ∷ placed source (c ∷ cs))
        ≡ placed source (if b then ((t ∷ x) ∷ c) ∷ cs else ((t ∷ x) ∷ []) ∷ c ∷ cs)
    by true = refl
    by false = refl

-- a sentence that goes on with the command that is open
further_one : (source : List ℕ) (t : Token) (x : List Token) (l : Lines) (ls : List Lines) (cs : List (List (List Token))) → goes_on (spelled source t) ≡ true →
    attach source ((l ∷ ls) ++ (lines_of source (t ∷ x) ∷ [])) cs ≡ attach source (l ∷ ls) (with_sentence source (t ∷ x) cs)
further_one source t x l ls [] e = rw e refl
further_one source t x l ls (c ∷ cs) e = by (command_goes_on source c)
  where
    by : (b : Bool) →
        (if b then (((l ∷ ls) ++ (lines_of source (t ∷ x) ∷ [])) ++ map (lines_of source) c) ∷ placed source cs else ((l ∷ ls) ++ (lines_of source (t ∷ x) ∷ [])) ∷ placed source (c ∷ cs))
        ≡ attach source (l ∷ ls) (if b then ((t ∷ x) ∷ c) ∷ cs else ((t ∷ x) ∷ []) ∷ c ∷ cs)
    by true = rw (e, append_assoc (l ∷ ls) (lines_of source (t ∷ x) ∷ []) (map (lines_of source) c)) refl
    by false = rw e refl

-- a sentence that does not
other_one : (source : List ℕ) (t : Token) (x : List Token) (l : Lines) (ls : List Lines) (cs : List (List (List Token))) → goes_on (spelled source t) ≡ false →
    attach source (l ∷ ls) (with_sentence source (t ∷ x) cs) ≡ (l ∷ ls) ∷ placed source (with_sentence source (t ∷ x) cs)
other_one source t x l ls [] e = rw e refl
other_one source t x l ls (c ∷ cs) e = by (command_goes_on source c)
  where
    by : (b : Bool) → attach source (l ∷ ls) (if b then ((t ∷ x) ∷ c) ∷ cs else ((t ∷ x) ∷ []) ∷ c ∷ cs)
        ≡ (l ∷ ls) ∷ placed source (if b then ((t ∷ x) ∷ c) ∷ cs else ((t ∷ x) ∷ []) ∷ c ∷ cs)
    by true = rw e refl
    by false = rw e refl

-- one more sentence leaves the whole as it is
put_one : (source : List ℕ) (t : Token) (x : List Token) (b : Bool) (o : Option Opened) (current : List Lines) (done : List (List Lines)) (cs : List (List (List Token))) → goes_on (spelled source t) ≡ b →
    all_of source (put_in (lines_of source (t ∷ x)) b (record { open_sentence = o; current = current; done = done })) cs ≡ done ++ attach source current (with_sentence source (t ∷ x) cs)
put_one source t x true o [] done cs e = ap (λ r. done ++ r) (attach_one source t x cs)
put_one source t x false o [] done cs e = rw (append-nil done) (ap (λ r. done ++ r) (attach_one source t x cs))
put_one source t x true o (l ∷ ls) done cs e = ap (λ r. done ++ r) (further_one source t x l ls cs e)
put_one source t x false o (l ∷ ls) done cs e =
    append_assoc done ((l ∷ ls) ∷ []) (attach source (lines_of source (t ∷ x) ∷ []) cs)
    ∙ ap (λ r. done ++ (((l ∷ ls) ∷ []) ++ r)) (attach_one source t x cs)
    ∙ ap (λ r. done ++ r) (sym (other_one source t x l ls cs e))

-- the tokens of a sentence that is open, before sentences of which the first goes on with it
abbrev within : Token → List Token → List (List Token) → List (List Token)
within f r [] = []
within f r (s ∷ ss) = (f ∷ (r ++ s)) ∷ ss

first_within : (f : Token) (ss : List (List Token)) → within f [] ss ≡ with_token f ss
first_within f [] = refl
first_within f (s ∷ ss) = refl

within_more : (f t : Token) (r : List Token) (ss : List (List Token)) → within f (r ++ (t ∷ [])) ss ≡ within f r (with_token t ss)
within_more f t r [] = refl
within_more f t r (s ∷ ss) = ap (λ x. (f ∷ x) ∷ ss) (append_assoc r (t ∷ []) s)

last_more : (f t : Token) (r : List Token) → last_of f (r ++ (t ∷ [])) ≡ t
last_more f t [] = refl
last_more f t (u ∷ r) = last_more u t r

-- the commands of a state, with the one that is open
abbrev pub ended : State → List (List Lines)
ended s = s.done ++ some_command s.current

ended_all : (source : List ℕ) (current : List Lines) (done : List (List Lines)) → done ++ some_command current ≡ done ++ attach source current []
ended_all source [] done = refl
ended_all source (l ∷ ls) done = refl

-- the sentence that is open: its first token, and those behind it
data Open : Type 0 where
  shut : Open
  open_at : Token → List Token → Open

abbrev opened_of : List ℕ → Open → Option Opened
opened_of source shut = None
opened_of source (open_at f r) = Some (opening source f)

abbrev with_rest : Open → List (List Token) → List (List Token)
with_rest shut ss = ss
with_rest (open_at f r) ss = within f r ss

abbrev in_state : List ℕ → Open → List Lines → List (List Lines) → State
in_state source o current done = record { open_sentence = opened_of source o; current = current; done = done }

abbrev RunsTo : List ℕ → List Token → Type 0
RunsTo source ts = (o : Open) (current : List Lines) (done : List (List Lines)) →
    ended (run source (in_state source o current done) ts) ≡ done ++ attach source current (commands source (with_rest o (sentences ts)))

put_open : (l : Lines) (b : Bool) (s : State) → put_in l b s ≡ record { open_sentence = s.open_sentence; current = (put_in l b s).current; done = (put_in l b s).done }
put_open l true s = refl
put_open l false s = refl

-- behind a token, which is the last of the sentence so far
behind_token : (source : List ℕ) (f t : Token) (q ts : List Token) (b : Bool) (current : List Lines) (done : List (List Lines)) → last_of f q ≡ t → RunsTo source ts →
    ended (run source (if b then put_in (lines_up_to (opening source f) t.place) (goes_on (spelled source f)) (record { open_sentence = None; current = current; done = done }) else record { open_sentence = Some (opening source f); current = current; done = done }) ts)
    ≡ done ++ attach source current (commands source (if b then (f ∷ q) ∷ sentences ts else within f q (sentences ts)))
behind_token source f t q ts false current done e ih = ih (open_at f q) current done
behind_token source f t q ts true current done e ih =
    let s : State = record { open_sentence = None; current = current; done = done } in
    let g : Bool = goes_on (spelled source f) in
    let made : State = put_in (lines_between source f t) g s in
    let to_last : lines_between source f t ≡ lines_of source (f ∷ q) = ap (λ u. lines_between source f u) (sym e) in
    ap (λ x. ended (run source x ts)) (put_open (lines_between source f t) g s)
    ∙ ih shut made.current made.done
    ∙ ap (λ l. all_of source (put_in l g s) (commands source (sentences ts))) to_last
    ∙ put_one source f q g None current done (commands source (sentences ts)) refl

first_token : (t : Token) (b : Bool) (ss : List (List Token)) → (if b then (t ∷ []) ∷ ss else within t [] ss) ≡ (if b then (t ∷ []) ∷ ss else with_token t ss)
first_token t true ss = refl
first_token t false ss = first_within t ss

further_token : (f t : Token) (r : List Token) (b : Bool) (ss : List (List Token)) →
    (if b then (f ∷ (r ++ (t ∷ []))) ∷ ss else within f (r ++ (t ∷ [])) ss) ≡ within f r (if b then (t ∷ []) ∷ ss else with_token t ss)
further_token f t r true ss = refl
further_token f t r false ss = within_more f t r ss

run_more : (source : List ℕ) (t : Token) (ts : List Token) → RunsTo source ts → RunsTo source (t ∷ ts)
run_more source t ts ih shut current done =
    behind_token source t t [] ts (is_stop t) current done refl ih
    ∙ ap (λ ss. done ++ attach source current (commands source ss)) (first_token t (is_stop t) (sentences ts))
run_more source t ts ih (open_at f r) current done =
    behind_token source f t (r ++ (t ∷ [])) ts (is_stop t) current done (last_more f t r) ih
    ∙ ap (λ ss. done ++ attach source current (commands source ss)) (further_token f t r (is_stop t) (sentences ts))

run_none : (source : List ℕ) → RunsTo source []
run_none source shut current done = ended_all source current done
run_none source (open_at f r) current done = ended_all source current done

runs : (source : List ℕ) (ts : List Token) → RunsTo source ts
runs source [] = run_none source
runs source (t ∷ ts) = run_more source t ts (runs source ts)

-- all tokens, from the start
pub run_whole : (source : List ℕ) (ts : List Token) → ended (run source start ts) ≡ command_lines source ts
run_whole source ts = runs source ts shut [] []

abbrev AllSome : {X : Type 0} → List (List X) → Type 0
AllSome [] = Unit {0}
AllSome (c ∷ cs) = (0 < length c) × AllSome cs

with_sentence_some : (source : List ℕ) (s : List Token) (cs : List (List (List Token))) → AllSome cs → AllSome (with_sentence source s cs)
with_sentence_some source s [] h = (omega arith, tt)
with_sentence_some source s (c ∷ cs) h = by (command_goes_on source c)
  where
    by : (b : Bool) → AllSome (if b then (s ∷ c) ∷ cs else (s ∷ []) ∷ c ∷ cs)
    by true = (omega arith, h.1)
    by false = (omega arith, h)

commands_some : (source : List ℕ) (ss : List (List Token)) → AllSome (commands source ss)
commands_some source [] = tt
commands_some source (s ∷ ss) = with_sentence_some source s (commands source ss) (commands_some source ss)

placed_some : (source : List ℕ) (cs : List (List (List Token))) → AllSome cs → AllSome (placed source cs)
placed_some source [] h = tt
placed_some source (c ∷ cs) h = (let l = length-map c (lines_of source) in let m = h.0 in omega (arith, l, m), placed_some source cs h.1)

some_at : (cs : List (List Lines)) → AllSome cs → HaveSentences cs
some_at [] h k c e = absurd (cc)
some_at (x ∷ cs) h zero c e = let same : x ≡ c = same_Some x c e in subst (λ y. 0 < length y) same h.0
some_at (x ∷ cs) h (suc k) c e = some_at cs h.1 k c e

pub have_sentences : (source : List ℕ) (ts : List Token) → HaveSentences (command_lines source ts)
have_sentences source ts = some_at (command_lines source ts) (placed_some source (commands source (sentences ts)) (commands_some source (sentences ts)))

-- one token more of the tokens
pub run_next : (source : List ℕ) (s s' : State) (ts : List Token) (i : ℕ) (d : Token) (o : Opened) → i < length ts → o ≡ unwrap_or s.open_sentence (opening source (get_or ts i d)) →
    s' ≡ token_behind o (get_or ts i d) s → run source s' (drop (i + 1) ts) ≡ run source s (drop i ts)
run_next source s s' ts i d o lt e f =
    ap (λ x. run source x (drop (i + 1) ts)) (f ∙ ap (λ x. token_behind x (get_or ts i d) s) e)
    ∙ ap (λ n. run source (next source s (get_or ts i d)) (drop n ts)) (add-one i)
    ∙ sym (ap (λ l. run source s l) (drop-cons ts i d lt))

put_shut : (l : Lines) (b : Bool) (s : State) → (put_in l b s).open_sentence ≡ s.open_sentence
put_shut l true s = refl
put_shut l false s = refl

pub open_behind : (o : Opened) (t : Token) (s s' : State) (n : ℕ) → s' ≡ token_behind o t s → IsOpenBefore (Some o) n → IsOpenBefore s'.open_sentence n
open_behind o t s s' n e h = subst (λ x. IsOpenBefore x.open_sentence n) (sym e) (by (is_stop t))
  where
    by : (b : Bool) → IsOpenBefore (if b then put_in (lines_up_to o t.place) o.further (with_open None s) else with_open (Some o) s).open_sentence n
    by true = subst (λ x. IsOpenBefore x n) (sym (put_shut (lines_up_to o t.place) o.further (with_open None s))) tt
    by false = h

pub run_done : (source : List ℕ) (s : State) (ts : List Token) (i : ℕ) → length ts ≤ i → run source s (drop i ts) ≡ s
run_done source s [] zero h = refl
run_done source s [] (suc i) h = refl
run_done source s (t ∷ ts) zero h = absurd (omega (arith, h))
run_done source s (t ∷ ts) (suc i) h = run_done source s ts i (omega arith)

-- the commands when the last one is ended
pub at_the_end : (source : List ℕ) (s s' : State) (ts : List Token) (i : ℕ) → length ts ≤ i → run source s (drop i ts) ≡ run source start ts → s' ≡ closed s → s'.done ≡ command_lines source ts
at_the_end source s s' ts i h e f = ap (λ x. x.done) f ∙ ap ended (sym (run_done source s ts i h) ∙ e) ∙ run_whole source ts
