-- The sentences of a file, and which of them are one command. Coq Reference Manual, "Lexical conventions" and "Vernacular".
use Rattle.std.specs.Prelude.{ℕ, Bool, true, false, List, [], ◌∷◌, ◌+◌, ◌-◌, ◌||◌, if◌then◌else◌, map, take, codes}
use Rattle.std.specs.Str.{bytes_eq}
use Rattle.gal_lexer.specs.declared.token.Token.{Token}
use Rattle.gal_lexer.specs.declared.token.Kind.{Kind}
use Rattle.gal_lexer.specs.declared.token.Kind.TheVariants as K
use Rattle.gal_lexer.specs.declared.token.Mark.TheVariants as M
use Rattle.gal_grammar.specs.Tokens.{spelled}
use Rattle.gal_grammar.specs.Tokens as T
use Rattle.gal_lines.specs.Lines.{line_behind, column_behind}
use Rattle.gal_lines.specs.declared.places.Lines.{Lines}

abbrev pub is_stop_kind : Kind → Bool
is_stop_kind (K.Mark M.Stop) = true
is_stop_kind _ = false

-- the dot that ends a sentence
abbrev pub is_stop : Token → Bool
is_stop t = is_stop_kind t.kind

-- a token before sentences goes with the first of them; with none behind it, it is in no sentence
abbrev pub with_token : Token → List (List Token) → List (List Token)
with_token t [] = []
with_token t (s ∷ ss) = (t ∷ s) ∷ ss

-- The sentences: a sentence is the tokens up to and with its stop.
abbrev pub sentences : List Token → List (List Token)
sentences [] = []
sentences (t ∷ ts) = if is_stop t then (t ∷ []) ∷ sentences ts else with_token t (sentences ts)

-- the words with which a sentence of a proof begins, and no command does
abbrev pub is_proof_word : List ℕ → Bool
is_proof_word x =
    bytes_eq (codes "Proof") x || bytes_eq (codes "exact") x || bytes_eq (codes "Qed") x || bytes_eq (codes "Defined") x
    || bytes_eq (codes "Admitted") x

-- a sentence that begins with the token goes on with the command before it
abbrev pub goes_on : T.Token → Bool
goes_on (T.ident place x) = is_proof_word x
goes_on _ = false

abbrev pub sentence_goes_on : List ℕ → List Token → Bool
sentence_goes_on source [] = false
sentence_goes_on source (t ∷ s) = goes_on (spelled source t)

abbrev pub command_goes_on : List ℕ → List (List Token) → Bool
command_goes_on source [] = false
command_goes_on source (s ∷ ss) = sentence_goes_on source s

-- a sentence before commands: it goes with the first of them where that goes on with it, else it is a command
abbrev pub with_sentence : List ℕ → List Token → List (List (List Token)) → List (List (List Token))
with_sentence source s [] = (s ∷ []) ∷ []
with_sentence source s (c ∷ cs) = if command_goes_on source c then (s ∷ c) ∷ cs else (s ∷ []) ∷ c ∷ cs

-- The sentences of each command: one, and those that go on with it.
abbrev pub commands : List ℕ → List (List Token) → List (List (List Token))
commands source [] = []
commands source (s ∷ ss) = with_sentence source s (commands source ss)

-- where what begins with the first token and ends with the stop stands; a stop is one byte
abbrev pub lines_between : List ℕ → Token → Token → Lines
lines_between source first stop =
    let before = take first.place source in
    record {
      place = first.place;
      line = line_behind before;
      from = column_behind before;
      to = column_behind before + (stop.place + 1 - first.place);
    }

abbrev pub last_of : Token → List Token → Token
last_of t [] = t
last_of t (u ∷ ts) = last_of u ts

-- where a sentence stands
abbrev pub lines_of : List ℕ → List Token → Lines
lines_of source [] = record { place = 0; line = 1; from = 0; to = 0 }
lines_of source (t ∷ ts) = lines_between source t (last_of t ts)

-- where the sentences of each command stand
abbrev pub command_lines : List ℕ → List Token → List (List Lines)
command_lines source tokens = map (λ c. map (lines_of source) c) (commands source (sentences tokens))
