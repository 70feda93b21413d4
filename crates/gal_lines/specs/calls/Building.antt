-- Sentences and commands from the front, token by token.
use Rattle.std.specs.Prelude.{ℕ, Bool, true, false, List, [], ◌∷◌, ◌++◌, ◌+◌, ◌-◌, ◌≤◌, ◌<◌, Option, Some, None, if◌then◌else◌, unwrap_or, take, length}
use Rattle.gal_lexer.specs.declared.token.Token.{Token}
use Rattle.gal_grammar.specs.Tokens.{spelled}
use Rattle.gal_lines.specs.Lines.{line_behind, column_behind}
use Rattle.gal_lines.specs.Sentences.{is_stop, goes_on}
use Rattle.gal_lines.specs.declared.places.Lines.{Lines}
use Rattle.gal_lines.specs.declared.building.Opened.{Opened}
use Rattle.gal_lines.specs.declared.building.Building.{Building}
use Rattle.gal_lines.specs.calls.Groups.{items_of}

-- the sentence that is open, those of the command that is open, and the commands before
pub record State : Type 0 where
  pub open_sentence : Option Opened
  pub current : List Lines
  pub done : List (List Lines)

abbrev pub state_of : Building → State
state_of b = record { open_sentence = b.opened; current = b.current.items; done = items_of b.done.items }

abbrev pub start : State
start = record { open_sentence = None; current = []; done = [] }

-- a sentence that begins with the token
abbrev pub opening : List ℕ → Token → Opened
opening source t = record {
  place = t.place;
  line = line_behind (take t.place source);
  from = column_behind (take t.place source);
  further = goes_on (spelled source t);
}

abbrev pub lines_up_to : Opened → ℕ → Lines
lines_up_to o stop = record { place = o.place; line = o.line; from = o.from; to = o.from + (stop + 1 - o.place) }

abbrev pub some_command : List Lines → List (List Lines)
some_command [] = []
some_command (l ∷ ls) = (l ∷ ls) ∷ []

-- the command that is open joins those before
abbrev pub closed : State → State
closed s = record { open_sentence = s.open_sentence; current = []; done = s.done ++ some_command s.current }

abbrev pub added : Lines → State → State
added l s = record { open_sentence = s.open_sentence; current = s.current ++ (l ∷ []); done = s.done }

-- one more sentence
abbrev pub put_in : Lines → Bool → State → State
put_in l true s = added l s
put_in l false s = added l (closed s)

abbrev pub with_open : Option Opened → State → State
with_open o s = record { open_sentence = o; current = s.current; done = s.done }

-- one more token, behind the first token of the sentence that is open
abbrev pub token_behind : Opened → Token → State → State
token_behind o t s = if is_stop t then put_in (lines_up_to o t.place) o.further (with_open None s) else with_open (Some o) s

-- one more token
abbrev pub next : List ℕ → State → Token → State
next source s t = token_behind (unwrap_or s.open_sentence (opening source t)) t s

-- all tokens
abbrev pub run : List ℕ → State → List Token → State
run source s [] = s
run source s (t ∷ ts) = run source (next source s t) ts

-- Each token stands in the source, behind the place and the tokens before it.
abbrev pub Follow : List ℕ → ℕ → List Token → Type 0
Follow source n [] = Unit {0}
Follow source n (t ∷ ts) = (n ≤ t.place) × (t.place < length source) × Follow source t.place ts

-- the sentence that is open begins before the place
abbrev pub IsOpenBefore : Option Opened → ℕ → Type 0
IsOpenBefore None n = Unit {0}
IsOpenBefore (Some o) n = (o.place ≤ n) × (o.from ≤ o.place)
