-- What a file requires. Coq Reference Manual, "Vernacular", Require.
use Rattle.std.specs.Prelude.{List, [], ◌∷◌, ◌++◌, Option, map}
use Rattle.std.specs.Option.{option_map}
use Rattle.gal_grammar.specs.Terms.{Named, Qual}
use Rattle.gal_grammar.specs.Commands.{Command, Flag, require}
use Rattle.gal_raw.specs.Denotes.{identifier, qualified}
use Rattle.gal_raw.specs.Commands as C
use Rattle.gal_lines.specs.declared.places.Lines.{Lines}
use Rattle.gal_requires.specs.declared.requiring.Require.{Require}
use Rattle.gal_requires.specs.declared.requiring.RequireList.{RequireList}

-- a command Require: where its sentence stands, the name behind From, whether it imports or exports, and the names
pub record Required : Type 0 where
  pub lines : Lines
  pub from : Option Named
  pub flag : Flag
  pub names : List Qual

-- what a command requires, whose first sentence stands at the lines
abbrev pub required_by : Command → Lines → List Required
required_by (require from flag names) lines = record { lines = lines; from = from; flag = flag; names = names } ∷ []
required_by _ lines = []

abbrev pub first_of : List Lines → Lines
first_of [] = record { place = 0; line = 1; from = 0; to = 0 }
first_of (l ∷ ls) = l

-- what the commands require, in order; the second list has the sentences of each command
abbrev pub requires_of : List Command → List (List Lines) → List Required
requires_of (c ∷ cs) (ls ∷ lss) = required_by c (first_of ls) ++ requires_of cs lss
requires_of _ _ = []

-- what a value of the program stands for
abbrev pub denoted : Require → Required
denoted r = record { lines = r.lines; from = option_map identifier r.from; flag = C.flag r.flag; names = map qualified r.names.now }

abbrev pub all_denoted : RequireList → List Required
all_denoted list = map denoted list.items.items
