-- Lists of lists, as the program holds them.
use Rattle.std.specs.Prelude.{ℕ, List, ◌≡◌, ◌<◌, Some, length, map, slice_get, Vec}
use Rattle.std.specs.declared.alloc.Global.{Global}
use Rattle.gal_lines.specs.declared.places.Lines.{Lines}

abbrev pub items_of : List (Vec Lines Global) → List (List Lines)
items_of commands = map (λ v. v.items) commands

-- each command has a sentence
abbrev pub HaveSentences : List (List Lines) → Type 0
HaveSentences commands = (k : ℕ) (c : List Lines) → slice_get commands k ≡ Some c → 0 < length c
