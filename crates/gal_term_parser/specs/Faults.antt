-- What a fault says of tokens that are to be something, a term or a file for example.
use Rattle.std.specs.Prelude.{List, length, ◌-◌}
use Rattle.gal_grammar.specs.Tokens.{Token}
use Rattle.gal_grammar.specs.Kinds.{Want}
use Rattle.gal_grammar.specs.Values.{Val}
use Rattle.gal_grammar.specs.Grammar.{IsSyntax, IsNesting}
use Rattle.gal_term_parser.specs.declared.fault.Fault.{Fault}
use Rattle.gal_term_parser.specs.declared.fault.Fault.TheVariants.{NoMemory, Syntax, Nesting}

-- the place is so many tokens before the end
abbrev pub IsFaultOf : (wants : List Want) → (said : List Val) → List Token → Fault → Type 0
IsFaultOf wants said s NoMemory = Unit {0}
IsFaultOf wants said s (Syntax left) = IsSyntax wants said s (length s - left)
IsFaultOf wants said s (Nesting left) = IsNesting wants said s (length s - left)
