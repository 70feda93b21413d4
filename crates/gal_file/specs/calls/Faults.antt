-- The faults of the steps as faults of a source.
use Rattle.std.specs.Prelude.{ℕ, List, ◌-◌, length}
use Rattle.gal_lexer.specs.declared.token.Token.{Token}
use Rattle.gal_lexer.specs.declared.token.LexFault.{LexFault}
use Rattle.gal_lexer.specs.declared.token.LexFault.TheVariants as L
use Rattle.gal_term_parser.specs.declared.fault.Fault.{Fault}
use Rattle.gal_term_parser.specs.declared.fault.Fault.TheVariants as P
use Rattle.gal_file.specs.Reading.{place_at}
use Rattle.gal_file.specs.declared.fault.ParseFault.{ParseFault}
use Rattle.gal_file.specs.declared.fault.ParseFault.TheVariants as F

abbrev pub fault_of : LexFault → ParseFault
fault_of (L.BadChar place) = F.BadChar place
fault_of (L.OpenComment place) = F.OpenComment place
fault_of (L.LongName place) = F.LongName place
fault_of L.NoMemory = F.NoMemory

-- a fault whose place was said by the tokens that are left
abbrev pub placed : List ℕ → List Token → Fault → ParseFault
placed source tokens (P.Syntax left) = F.Syntax (place_at source tokens (length tokens - left))
placed source tokens (P.Nesting left) = F.Nesting (place_at source tokens (length tokens - left))
placed source tokens P.NoMemory = F.NoMemory
