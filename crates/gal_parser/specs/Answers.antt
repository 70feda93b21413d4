-- What the parser answers.
use Rattle.std.specs.Prelude.{ℕ, Option, Some, None, Result}
use Rattle.memory.specs.Telling.{IfReason}
use Rattle.gal_parser.specs.declared.parser.ParseFault.{ParseFault}
use Rattle.gal_parser.specs.declared.parser.ParseFault.TheVariants as P

-- the one reason why a source gives no sentences: the place from which on it is not understood
abbrev pub not_yet_place : ParseFault → Option ℕ
not_yet_place (P.NotYet place) = Some place
not_yet_place P.NoMemory = None

-- the fact of the place that is answered, if one is
abbrev pub OnNotYet : {X : Type 0} → Result X ParseFault → (ℕ → Type 0) → Type 0
OnNotYet result Q = IfReason not_yet_place result Q
