-- The type of a match, and the pattern of a branch, that the values of the program stand for.
use Rattle.std.specs.Prelude.{map}
use Rattle.std.specs.Option.{option_copied}
use Rattle.cic_env.specs.Declarations.{type_declaration}
use Rattle.gal_raw.specs.Denotes.{binder}
use Rattle.gal_scoping.specs.Matches.{MatchedType, Pattern}
use Rattle.elab_matches.specs.declared.matched.MatchedType.{MatchedType as HeldType}
use Rattle.elab_matches.specs.declared.patterns.Pattern.{Pattern as HeldPattern}

abbrev pub type_of : HeldType → MatchedType
type_of t = record { id = t.id; type = type_declaration t.ty.now; parameters = t.parameters; indices = map option_copied t.indices.items }

abbrev pub pattern_of : HeldPattern → Pattern
pattern_of p = record { place = p.place; names = map binder p.names.now }
