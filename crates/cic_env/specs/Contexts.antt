-- What a context of the program stands for.
use Rattle.std.specs.Prelude.{map, reverse}
use Rattle.std.specs.Option.{option_map}
use Rattle.cic_terms.specs.Denotes.{tree}
use Rattle.cic_rules.specs.Environment as rules
use Rattle.cic_env.specs.declared.context.Local.{Local}
use Rattle.cic_env.specs.declared.context.Context.{Context}

abbrev pub local : Local → rules.Entry
local entry = record { type = option_map (λ t. tree t.value) entry.ty; body = option_map (λ t. tree t.value) entry.body }

-- The entries, the innermost first; the program keeps it last.
abbrev pub context : Context → rules.Context
context ctx = map local (reverse ctx.locals.items)
