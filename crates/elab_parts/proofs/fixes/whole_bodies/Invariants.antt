use Rattle.std.proofs.Common.{◌≡◌, ◌++◌, map, drop, length}
use Rattle.std.specs.Prelude.{nat_eq}
use Rattle.std.specs.Option.{option_map}
use Rattle.cic_env.specs.Environments.{items}
use Rattle.cic_spines.specs.Fixes.{function_of}
use Rattle.elab_parts.specs.calls.Functions.{known_function}
use Rattle.elab_parts.specs.calls.Places.{placed}
use Rattle.elab_parts.proofs.fixes.whole_bodies.Given as goal

abbrev pub invariant-loop-function : goal.invariant-loop-function
invariant-loop-function l =
    option_map (λ r. map function_of l.all.items.items ++ r) (placed (items l.env) (nat_eq (length l.functions) 1) (map known_function (drop l.function-index l.functions)))
    ≡ placed (items l.env) (nat_eq (length l.functions) 1) (map known_function l.functions)
