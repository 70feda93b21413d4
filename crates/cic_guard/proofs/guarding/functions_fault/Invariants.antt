use Rattle.std.proofs.Common.{◌≡◌, drop, length, map}
use Rattle.cic_counted.specs.GuardTest.{functions_fault}
use Rattle.cic_env.specs.Environments.{items}
use Rattle.cic_spines.specs.Fixes.{function_of}
use Rattle.cic_guard.specs.calls.Guards.{places_in}
use Rattle.cic_guard.proofs.guarding.functions_fault.Given as goal

abbrev pub invariant-loop-f : goal.invariant-loop-f
invariant-loop-f l =
    functions_fault (items l.env) (places_in l.all) (length l.all) l.f (map function_of (drop l.f l.all))
    ≡ functions_fault (items l.env) (places_in l.all) (length l.all) 0 (map function_of l.all)
