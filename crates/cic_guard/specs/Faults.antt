-- The fault that an answer of the guard tells.
use Rattle.cic_counted.specs.GuardTest as G
use Rattle.cic_guard.specs.declared.guarding.Unguarded.{Unguarded}

abbrev pub unguarded : Unguarded → G.Unguarded
unguarded fault = record { which = fault.f; call = fault.call }
