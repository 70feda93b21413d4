-- The fault that a fault of the program stands for.
use Rattle.std.specs.Prelude.{Option, Some, None}
use Rattle.gal_scoping.specs.Readings.{Fault, unknown, ambiguous}
use Rattle.name_scope.specs.declared.fault.NameFault.{NameFault}
use Rattle.name_scope.specs.declared.fault.NameFault.TheVariants.{Unknown, Ambiguous, NoMemory}

-- None stands for want of memory.
abbrev pub fault : NameFault → Option Fault
fault (Unknown name) = Some (unknown name.now)
fault (Ambiguous name one two) = Some (ambiguous name.now one two)
fault NoMemory = None
