-- The fault that a fault of the program stands for.
use Rattle.std.specs.Prelude.{Option, Some, None}
use Rattle.gal_scoping.specs.Readings.{Fault, unknown, ambiguous, bad_pattern}
use Rattle.elab_parts.specs.declared.fault.ScopingFault.{ScopingFault}
use Rattle.elab_parts.specs.declared.fault.ScopingFault.TheVariants.{Unknown, Ambiguous, BadPattern, NoBranch, NoMemory}

-- None stands for want of memory.
abbrev pub fault : ScopingFault → Option Fault
fault (Unknown name) = Some (unknown name.now)
fault (Ambiguous name one two) = Some (ambiguous name.now one two)
fault (BadPattern name) = Some (bad_pattern name.now)
fault (NoBranch constructor) = Some (bad_pattern constructor)
fault NoMemory = None
