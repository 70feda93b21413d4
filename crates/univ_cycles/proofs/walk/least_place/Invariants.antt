-- None of the steps so far begins below the place.
use Rattle.std.proofs.Common.{take, ◌<◌, length, get_or}
use Rattle.cic_rules.specs.Numbering.{NoneBelow}
use Rattle.univ_cycles.specs.declared.cycle.Tagged.{Tagged}
use Rattle.univ_cycles.specs.Numbers.{constraints}
use Rattle.univ_cycles.proofs.walk.least_place.Given as goal

abbrev pub invariant-loop-i : goal.invariant-loop-i
invariant-loop-i l = (l.place < length l.steps) × ((t : Tagged) → NoneBelow (get_or l.steps l.place t).constraint.left (constraints (take l.i l.steps)))
