-- The marks that those of the program stand for.
use Rattle.std.specs.Prelude.{List, map}
use Rattle.cic_rules.specs.Guard as guard
use Rattle.guard_shapes.specs.Denotes.{shared_shape}
use Rattle.guard_shapes.specs.declared.marks.Mark.{Mark}
use Rattle.guard_shapes.specs.declared.marks.Mark.TheVariants.{Plain, Main, Smaller, Function}

abbrev pub mark : Mark → guard.Mark
mark Plain = guard.plain
mark Main = guard.main
mark (Smaller s) = guard.smaller (shared_shape s)
mark (Function j) = guard.function j

abbrev pub marks : List Mark → List guard.Mark
marks = map mark
