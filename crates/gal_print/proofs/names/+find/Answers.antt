-- The binder of a variable is in the innermost run of binders, or outside it.
use Rattle.gal_print.proofs.Numbers.{found_inside, found_outside}
use Rattle.gal_print.proofs.names.+find.Goals as goal

pub returns-then-x-count : goal.returns-then-x-count
returns-then-x-count t c =
    found_inside c.args.names.now c.in-Run.outer.now _ c.in-Run.first c.in-Run.count c.args.x c.in-Run.is c.if-x-count.true

pub returns-else-x-count : goal.returns-else-x-count
returns-else-x-count t c =
    found_outside c.args.names.now c.in-Run.outer.now _ c.in-Run.first c.in-Run.count c.args.x c.find.result c.in-Run.is c.if-x-count.false c.find.ensures
