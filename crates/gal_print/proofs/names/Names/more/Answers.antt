-- The numbers inside more binders.
use Rattle.std.proofs.Common.{rules}
use Rattle.gal_print.proofs.Numbers.{more_numbers}
use Rattle.gal_print.proofs.names.Names.more.Goals as goal

pub returns-in_ok-ok_or-in-Run-clause-numbers : goal.returns-in_ok-ok_or-in-Run-clause-numbers
returns-in_ok-ok_or-in-Run-clause-numbers c =
    more_numbers c.args.self.now c.in-Run.outer.now _ c.in-Run.first c.in-Run.count c.in_ok-ok_or-in-Run.field-0 c.args.more c.in-Run.is (search rules)
