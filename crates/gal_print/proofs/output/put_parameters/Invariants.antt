-- While a `_` is put in front for each parameter.
use Rattle.gal_print.specs.Printing.{parameters_text}
use Rattle.gal_print.specs.calls.Output.{Puts}
use Rattle.gal_print.proofs.output.put_parameters.Given as goal

abbrev pub invariant-loop-i : goal.invariant-loop-i
invariant-loop-i l = Puts (parameters_text l._i) l.fn.out l.out
