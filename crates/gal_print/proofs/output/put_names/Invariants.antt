-- While names are put in front: those that are left and those that were put are all.
use Rattle.gal_print.proofs.Loops.{NamesLeft}
use Rattle.gal_print.proofs.output.put_names.Given as goal

abbrev pub invariant-loop-i : goal.invariant-loop-i
invariant-loop-i l = NamesLeft l.first l.i l.count l.fn.out l.out
