-- While the atoms are added: the text with those that are left is the whole.
use Rattle.std.proofs.Common.{◌≡◌, ◌++◌, drop}
use Rattle.std.specs.String.{string_bytes}
use Rattle.gal_print.specs.Sorts.{atoms_text}
use Rattle.gal_print.proofs.Loops.{atoms_left}
use Rattle.gal_print.proofs.pieces.push_atoms.Given as goal

abbrev pub invariant-loop-i : goal.invariant-loop-i
invariant-loop-i l = string_bytes l.text ++ atoms_left l.i (drop l.i l.atoms) ≡ string_bytes l.fn.text ++ atoms_text l.fn.atoms
