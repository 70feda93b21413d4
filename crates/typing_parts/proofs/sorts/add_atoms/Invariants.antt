use Rattle.std.proofs.Common.{◌≡◌, drop}
use Rattle.cic_counted.specs.Inference.{add_atoms}
use Rattle.typing_parts.proofs.sorts.add_atoms.Given as goal

abbrev pub invariant-loop-atom : goal.invariant-loop-atom
invariant-loop-atom l = add_atoms l.atoms.items (drop l.atom-index l.more) ≡ add_atoms l.fn.atoms.items l.more
