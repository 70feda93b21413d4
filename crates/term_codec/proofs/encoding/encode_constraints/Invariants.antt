use Rattle.std.proofs.Common.{◌≡◌, ◌++◌, length}
use Rattle.cic_names.specs.Orders.{digits}
use Rattle.term_format.specs.Spelling.{constraint_list_bytes}
use Rattle.term_codec.proofs.encoding.encode_constraints.Given as goal

abbrev pub invariant-loop-one : goal.invariant-loop-one
invariant-loop-one l = l.bytes.items ++ constraint_list_bytes l.one-iterator ≡ digits (length l.all) ++ constraint_list_bytes l.all
