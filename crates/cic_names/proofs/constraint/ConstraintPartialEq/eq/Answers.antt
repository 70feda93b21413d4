-- Byte strings are equal where their order says so.
use Rattle.std.proofs.Common.{ap, sym, ◌∙◌}
use Rattle.std.specs.Cmp.Lexicographic.{texts_ties}
use Rattle.std.specs.Ordering.{is_eq}
use Rattle.cic_names.specs.Orders.{constraint_bytes}
use Rattle.cic_names.proofs.constraint.ConstraintPartialEq.eq.Goals as goal

pub returns : goal.returns
returns c =
    c.is_eq.ensures ∙ ap is_eq c.cmp.ensures ∙ sym (texts_ties (constraint_bytes c.args.self.now) (constraint_bytes c.args.other.now))
