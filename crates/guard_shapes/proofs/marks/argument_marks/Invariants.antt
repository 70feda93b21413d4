use Rattle.std.proofs.Common.{◌≡◌, ◌++◌}
use Rattle.cic_terms.specs.Denotes.{tree}
use Rattle.cic_rules.specs.Guard.{argument_marks}
use Rattle.cic_rules.specs.Telescopes.{domains_of}
use Rattle.cic_env.specs.Environments.{items}
use Rattle.guard_shapes.specs.Denotes.{ids_of, shared_shapes}
use Rattle.guard_shapes.specs.Marks.{marks}
use Rattle.guard_shapes.proofs.marks.argument_marks.Given as goal

abbrev pub invariant-loop-at : goal.invariant-loop-at
invariant-loop-at l =
    marks l.found.items ++ argument_marks (items l.env) (ids_of l.own) (shared_shapes l.under) (domains_of (tree l.at))
    ≡ argument_marks (items l.env) (ids_of l.own) (shared_shapes l.variables) (domains_of (tree l.t))
