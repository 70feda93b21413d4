use Rattle.std.proofs.Common.{◌≡◌, ◌++◌, reverse, sym, ap, subst, ◌∙◌}
use Rattle.std.proofs.lemmas.List.{append-nil}
use Rattle.cic_counted.specs.Readings.{arguments_of}
use Rattle.cic_ind.specs.calls.Pending.{IsLifted, part_trees, pending_tree}
use Rattle.cic_ind.proofs.Kept.{no_application_left, lifted_variables, reversed_parts, all_taken}
use Rattle.cic_ind.proofs.pending.take_spine.Goals as goal
use Rattle.cic_ind.proofs.pending.take_spine.Goals.{in-Some+in_ok-head-2, in_default}

pub returns-clause-arguments : goal.returns-clause-arguments
returns-clause-arguments c =
    let whole : arguments_of (pending_tree c.in_ok-head.head) ++ reverse (part_trees c.take_arguments.new.found.items) ≡ arguments_of (pending_tree c.args.p.now) =
    c.in_ok-head.ensures.arguments ∙ ap (λ l. arguments_of (pending_tree c.args.p.now) ++ reverse (part_trees l)) c.new-arguments.ensures.items ∙ append-nil (arguments_of (pending_tree c.args.p.now)) in
    ap part_trees c.reverse.ensures.items
    ∙ reversed_parts c.match-shown.arguments.items
    ∙ elim c.match-shown.branch [
      | in-Some+in_ok-head-2 w ↦
          ap (λ v. reverse (part_trees v.items)) w.arguments-is
          ∙ all_taken w.in_ok-head-2.head _ _
          (no_application_left w.in_ok-head-2.head.change w.in_ok-head-2.head.under w.in_ok-head-2.head.term.now w.in_ok-head-2.ensures.last
          (lifted_variables w.in_ok-head-2.head.change w.in_ok-head-2.head.under w.in_ok-head-2.head.term.now (subst IsLifted (sym w.in_ok-head-2.ensures.change) w.in-Some.ensures.lifted)))
          (w.in_ok-head-2.ensures.arguments ∙ ap (λ t. arguments_of t ++ reverse (part_trees c.take_arguments.new.found.items)) w.in-Some.ensures.some)
          ∙ whole
      | in_default w ↦
          ap (λ v. reverse (part_trees v.items)) w.arguments-is
          ∙ all_taken c.in_ok-head.head _ _
          (no_application_left c.in_ok-head.head.change c.in_ok-head.head.under c.in_ok-head.head.term.now c.in_ok-head.ensures.last w.in_default.ensures.none)
          whole
    ]
