use Rattle.std.proofs.Common.{◌≡◌, ◌-◌}
use Rattle.std.specs.Option.{option_map}
use Rattle.cic_terms.specs.Tree.{join}
use Rattle.cic_terms.specs.Denotes.{branch_list}
use Rattle.elab_matches.specs.calls.Branches.{done_of}
use Rattle.elab_matches.specs.calls.Cases.{known_in_order}
use Rattle.elab_matches.proofs.cases.in_order.Given as goal

abbrev pub invariant-loop-place : goal.invariant-loop-place
invariant-loop-place l =
    option_map (join (branch_list l.all.items.items)) (known_in_order (done_of l.done) l.place (l.count - l.place))
    ≡ known_in_order (done_of l.done) 0 l.count
