use Rattle.std.proofs.Common.{◌≡◌, drop, map}
use Rattle.cic_terms.specs.Denotes.{branch_list}
use Rattle.cic_counted.specs.Inference.{are_branches}
use Rattle.cic_env.specs.Declarations.{constructor_declaration}
use Rattle.cic_typing.proofs.branches.are_branches.Given as goal

abbrev pub invariant-loop-i : goal.invariant-loop-i
invariant-loop-i l =
    are_branches l.parameters (map constructor_declaration (drop l.i l.ctors)) (branch_list (drop l.i l.branches))
    ≡ are_branches l.parameters (map constructor_declaration l.ctors) (branch_list l.branches)
