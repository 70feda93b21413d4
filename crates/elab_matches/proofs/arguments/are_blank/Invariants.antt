use Rattle.std.proofs.Common.{◌≡◌, map, drop}
use Rattle.std.specs.Prelude.{is_none}
use Rattle.std.specs.List.{list_all}
use Rattle.gal_raw.specs.Denotes.{binder}
use Rattle.gal_scoping.specs.Names.{binder_name}
use Rattle.elab_matches.proofs.arguments.are_blank.Given as goal

abbrev pub invariant-loop-written : goal.invariant-loop-written
invariant-loop-written l =
    list_all (λ b. is_none (binder_name b)) (map binder (drop l.written-index l.binders)) ≡ list_all (λ b. is_none (binder_name b)) (map binder l.binders)
