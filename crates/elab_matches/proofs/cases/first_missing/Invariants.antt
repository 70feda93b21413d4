use Rattle.std.proofs.Common.{◌≡◌, map, drop}
use Rattle.cic_env.specs.Declarations.{constructor_declaration}
use Rattle.elab_matches.specs.calls.Branches.{done_of}
use Rattle.elab_matches.specs.calls.Cases.{missing}
use Rattle.elab_matches.proofs.cases.first_missing.Given as goal

abbrev pub invariant-loop-place : goal.invariant-loop-place
invariant-loop-place l =
    missing (done_of l.done) l.place (map constructor_declaration (drop l.place l.constructors)) ≡ missing (done_of l.done) 0 (map constructor_declaration l.constructors)
