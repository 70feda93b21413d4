use Rattle.std.proofs.Common.{◌≡◌, ◌++◌, drop, map}
use Rattle.cic_env.specs.Declarations.{declaration}
use Rattle.section_core.specs.Answers.{declarations_of}
use Rattle.section_core.specs.calls.Stored.{kept_entry}
use Rattle.section_core.proofs.state.declarations.Given as goal

abbrev pub invariant-loop-kept : goal.invariant-loop-kept
invariant-loop-kept l =
    map declaration l.decls.items ++ declarations_of (map kept_entry (drop l.kept-index l.all)) ≡ declarations_of (map kept_entry l.all)
