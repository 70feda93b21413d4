use Rattle.std.proofs.Common.{◌≡◌, drop}
use Rattle.cic_rules.specs.Telescopes.{is_among}
use Rattle.cic_positivity.specs.calls.Parts.{ids_of}
use Rattle.cic_positivity.proofs.occurrences.is_among.Given as goal

abbrev pub invariant-loop-ty : goal.invariant-loop-ty
invariant-loop-ty l =
    is_among l.id (ids_of (drop l.ty-index l.types)) ≡ is_among l.id (ids_of l.types)
