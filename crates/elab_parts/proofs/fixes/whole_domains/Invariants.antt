use Rattle.std.proofs.Common.{◌≡◌, ◌++◌, map, drop}
use Rattle.std.specs.Option.{option_map}
use Rattle.cic_terms.specs.Denotes.{tree}
use Rattle.gal_scoping.specs.Fixpoints.{domains}
use Rattle.elab_parts.specs.calls.Bindings.{known_binding}
use Rattle.elab_parts.specs.calls.Functions.{whole_bindings}
use Rattle.elab_parts.proofs.fixes.whole_domains.Given as goal

abbrev pub invariant-loop-binder : goal.invariant-loop-binder
invariant-loop-binder l =
    option_map (λ r. map tree l.all.terms.items ++ r) (option_map domains (whole_bindings (map known_binding (drop l.binder-index l.binders))))
    ≡ option_map domains (whole_bindings (map known_binding l.binders))
