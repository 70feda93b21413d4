use Rattle.std.proofs.Common.{◌≡◌, ◌++◌, drop, map}
use Rattle.cic_terms.specs.Denotes.{tree}
use Rattle.cic_rules.specs.Telescopes.{lift_domains}
use Rattle.cic_spines.specs.Several.{AllFit}
use Rattle.cic_spines.proofs.functions.lifted_domains.Given as goal

-- The domains that are made and those that are left are all, and all fit if those that are left do.
abbrev pub invariant-loop-place : goal.invariant-loop-place
invariant-loop-place l =
    let left = lift_domains l.place l.all (map tree (drop l.place l.domains)) in
    let whole = lift_domains 0 l.all (map tree l.domains) in
    record {
      made : map tree l.made.items ++ left ≡ whole;
      fit : AllFit left → AllFit whole;
      left : AllFit whole → AllFit left;
    }
