use Rattle.std.proofs.Common.{sym, ap, ◌∙◌}
use Rattle.gal_scoping.specs.Matches.{first_pattern}
use Rattle.elab_matches.proofs.Reading.{first_at}
use Rattle.elab_matches.proofs.matched.first_pattern.Goals as goal

pub returns-in-Some : goal.returns-in-Some
returns-in-Some c =
    let known = c.in-Some.ensures.item in
    sym (ap first_pattern c.as_slice.ensures ∙ first_at c.as_slice.result.now c.in-Some.branch.now known.3.0 known.1)
