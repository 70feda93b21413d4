use Rattle.std.proofs.Common.{◌++◌, reverse, sym, ap, ◌∙◌}
use Rattle.cic_spines.specs.Lists.{shared_trees}
use Rattle.cic_spines.proofs.Rows.{reversed, no_arguments}
use Rattle.cic_spines.proofs.applications.arguments.Goals as goal

pub returns : goal.returns
returns c =
    let found = c.loop-at.found.items in
    ap shared_trees c.reverse.ensures.items ∙ reversed found
    ∙ sym (ap (λ l. l ++ reverse (shared_trees found)) (no_arguments c.loop-at.at.now c.in_default.not-App))
    ∙ c.loop-at.invariant
