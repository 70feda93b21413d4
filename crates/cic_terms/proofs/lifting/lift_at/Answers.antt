use Rattle.std.proofs.Common.{subst}
use Rattle.cic_terms.specs.Denotes.{tree}
use Rattle.cic_terms.specs.calls.Answer.{Changes}
use Rattle.cic_terms.proofs.Walked.{lifted}
use Rattle.cic_terms.proofs.lifting.lift_at.Goals as goal

pub returns : goal.returns
returns c =
    let walked = rw c.from.ensures at c.walk_at.ensures in
    subst (λ want. Changes c.args.room (tree c.args.t.now) want c.walk_at.result) (lifted c.args.from c.args.by (tree c.args.t.now)) walked
