use Rattle.std.proofs.Common.{subst}
use Rattle.cic_terms.specs.Denotes.{tree}
use Rattle.cic_terms.specs.calls.Answer.{Changes}
use Rattle.cic_terms.proofs.Walked.{substituted}
use Rattle.cic_terms.proofs.substituting.subst_at.Goals as goal

pub returns : goal.returns
returns c =
    let walked = rw c.from.ensures at c.walk_at.ensures in
    subst (λ want. Changes 4000 (tree c.args.t.now) want c.walk_at.result) (substituted c.args.at (tree c.args.with.now.value) (tree c.args.t.now)) walked
