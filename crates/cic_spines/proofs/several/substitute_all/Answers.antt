use Rattle.std.proofs.Common.{subst}
use Rattle.cic_terms.specs.calls.Answer.{MakesShared}
use Rattle.cic_spines.specs.Lists.{shared_tree, shared_trees}
use Rattle.cic_spines.proofs.Together.{put_in_at_once}
use Rattle.cic_spines.proofs.several.substitute_all.Goals as goal

pub returns : goal.returns
returns c =
    subst (λ want. MakesShared 4000 want c.walk_shared.result) (put_in_at_once (shared_trees c.args.terms.now) (shared_tree c.args.t.now)) c.walk_shared.ensures
