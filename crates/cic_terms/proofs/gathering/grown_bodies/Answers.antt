use Rattle.std.proofs.Common.{refl}
use Rattle.cic_terms.proofs.Gathered.{body_kept}
use Rattle.cic_terms.proofs.gathering.grown_bodies.Goals as goal

pub returns-clause-ok : goal.returns-clause-ok
returns-clause-ok c =
    body_kept _ _ _ _ c.in_ok-body.body _ c.in_ok-items.ensures.ok c.in_ok-keep.ensures.ok refl c.in_ok-body.ensures.ok
