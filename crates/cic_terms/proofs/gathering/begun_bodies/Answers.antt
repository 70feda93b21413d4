use Rattle.cic_terms.proofs.Gathered.{self_same}
use Rattle.cic_terms.proofs.gathering.begun_bodies.Goals as goal

pub returns-in-Some-clause-ok : goal.returns-in-Some-clause-ok
returns-in-Some-clause-ok c = rw c.in-Some.is (self_same _)
