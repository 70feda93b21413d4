-- The kept numbers are a witness.
use Rattle.std.proofs.Common.{subst}
use Rattle.univ_graph.specs.Kept.{IsWitness}
use Rattle.univ_graph.proofs.Wholes.{witness_kept}
use Rattle.univ_graph.proofs.graph.Graph.numbering.Goals as goal

pub returns-in-Some-clause-witness : goal.returns-in-Some-clause-witness
returns-in-Some-clause-witness c = subst IsWitness c.self.view_is (witness_kept c.self.inside.board c.self.invariant)
