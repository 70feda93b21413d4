-- The keys of a set are distinct.
use Rattle.std.proofs.Common.{subst}
use Rattle.univ_nodes.specs.calls.PlaceSets.{AreApart}
use Rattle.univ_nodes.proofs.PlaceSets.{apart_of}
use Rattle.univ_nodes.proofs.place_set.Places.len.Goals as goal

pub returns-clause-apart : goal.returns-clause-apart
returns-clause-apart c = subst AreApart c.self.view_is (apart_of c.self.inside.set.keys c.len.ensures.unique)
