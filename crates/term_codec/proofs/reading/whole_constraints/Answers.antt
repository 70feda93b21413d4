use Rattle.std.proofs.Common.{drop, arith}
use Rattle.term_codec.proofs.Stored.{stored_constraints}
use Rattle.term_codec.proofs.reading.whole_constraints.Goals as goal

pub returns-clause-storable : goal.returns-clause-storable
returns-clause-storable c = stored_constraints c.args.b.now c.in_ok-all.all (drop c.read_constraints.new.place c.args.b.now) (λ i. let h = c.type_inv.b i in omega (arith, h)) c.in_ok-all.ensures.ok
