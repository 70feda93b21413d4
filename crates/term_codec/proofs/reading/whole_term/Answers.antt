use Rattle.std.proofs.Common.{drop, arith}
use Rattle.cic_terms.specs.Denotes.{tree}
use Rattle.term_codec.proofs.Stored.{stored_term}
use Rattle.term_codec.proofs.reading.whole_term.Goals as goal

pub returns-clause-storable : goal.returns-clause-storable
returns-clause-storable c = stored_term c.args.b.now (tree c.in_ok-term.term) (drop c.read_owned.new.place c.args.b.now) (λ i. let h = c.type_inv.b i in omega (arith, h)) c.in_ok-term.ensures.ok
