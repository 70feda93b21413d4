-- No names, the number of Set, its bands, and an empty list for it at either end.
use Rattle.std.proofs.Common.{rules}
use Rattle.univ_graph.proofs.Wholes.{whole_new, kept_new}
use Rattle.univ_graph.proofs.board.Board.new.Goals as goal

pub returns-clause-whole : goal.returns-clause-whole
returns-clause-whole c = whole_new _ (search rules) (search rules) (search rules) (search rules) (search rules) (search rules)

pub returns-clause-empty : goal.returns-clause-empty
returns-clause-empty c = kept_new c.new.result c.push.new.self.items c.new-3.result.items (search rules) (search rules)
