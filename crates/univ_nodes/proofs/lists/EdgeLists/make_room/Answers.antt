-- One more list, or none.
use Rattle.std.specs.Prelude.{is_ok}
use Rattle.univ_nodes.proofs.ListLaws.{kept_room}
use Rattle.univ_nodes.proofs.lists.EdgeLists.make_room.Goals as goal

pub returns-clause-kept : goal.returns-clause-kept
returns-clause-kept c = kept_room (is_ok c.push.result) c.args.self.now.lists.items _ _ c.push.ensures.items
