-- The list of the place has one more edge, or is as before.
use Rattle.std.proofs.Common.{◌≡◌}
use Rattle.std.specs.Prelude.{is_ok}
use Rattle.univ_nodes.specs.calls.Numbered.{edges_at}
use Rattle.univ_nodes.proofs.AtPlaces.{edges_at_read}
use Rattle.univ_nodes.proofs.ListLaws.{kept_put, has_put}
use Rattle.univ_nodes.proofs.lists.EdgeLists.put.Goals as goal

pub returns-in-Ok-clause-kept : goal.returns-in-Ok-clause-kept
returns-in-Ok-clause-kept c =
    let lists = c.args.self.now.lists.items in
    let list = c.index_mut.result.now in
    let read : edges_at lists c.args.place ≡ list.items = edges_at_read lists c.args.place list c.requires c.index_mut.ensures.value in
    kept_put (is_ok c.push.result) lists c.args.place c.args.edge list c.push.new.self c.requires read c.push.ensures.items

pub returns-in-Err-clause-kept : goal.returns-in-Err-clause-kept
returns-in-Err-clause-kept c =
    let lists = c.args.self.now.lists.items in
    let list = c.index_mut.result.now in
    let read : edges_at lists c.args.place ≡ list.items = edges_at_read lists c.args.place list c.requires c.index_mut.ensures.value in
    kept_put (is_ok c.push.result) lists c.args.place c.args.edge list c.push.new.self c.requires read c.push.ensures.items

pub returns-in-Ok-clause-has : goal.returns-in-Ok-clause-has
returns-in-Ok-clause-has c =
    has_put c.args.self.now.lists.items c.args.place c.args.edge c.index_mut.result.now c.push.new.self c.requires c.in-Ok.ensures.items
