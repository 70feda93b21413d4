-- A place past the end has no edges.
use Rattle.std.proofs.Common.{◌∙◌, ◌≤◌, ◌<◌, length, sym, rules}
use Rattle.univ_nodes.proofs.AtPlaces.{edges_at_read}
use Rattle.univ_graph.proofs.SearchLaws.{edges_at_past}
use Rattle.univ_graph.proofs.search.edges_at.Goals as goal

pub returns-in-Some : goal.returns-in-Some
returns-in-Some c =
    let lists = c.args.lists.now.lists.items in
    let lt : c.args.place < length lists = search rules in
    c.as_slice.ensures.value ∙ sym (edges_at_read lists c.args.place c.in-Some.edges.now lt (search rules))

pub returns-in-None : goal.returns-in-None
returns-in-None c =
    let lists = c.args.lists.now.lists.items in
    let past : length lists ≤ c.args.place = search rules in
    sym (edges_at_past lists c.args.place past)
