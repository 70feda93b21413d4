-- The lists keep what they had, and the new edge is in those of its ends.
use Rattle.std.proofs.Common.{◌≡◌, subst, length, rules, true, false}
use Rattle.std.specs.Prelude.{Contains, is_ok}
use Rattle.univ_graph.specs.calls.Boards.{edges_at}
use Rattle.univ_graph.proofs.ListedEdges.{listed_push}
use Rattle.univ_graph.proofs.board.Board.append.Goals as goal

pub returns-clause-listed : goal.returns-clause-listed
returns-clause-listed c =
    let old = c.args.self.now in
    let edge = c.args.edge in
    let place : c.len-place.result ≡ length old.edges.items = search rules in
    listed_push true (is_ok c.push.result) old.outgoing.lists.items c.put.new.self.lists.items old.edges.items c.push.new.self.items edge c.put.ensures.kept
    (subst (λ z. Contains (edges_at c.put.new.self.lists.items edge.left) z) place c.in_ok-put.ensures.has) c.push.ensures.items c.requires.listed

pub returns-clause-listed_into : goal.returns-clause-listed_into
returns-clause-listed_into c =
    let old = c.args.self.now in
    let edge = c.args.edge in
    let place : c.len-place.result ≡ length old.edges.items = search rules in
    listed_push false (is_ok c.push.result) old.incoming.lists.items c.put-2.new.self.lists.items old.edges.items c.push.new.self.items edge c.put-2.ensures.kept
    (subst (λ z. Contains (edges_at c.put-2.new.self.lists.items edge.right) z) place c.in_ok-put-2.ensures.has) c.push.ensures.items c.requires.listed_into
