-- An edge that is not strict leads anywhere.
use Rattle.std.proofs.Common.{◌≡◌, ◌∙◌, ◌<◌, ap, subst, sym, length, rules}
use Rattle.univ_graph.specs.calls.Boards.{at}
use Rattle.univ_graph.specs.calls.Joins.{IsBeyond}
use Rattle.univ_nodes.proofs.AtPlaces.{at_read, got}
use Rattle.univ_graph.proofs.SearchLaws.{far_within}
use Rattle.univ_graph.proofs.JoinLaws.{beyond_same}
use Rattle.univ_graph.proofs.board.Board.leads_beyond.Goals as goal

pub index-requires : goal.index-requires
index-requires c =
    let b = c.args.self.now in
    let edge = c.in-Some.edge.now in
    let lt : c.args.k < length b.edges.items = search rules in
    let at_k = got b.edges.items c.args.k edge lt (search rules) in
    let within = far_within b c.args.way.up c.args.k edge c.requires.sound at_k in
    let here : c.far.result < length b.numbers.items = subst (λ z. z < length b.numbers.items) (sym c.far.ensures) within in
    search rules

pub returns-then-not-edge : goal.returns-then-not-edge
returns-then-not-edge c = λ yes r is strict.
    let b = c.args.self.now in
    let edge = c.in-Some.edge.now in
    let lt : c.args.k < length b.edges.items = search rules in
    let at_k = got b.edges.items c.args.k edge lt (search rules) in
    beyond_same b.edges.items b.numbers.items c.args.way.up c.args.number c.args.k edge r at_k is (λ s. let f = c.if-not-edge.true in absurd (cc)) strict

pub returns-else-not-edge : goal.returns-else-not-edge
returns-else-not-edge c = λ yes r is strict.
    let b = c.args.self.now in
    let edge = c.in-Some.edge.now in
    let up = c.args.way.up in
    let lt : c.args.k < length b.edges.items = search rules in
    let at_k = got b.edges.items c.args.k edge lt (search rules) in
    let within = far_within b up c.args.k edge c.requires.sound at_k in
    let here : c.far.result < length b.numbers.items = subst (λ z. z < length b.numbers.items) (sym c.far.ensures) within in
    let read : c.index.result.now ≡ at b.numbers.items c.far.result = at_read b.numbers.items c.far.result c.index.result.now here c.index.ensures in
    let beyond = subst (IsBeyond up c.args.number) (read ∙ ap (at b.numbers.items) c.far.ensures) (c.is_beyond.ensures.0 yes) in
    beyond_same b.edges.items b.numbers.items up c.args.number c.args.k edge r at_k is (λ s. beyond) strict
