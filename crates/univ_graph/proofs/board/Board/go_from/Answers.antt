-- One more edge is followed.
use Rattle.std.proofs.Common.{get_or, rules, arith}
use Rattle.std.specs.Prelude.{IsTrue}
use Rattle.std.proofs.lemmas.Option.{slice_get-get_or}
use Rattle.univ_graph.proofs.SearchLaws.{following_more, following_all, front_self, front_more}
use Rattle.univ_graph.proofs.board.Board.go_from.Goals as goal

pub loop-k-init : goal.loop-k-init
loop-k-init c = record {
  following = record { searched = c.requires.searched; here = c.get-place.ensures; edges = λ m k r less. absurd (omega arith) };
  front = front_self c.args.places.now;
}

pub loop-k-preserved : goal.loop-k-preserved
loop-k-preserved c =
    let way = c.args.way in
    let list = c.args.edges.now in
    let n = c.loop-k.k-index in
    let k = get_or list n 0 in
    let at_k = slice_get-get_or list n 0 c.loop-k-test.true in
    let before = c.loop-k.places in
    let after = c.go_along_edge.new.places in
    let made = c.in_ok-go_along_edge.ensures in
    let on : IsTrue c.in_ok-go_along_edge.field-0 = search rules in
    record {
      following = following_more c.args.self.now way.up way.bound c.args.barred.now before after c.args.i c.get-place.result list n k c.loop-k.invariant.following made.searched made.front at_k
          (made.closed on);
      front = front_more c.args.places.now before after c.loop-k.invariant.front made.front;
    }

pub returns : goal.returns
returns c =
    let way = c.args.way in
    let place = c.get-place.result in
    record {
      searched = λ yes. following_all c.args.self.now way.up way.bound c.args.barred.now c.loop-k.places c.args.i place c.args.edges.now c.loop-k.k-index c.loop-k.invariant.following c.loop-k-test.false
          (λ k r at_k from. c.requires.listed place k r c.get-place.ensures at_k from);
      front = c.loop-k.invariant.front;
    }
