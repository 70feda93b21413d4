-- One more edge is followed.
use Rattle.std.proofs.Common.{get_or, rules, arith}
use Rattle.std.specs.Prelude.{IsTrue}
use Rattle.std.proofs.lemmas.Option.{slice_get-get_or}
use Rattle.univ_graph.proofs.SearchLaws.{front_self, front_more}
use Rattle.univ_graph.proofs.MergeLaws.{back_more, back_all}
use Rattle.univ_graph.proofs.board.Board.merge_from.Goals as goal

pub loop-k-init : goal.loop-k-init
loop-k-init c = record {
  following = record { merging = c.requires.merging; here = c.get-place.ensures; edges = λ m k r less. absurd (omega arith) };
  front = front_self c.args.merged.now;
}

pub loop-k-preserved : goal.loop-k-preserved
loop-k-preserved c =
    let list = c.args.edges.now in
    let n = c.loop-k.k-index in
    let k = get_or list n 0 in
    let at_k = slice_get-get_or list n 0 c.loop-k-test.true in
    let before = c.loop-k.merged in
    let after = c.merge_along_edge.new.merged in
    let made = c.in_ok-merge_along_edge.ensures in
    let on : IsTrue c.in_ok-merge_along_edge.field-0 = search rules in
    record {
      following = back_more c.args.self.now c.args.reached.now before after c.args.i c.get-place.result list n k c.loop-k.invariant.following made.merging made.front at_k (made.along on);
      front = front_more c.args.merged.now before after c.loop-k.invariant.front made.front;
    }

pub returns : goal.returns
returns c =
    let place = c.get-place.result in
    record {
      merging = λ yes. back_all c.args.self.now c.args.reached.now c.loop-k.merged c.args.i place c.args.edges.now c.loop-k.k-index c.loop-k.invariant.following c.loop-k-test.false
          (λ k r at_k to. c.requires.listed place k r c.get-place.ensures at_k to);
      front = c.loop-k.invariant.front;
    }
