-- One more edge is followed.
use Rattle.std.proofs.Common.{◌≡◌, ◌∙◌, ◌<◌, ◌≤◌, sym, subst, ap, length, get_or, rules, arith}
use Rattle.std.specs.Prelude.{slice_get, Some}
use Rattle.std.proofs.lemmas.Option.{slice_get_within, slice_get-get_or}
use Rattle.univ_graph.specs.calls.Boards.{edges_at}
use Rattle.univ_nodes.proofs.AtPlaces.{got, same_some, edges_at_read, at_within}
use Rattle.univ_graph.proofs.Spreading.{followed_more, followed_all}
use Rattle.univ_graph.proofs.board.Board.follow.Goals as goal

pub index-requires-2 : goal.index-requires-2
index-requires-2 c =
    let step = c.index.result.now in
    let here = got c.args.spread.now.steps.items c.args.i step c.requires.within c.index.ensures in
    let w = at_within c.args.self.now.numbers.items step.place (c.requires.spread.above c.args.i step here) in
    let r = c.requires.sound.roomy in
    let lt : step.place < length c.args.self.now.outgoing.lists.items = omega arith in
    search rules

pub loop-k-init : goal.loop-k-init
loop-k-init c =
    let step = c.index.result.now in
    let here = got c.args.spread.now.steps.items c.args.i step c.requires.within c.index.ensures in
    (step, here, record { spread = c.requires.spread; here = here; edges = λ m k r less. absurd (omega arith) })

pub follow_edge-requires-clause-within : goal.follow_edge-requires-clause-within
follow_edge-requires-clause-within c = slice_get_within c.loop-k.spread.steps.items c.args.i c.loop-k.invariant.0 c.loop-k.invariant.2.here

pub loop-k-preserved : goal.loop-k-preserved
loop-k-preserved c =
    let step = c.index.result.now in
    let b = c.args.self.now in
    let list = c.deref-k-items.result.now in
    let n = c.loop-k.k-index in
    let k = get_or list n 0 in
    let here = got c.args.spread.now.steps.items c.args.i step c.requires.within c.index.ensures in
    let w = at_within b.numbers.items step.place (c.requires.spread.above c.args.i step here) in
    let r = c.requires.sound.roomy in
    let lt : step.place < length b.outgoing.lists.items = omega arith in
    let are : edges_at b.outgoing.lists.items step.place ≡ list = edges_at_read b.outgoing.lists.items step.place c.index-2.result.now lt c.index-2.ensures ∙ sym c.deref-k-items.ensures.value in
    let s = c.loop-k.invariant.0 in
    let same : step ≡ s = same_some step s (sym here ∙ c.loop-k.invariant.1) in
    let at_k : slice_get (edges_at b.outgoing.lists.items s.place) n ≡ Some k =
    ap (λ z. slice_get (edges_at b.outgoing.lists.items z.place) n) (sym same) ∙ ap (λ z. slice_get z n) are ∙ slice_get-get_or list n 0 c.loop-k-test.true in (
      s,
      c.loop-k.invariant.1,
      followed_more b c.args.from c.args.strict c.args.i c.loop-k.spread.marks.items c.follow_edge.new.spread.marks.items c.loop-k.spread.steps.items c.follow_edge.new.spread.steps.items s n k
          c.loop-k.invariant.2 c.in_ok-follow_edge.ensures.spread c.in_ok-follow_edge.ensures.more c.in_ok-follow_edge.ensures.front at_k c.in_ok-follow_edge.ensures.closed,
    )

pub returns : goal.returns
returns c =
    let step = c.index.result.now in
    let b = c.args.self.now in
    let list = c.deref-k-items.result.now in
    let n = c.loop-k.k-index in
    let here = got c.args.spread.now.steps.items c.args.i step c.requires.within c.index.ensures in
    let w = at_within b.numbers.items step.place (c.requires.spread.above c.args.i step here) in
    let r = c.requires.sound.roomy in
    let lt : step.place < length b.outgoing.lists.items = omega arith in
    let are : edges_at b.outgoing.lists.items step.place ≡ list = edges_at_read b.outgoing.lists.items step.place c.index-2.result.now lt c.index-2.ensures ∙ sym c.deref-k-items.ensures.value in
    let s = c.loop-k.invariant.0 in
    let same : step ≡ s = same_some step s (sym here ∙ c.loop-k.invariant.1) in
    let all : length (edges_at b.outgoing.lists.items s.place) ≤ n =
    subst (λ z. length (edges_at b.outgoing.lists.items z.place) ≤ n) same (subst (λ z. length z ≤ n) (sym are) c.loop-k-test.false) in
    record { spread = followed_all b c.args.from c.args.strict c.args.i c.loop-k.spread.marks.items c.loop-k.spread.steps.items s n c.requires.sound c.loop-k.invariant.2 all }
