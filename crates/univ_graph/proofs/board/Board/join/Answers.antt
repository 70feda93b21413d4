-- What is gathered may have the number of the other end.
use Rattle.std.proofs.Common.{◌≡◌, ◌∙◌, ◌<◌, [], ap, subst, sym, length}
use Rattle.std.specs.Prelude.{Contains}
use Rattle.univ_graph.specs.calls.Boards.{at}
use Rattle.univ_graph.specs.calls.Moves.{IsClosed}
use Rattle.univ_graph.specs.calls.Joins.{bound_of, kept_end, LeadsBeyond}
use Rattle.univ_nodes.proofs.AtPlaces.{at_read, at_within}
use Rattle.univ_graph.proofs.JoinLaws.{end_positive, gathered_free}
use Rattle.univ_graph.proofs.board.Board.join.Goals as goal

pub returns : goal.returns
returns c =
    let b = c.args.self.now in
    let ns = b.numbers.items in
    let up = c.args.up in
    let kept = kept_end up c.args.left c.args.right in
    let number = c.index-number.result.now in
    let places = c.in-Gathered.places in
    let one = end_positive ns up c.args.left c.args.right c.requires.right c.requires.not_met in
    let place : c.kept_end.result ≡ kept = c.kept_end.ensures in
    let here : c.kept_end.result < length ns = subst (λ z. z < length ns) (sym place) (at_within ns kept one) in
    let read_there : number ≡ at ns c.kept_end.result = at_read ns c.kept_end.result number here c.index-number.ensures in
    let read : number ≡ at ns kept = read_there ∙ ap (at ns) place in
    let bound : c.bound_of.result ≡ bound_of up (at ns kept) = c.bound_of.ensures ∙ ap (bound_of up) read in
    let found = gathered_free b up c.moved_end-from.result c.bound_of.result c.new.result places c.in_ok-places.field-0 c.in_ok-places.ensures c.in-Gathered.is c.new.ensures in
    record {
      positive = one;
      moved_is = subst (Contains places) c.moved_end-from.ensures found.0;
      closed = subst (λ z. IsClosed b up z [] places) bound found.1;
      plain = λ k r is has. subst (λ z. LeadsBeyond ns up z r) read (c.all_lead_beyond_from.ensures c.if-not-all_lead_beyond_from.false k r is has);
    }
