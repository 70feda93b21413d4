-- Each round follows one place more.
use Rattle.std.proofs.Common.{inl, inr, ◌≤◌, length, ap, rules, arith}
use Rattle.std.specs.Prelude.{IsTrue}
use Rattle.univ_graph.proofs.SearchLaws.{searched_first, contains_front, closed_all}
use Rattle.univ_graph.proofs.board.Board.gather.Goals as goal

pub loop-i-init : goal.loop-i-init
loop-i-init c =
    let way = c.args.way in
    let made = c.in_ok-insert.ensures in
    record {
      from = made.has;
      searched = searched_first c.args.self.now way.up way.bound c.args.barred.now c.insert.new.self c.args.from (λ p has. elim (made.only p has) [
        | inl old ↦ let lt = old.1 in let none = ap length c.new-places.ensures in absurd (omega arith)
        | inr e ↦ e
      ]) c.requires.kept c.requires.apart;
    }

pub loop-i-preserved : goal.loop-i-preserved
loop-i-preserved c =
    let made = c.in_ok-go_from.ensures in
    let on : IsTrue c.in_ok-go_from.field-0 = search rules in
    record {
      from = contains_front c.loop-i.places c.go_from.new.places c.args.from made.front c.loop-i.invariant.from;
      searched = made.searched on;
    }

pub returns : goal.returns
returns c =
    let way = c.args.way in
    let all : length c.loop-i.places ≤ c.loop-i.i = search rules in
    (c.loop-i.invariant.from, closed_all c.args.self.now way.up way.bound c.args.barred.now c.loop-i.places c.loop-i.i c.loop-i.invariant.searched all)
