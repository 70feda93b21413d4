-- Each round follows one place more.
use Rattle.std.proofs.Common.{inl, inr, ◌≤◌, length, ap, rules, arith}
use Rattle.std.specs.Prelude.{IsTrue}
use Rattle.univ_graph.proofs.SearchLaws.{contains_front}
use Rattle.univ_graph.proofs.MergeLaws.{merging_first, merged_all}
use Rattle.univ_graph.proofs.board.Board.merged_with.Goals as goal

pub loop-i-init : goal.loop-i-init
loop-i-init c =
    let made = c.in_ok-insert.ensures in
    record {
      left = made.has;
      merging = merging_first c.args.self.now c.args.reached.now c.insert.new.self c.args.left (λ p has. elim (made.only p has) [
        | inl old ↦ let lt = old.1 in let none = ap length c.new-merged.ensures in absurd (omega arith)
        | inr e ↦ e
      ]) c.requires.left;
    }

pub loop-i-preserved : goal.loop-i-preserved
loop-i-preserved c =
    let made = c.in_ok-merge_from.ensures in
    let on : IsTrue c.in_ok-merge_from.field-0 = search rules in
    record {
      left = contains_front c.loop-i.merged c.merge_from.new.merged c.args.left made.front c.loop-i.invariant.left;
      merging = made.merging on;
    }

pub returns : goal.returns
returns c =
    let all : length c.loop-i.merged ≤ c.loop-i.i = search rules in
    record {
      has = c.loop-i.invariant.left;
      merged = merged_all c.args.self.now c.args.reached.now c.loop-i.merged c.loop-i.i c.loop-i.invariant.merging all;
    }
