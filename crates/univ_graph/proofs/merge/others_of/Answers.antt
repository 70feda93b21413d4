-- One more place is merged, or one of the others.
use Rattle.std.proofs.Common.{◌≡◌, sym, subst, length, rules, arith}
use Rattle.univ_graph.proofs.MergeLaws.{AreOthersTo, others_first, others_same, others_more, others_all}
use Rattle.univ_graph.proofs.merge.others_of.Goals as goal
use Rattle.univ_graph.proofs.merge.others_of.Goals.{then-not-contains+in_ok-insert, else-not-contains}

pub loop-i-init : goal.loop-i-init
loop-i-init c = subst (λ z. AreOthersTo c.args.reached.now c.args.merged.now z 0) (sym c.new-others.ensures) (others_first c.args.reached.now c.args.merged.now)

pub loop-i-preserved : goal.loop-i-preserved
loop-i-preserved c =
    let reached = c.args.reached.now in
    let merged = c.args.merged.now in
    let before = c.loop-i.others in
    let i = c.loop-i.i in
    let place = c.get-place.result in
    elim c.if-not-contains.branch [
      | then-not-contains+in_ok-insert w ↦
          let made = w.in_ok-insert.ensures in
          rw w.others-is
          (others_more reached merged before w.insert.new.self i place c.loop-i.invariant c.get-place.ensures (λ has. let t = c.contains.ensures.1 has in let f = w.if-not-contains.true in cc) made.front
          made.has made.only)
      | else-not-contains w ↦ rw w.others-is (others_same reached merged before i place c.loop-i.invariant c.get-place.ensures (c.contains.ensures.0 w.if-not-contains.false))
    ]

pub returns : goal.returns
returns c =
    let all : length c.args.reached.now ≡ c.len-i-end.result = search rules in
    let end = c.loop-i-test.false in
    others_all c.args.reached.now c.args.merged.now c.loop-i.others c.loop-i.i c.loop-i.invariant (omega arith)
