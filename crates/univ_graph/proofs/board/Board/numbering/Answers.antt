-- One more level with its number.
use Rattle.std.proofs.Common.{◌≡◌, ◌∙◌, ◌<◌, ◌+◌, ◌++◌, ◌∷◌, [], suc, drop, sym, subst, ap, length, arith, rules}
use Rattle.std.specs.Prelude.{slice_get, Some}
use Rattle.cic_names.proofs.Clones.{level_name_clone_is}
use Rattle.univ_cycles.specs.declared.numbers.LevelNumber.{LevelNumber}
use Rattle.univ_cycles.specs.Numbers.{numbering}
use Rattle.univ_cycles.specs.calls.Places.{paired, rest}
use Rattle.univ_nodes.proofs.AtPlaces.{got}
use Rattle.univ_graph.proofs.LevelLists.{told_more}
use Rattle.univ_graph.proofs.board.Board.numbering.Goals as goal

pub loop-i-preserved : goal.loop-i-preserved
loop-i-preserved c =
    let names = c.args.self.now.names in
    let ns = c.args.self.now.numbers.items in
    let i = c.loop-i.i in
    let same : c.names-names.result.now ≡ names = c.names-names.ensures in
    let name : slice_get names i ≡ Some c.index-names-i.result =
    subst (λ z. slice_get z i ≡ Some c.index-names-i.result) same (got c.names-names.result.now i c.index-names-i.result c.loop-i-test.true c.index-names-i.is) in
    let own : slice_get names i ≡ Some c.in_ok-level.level = name ∙ ap Some (sym (level_name_clone_is c.index-names-i.result c.in_ok-level.level c.in_ok-level.ensures.cases)) in
    let lt : i + 1 < length ns = let e = c.requires in let l = ap length same in let t = c.loop-i-test.true in omega arith in
    let next : i + 1 ≡ suc i = omega arith in
    let number : slice_get ns (suc i) ≡ Some c.index-number.result.now = subst (λ z. slice_get ns z ≡ Some c.index-number.result.now) next (got ns (i + 1) c.index-number.result.now lt c.index-number.ensures) in
    let x : LevelNumber = record { level = c.in_ok-level.level; number = c.index-number.result.now } in
    let more : c.push.new.self.items ≡ c.loop-i.told.items ++ x ∷ [] = search rules in
    subst (λ z. paired names (rest ns) ≡ numbering z ++ paired (drop (i + 1) names) (drop (i + 1) (rest ns))) (sym more)
    (told_more names ns c.loop-i.told.items i c.in_ok-level.level c.index-number.result.now own number c.loop-i.invariant)
