-- Each end that has no place is one more level, and one end is not counted twice.
use Rattle.std.proofs.Common.{◌≡◌, ◌+◌, ◌∙◌, sym, true≢false, inl, inr, subst, ap, length, arith}
use Rattle.cic_names.proofs.Equality.{level_equal_decides}
use Rattle.univ_cycles.specs.calls.Places.{count_one}
use Rattle.univ_graph.proofs.LevelLists.{counted, IsPlaceIn}
use Rattle.univ_graph.proofs.board.Board.levels_with.Goals as goal

pub returns-then-eq : goal.returns-then-eq
returns-then-eq c =
    let names = c.args.self.now.names in
    let k = c.args.constraint.now in
    let e : k.left ≡ k.right = (level_equal_decides k.left k.right).0 (sym c.eq.ensures ∙ c.if-eq.true) in
    let n = counted names k c.place_of.result c.place_of.result c.place_of.ensures (subst (λ z. IsPlaceIn names z c.place_of.result) e c.place_of.ensures) (inr e) in
    let known = ap length c.names.ensures in
    let left : c.count_one-left.result ≡ count_one c.place_of.result = c.count_one-left.ensures.value in
    let total = n.1 in
    let part : n.0 ≡ count_one c.place_of.result = n.3 e in
    omega arith

pub returns : goal.returns
returns c =
    let names = c.args.self.now.names in
    let k = c.args.constraint.now in
    let ne : k.left ≡ k.right → ⊥ = λ e. true≢false (sym ((level_equal_decides k.left k.right).1 e) ∙ sym c.eq.ensures ∙ c.if-eq.false) in
    let n = counted names k c.place_of.result c.place_of-2.result c.place_of.ensures c.place_of-2.ensures (inl ne) in
    let known = ap length c.names.ensures in
    let left : c.count_one-left.result ≡ count_one c.place_of.result = c.count_one-left.ensures.value in
    let right : c.count_one.result ≡ count_one c.place_of-2.result = c.count_one.ensures.value in
    let total = n.1 in
    let part : n.0 ≡ count_one c.place_of.result + count_one c.place_of-2.result = n.2 ne in
    omega arith
