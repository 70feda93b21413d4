-- The number of one more place, and at the end the ranks of all.
use Rattle.std.proofs.Common.{◌≡◌, ◌≤◌, ◌+◌, ◌++◌, ◌∷◌, [], ℕ, length, sym, subst, rules, arith}
use Rattle.std.specs.Prelude.{Result, Ok, Err, IfOk}
use Rattle.univ_graph.specs.calls.Boards.{at, AreInOrder}
use Rattle.univ_graph.specs.calls.Moves.{AreRanked}
use Rattle.univ_nodes.proofs.AtPlaces.{at_read}
use Rattle.univ_graph.proofs.Shifting.{AreNumbersAt, has_index, numbers_more, ranked_of}
use Rattle.univ_graph.proofs.board.Board.ranks_at.Goals as goal

pub index-requires : goal.index-requires
index-requires c =
    let within = c.requires.within c.get.result (has_index c.args.places.now c.loop-i.i c.get.result c.get.ensures) in
    search rules

pub loop-i-preserved : goal.loop-i-preserved
loop-i-preserved c =
    let numbers = c.args.self.now.numbers.items in
    let p = c.get.result in
    let n = c.index.result.now in
    let within = c.requires.within p (has_index c.args.places.now c.loop-i.i p c.get.ensures) in
    let more : c.push.new.self.items ≡ c.loop-i.numbers.items ++ n ∷ [] = search rules in
    subst (λ z. AreNumbersAt numbers c.args.places.now z (c.loop-i.i + 1)) (sym more)
    (numbers_more numbers c.args.places.now c.loop-i.numbers.items c.loop-i.i p n c.loop-i.invariant c.get.ensures (at_read numbers p n within c.index.ensures))

if_ok_both : {A E : Type 0} (P Q R : A → Type 0) (r : Result A E) → ((x : A) → P x → Q x → R x) → IfOk r P → IfOk r Q → IfOk r R
if_ok_both P Q R (Ok x) f h k = f x h k
if_ok_both P Q R (Err e) f h k = h

pub returns : goal.returns
returns c =
    let numbers = c.args.self.now.numbers.items in
    let places = c.args.places.now in
    let ns = c.loop-i.numbers.items in
    let all : length places ≡ c.len-i-end.result = search rules in
    let end = c.loop-i-test.false in
    let last = c.loop-i.auto.i-end in
    let same : c.as_slice.result.now ≡ ns = c.as_slice.ensures.value in
    if_ok_both (λ v. AreInOrder c.as_slice.result.now v.items) (λ v. (p : ℕ) → at v.items p ≤ length c.as_slice.result.now) (λ v. AreRanked numbers places v.items) c.ranks.result
    (λ v order bounded. ranked_of numbers places ns v.items c.loop-i.i c.loop-i.invariant (omega arith) (subst (λ z. AreInOrder z v.items) same order)
    (subst (λ z. (p : ℕ) → at v.items p ≤ length z) same bounded))
    c.ranks.ensures.order c.ranks.ensures.bounded
