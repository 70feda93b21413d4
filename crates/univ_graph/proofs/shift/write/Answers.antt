-- One more place gets its number.
use Rattle.std.proofs.Common.{◌≡◌, ◌<◌, length, refl, rules, arith}
use Rattle.univ_graph.proofs.Shifting.{has_index, written_more, written_all}
use Rattle.univ_graph.proofs.shift.write.Goals as goal

pub index_mut-requires : goal.index_mut-requires
index_mut-requires c =
    let within = c.requires.within c.get.result (has_index c.args.places.now c.loop-i.i c.get.result c.get.ensures) in
    let same = c.loop-i.invariant.lengths in
    let lt : c.get.result < length c.loop-i.numbers.items = omega arith in
    search rules

pub loop-i-preserved : goal.loop-i-preserved
loop-i-preserved c =
    let within = c.requires.within c.get.result (has_index c.args.places.now c.loop-i.i c.get.result c.get.ensures) in
    let same = c.loop-i.invariant.lengths in
    written_more c.args.numbers.now.items c.loop-i.numbers.items c.args.places.now c.args.ranks.now c.args.base c.loop-i.i c.get.result _ c.loop-i.invariant c.len-i-end.ensures.apart c.get.ensures
    (omega arith) refl

pub returns : goal.returns
returns c =
    let all : length c.args.places.now ≡ c.len-i-end.result = search rules in
    let end = c.loop-i-test.false in
    written_all c.args.numbers.now.items c.loop-i.numbers.items c.args.places.now c.args.ranks.now c.args.base c.loop-i.i c.loop-i.invariant (omega arith)
