-- Each number gets its rank in the sorted list.
use Rattle.std.proofs.Common.{◌≡◌, ◌≤◌, ◌+◌, ◌++◌, ◌∷◌, [], refl, sym, subst, length, get_or, ltb, rules}
use Rattle.std.specs.Prelude.{Contains}
use Rattle.std.proofs.lemmas.List.Sorted.{Contains-permutation, IsPartitionPoint-from_clause, IsPartitionedBy-ltb, IsNonDecreasingBy-from_sort}
use Rattle.univ_nodes.proofs.RankLaws.{AreRanks, IsRank, ranks_bounded, ranks_in_order, ranks_more, rank_of_point}
use Rattle.std.specs.List.Sorted.{IsNonDecreasingBy}
use Rattle.univ_nodes.proofs.raising.ranks.Goals as goal

pub returns : goal.returns
returns c =
    let numbers = c.args.numbers.now in
    let sorted = c.sort.new.self.items in
    let copied : c.in-Ok.sorted.items ≡ numbers = c.in-Ok.ensures.items in
    let lengths : length sorted ≡ length numbers = search rules in
    record {
      order = ranks_in_order numbers sorted c.loop-n.ranks.items c.loop-n.n-index c.loop-n-test.false c.loop-n.auto.n-index-end lengths c.requires
          (λ x has. Contains-permutation c.in-Ok.sorted.items sorted x c.sort.ensures.permutation (subst (λ z. Contains z x) (sym copied) has))
          c.loop-n.invariant;
      bounded = ranks_bounded numbers sorted c.loop-n.ranks.items c.loop-n.n-index lengths c.loop-n.invariant;
    }

pub loop-n-preserved : goal.loop-n-preserved
loop-n-preserved c =
    let numbers = c.args.numbers.now in
    let sorted = c.sort.new.self.items in
    let n = get_or numbers c.loop-n.n-index 0 in
    let rank = c.partition_point-rank.result in
    let same : c.as_slice.result.now ≡ sorted = c.as_slice.ensures.value in
    let up = IsNonDecreasingBy-from_sort (λ k. k) sorted (search rules) in
    let parted = IsPartitionedBy-ltb (λ k. k) c.as_slice.result.now n (subst (λ z. IsNonDecreasingBy (λ k. k) z) (sym same) up) in
    let point = IsPartitionPoint-from_clause (λ k. ltb k n) c.as_slice.result.now rank c.partition_point-rank.ensures.partitioned parted (λ a r q k. search rules) in
    let le : rank ≤ length c.as_slice.result.now = c.partition_point-rank.ensures.bound in
    let is_rank = rank_of_point c.as_slice.result.now n rank le point.0 point.1 in
    let more : c.push.new.self.items ≡ c.loop-n.ranks.items ++ rank ∷ [] = search rules in
    subst (λ z. AreRanks numbers sorted z (c.loop-n.n-index + 1)) (sym more)
    (ranks_more numbers sorted c.loop-n.ranks.items c.loop-n.n-index n rank c.loop-n.invariant refl (subst (λ z. IsRank z n rank) same is_rank))
