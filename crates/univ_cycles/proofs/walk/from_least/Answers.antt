-- The place is that of the least level.
use Rattle.std.proofs.Common.{◌≡◌, ◌<◌, ◌++◌, List, length, take, drop, slice_index_or, subst}
use Rattle.cic_rules.specs.Numbering.{NoneBelow}
use Rattle.univ_cycles.specs.declared.cycle.Tagged.{Tagged}
use Rattle.univ_cycles.specs.Numbers.{constraints}
use Rattle.univ_cycles.proofs.walk.from_least.Goals as goal

pub returns-in-Ok-append : goal.returns-in-Ok-append
returns-in-Ok-append c =
    let k = c.least_place-place.result in
    let xs = c.args.steps.items in
    let v : c.as_slice.result.now ≡ xs = c.as_slice.ensures.value in
    let turned : c.append.new.self.items ≡ drop k xs ++ take k xs = cc (c.in-Ok-append.ensures.items, c.in-Ok.ensures.tail, c.in-Ok.ensures.items) in (
      k,
      subst (λ (z : List Tagged). k < length z) v c.least_place-place.ensures.within,
      turned,
      λ t. subst (λ (z : List Tagged). NoneBelow (slice_index_or z k t).constraint.left (constraints z)) v (c.least_place-place.ensures.least t),
    )
