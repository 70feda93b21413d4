use Rattle.std.proofs.Common.{◌-◌, ◌<◌, ◌+◌, sym, ap, ◌∙◌, map, take, length, get_or, arith}
use Rattle.std.specs.Prelude.{Option}
use Rattle.std.proofs.lemmas.List.{get_or-map, length-map}
use Rattle.cic_terms.specs.Tree.{Tree}
use Rattle.elab_parts.specs.calls.Parts.{pair_tree}
use Rattle.elab_parts.specs.calls.Bindings.{known_binding, over_all}
use Rattle.elab_parts.proofs.Groups.{over_more}
use Rattle.elab_parts.proofs.telescopes.over.Goals as goal

pub loop-place-preserved : goal.loop-place-preserved
loop-place-preserved c =
    let ts = c.args.telescope.now in
    let place = c.loop-place.place in
    let make = pair_tree c.args.kind in
    let within : length ts - 1 - place < length ts = omega (arith, c.loop-place-test.true) in
    let b = get_or ts (length ts - 1 - place) c.index-telescope-count.result in
    let is = sym (get_or-map known_binding ts (length ts - 1 - place) c.index-telescope-count.result (known_binding b) within) in
    ap (λ (t : Option Tree). over_all make (take (length ts - (place + 1)) (map known_binding ts)) t) c.in_ok-made.ensures
    ∙ sym (over_more make (map known_binding ts) (known_binding b) (length ts) place _ (sym (length-map ts known_binding)) c.loop-place-test.true is)
    ∙ c.loop-place.invariant
