use Rattle.std.proofs.Common.{List, [], ◌∷◌, map, refl}
use Rattle.section_uses.specs.Kept.{hypothesis}
use Rattle.section_uses.specs.declared.hypothesis.Hypothesis.{Hypothesis as Kept}
use Rattle.section_core.proofs.Gathered.{gathered_more, gathered_all}
use Rattle.section_core.proofs.uses.copied.Goals as goal

pub loop-h-preserved : goal.loop-h-preserved
loop-h-preserved c =
    gathered_more (λ (hs : List Kept). map hypothesis hs) (λ (h : Kept). hypothesis h ∷ []) (λ x xs. refl)
    c.args.hypotheses.now c.loop-h.h-index c.h-item.result _ _ _ c.loop-h-test.true c.h-item.is c.loop-h.invariant c.in_ok-keep.ensures

pub returns : goal.returns
returns c =
    gathered_all (λ (hs : List Kept). map hypothesis hs) c.args.hypotheses.now c.loop-h.h-index _ _ refl c.loop-h-test.false c.loop-h.invariant
