use Rattle.std.proofs.Common.{List, [], ◌∷◌, map, refl}
use Rattle.section_uses.specs.Kept.{hypothesis}
use Rattle.section_terms.specs.Hypotheses.{ids_of, without_lets}
use Rattle.section_uses.specs.declared.hypothesis.Hypothesis.{Hypothesis as Kept}
use Rattle.section_core.proofs.Gathered.{gathered_more, gathered_all, each_variable}
use Rattle.section_core.proofs.naming.variable_ids.Goals as goal

pub loop-h-preserved : goal.loop-h-preserved
loop-h-preserved c =
    gathered_more (λ (hs : List Kept). ids_of (without_lets (map hypothesis hs))) (λ (h : Kept). ids_of (without_lets (hypothesis h ∷ []))) each_variable
    c.args.hypotheses.now c.loop-h.h-index c.h-item.result _ _ _ c.loop-h-test.true c.h-item.is c.loop-h.invariant c.in_ok-note_variable.ensures

pub returns : goal.returns
returns c =
    gathered_all (λ (hs : List Kept). ids_of (without_lets (map hypothesis hs))) c.args.hypotheses.now c.loop-h.h-index _ _ refl c.loop-h-test.false c.loop-h.invariant
