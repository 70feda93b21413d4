use Rattle.std.proofs.Common.{List, [], ◌∷◌, map, refl}
use Rattle.cic_env.specs.Declarations.{declaration}
use Rattle.section_core.specs.Answers.{declarations_of}
use Rattle.section_core.specs.calls.Stored.{kept_entry}
use Rattle.section_core.specs.declared.entry.Kept.{Kept}
use Rattle.section_core.proofs.Gathered.{gathered_more, gathered_all}
use Rattle.section_core.proofs.state.declarations.Goals as goal

pub loop-kept-preserved : goal.loop-kept-preserved
loop-kept-preserved c =
    gathered_more (λ (ks : List Kept). declarations_of (map kept_entry ks)) (λ (k : Kept). declaration k.decl ∷ []) (λ x xs. refl)
    c.args.all.now c.loop-kept.kept-index c.kept-item.result _ _ _ c.loop-kept-test.true c.kept-item.is c.loop-kept.invariant c.in_ok-put_copy.ensures

pub returns : goal.returns
returns c =
    gathered_all (λ (ks : List Kept). declarations_of (map kept_entry ks)) c.args.all.now c.loop-kept.kept-index _ _ refl c.loop-kept-test.false c.loop-kept.invariant
