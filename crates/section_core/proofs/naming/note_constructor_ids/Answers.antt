use Rattle.std.proofs.Common.{List, [], ◌∷◌, map, refl}
use Rattle.cic_rules.specs.Environment.{constructor_ids}
use Rattle.cic_env.specs.Declarations.{constructor_declaration}
use Rattle.cic_env.specs.declared.declaration.CtorDecl.{CtorDecl}
use Rattle.section_core.proofs.Gathered.{gathered_more, gathered_all}
use Rattle.section_core.proofs.naming.note_constructor_ids.Goals as goal

pub loop-ctor-preserved : goal.loop-ctor-preserved
loop-ctor-preserved c =
    gathered_more (λ (cs : List CtorDecl). constructor_ids (map constructor_declaration cs)) (λ (c : CtorDecl). c.id ∷ []) (λ x xs. refl)
    c.args.ctors.now c.loop-ctor.ctor-index c.ctor-item.result _ _ _ c.loop-ctor-test.true c.ctor-item.is c.loop-ctor.invariant c.in_ok-note_id.ensures

pub returns : goal.returns
returns c =
    gathered_all (λ (cs : List CtorDecl). constructor_ids (map constructor_declaration cs)) c.args.ctors.now c.loop-ctor.ctor-index _ _ refl c.loop-ctor-test.false c.loop-ctor.invariant
