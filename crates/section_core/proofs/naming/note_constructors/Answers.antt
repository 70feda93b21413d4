use Rattle.std.proofs.Common.{List, map, refl}
use Rattle.section_terms.specs.Used.{names_in_constructors}
use Rattle.section_terms.specs.Names.{names_in}
use Rattle.cic_terms.specs.Denotes.{tree}
use Rattle.cic_env.specs.Declarations.{constructor_declaration}
use Rattle.cic_env.specs.declared.declaration.CtorDecl.{CtorDecl}
use Rattle.section_core.proofs.Gathered.{gathered_more, gathered_all}
use Rattle.section_core.proofs.naming.note_constructors.Goals as goal

pub loop-ctor-preserved : goal.loop-ctor-preserved
loop-ctor-preserved c =
    gathered_more (λ (cs : List CtorDecl). names_in_constructors (map constructor_declaration cs)) (λ (c : CtorDecl). names_in (tree c.ty)) (λ x xs. refl)
    c.args.ctors.now c.loop-ctor.ctor-index c.ctor-item.result _ _ _ c.loop-ctor-test.true c.ctor-item.is c.loop-ctor.invariant c.in_ok-note_names.ensures

pub returns : goal.returns
returns c =
    gathered_all (λ (cs : List CtorDecl). names_in_constructors (map constructor_declaration cs)) c.args.ctors.now c.loop-ctor.ctor-index _ _ refl c.loop-ctor-test.false c.loop-ctor.invariant
