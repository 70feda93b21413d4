-- Parts of declarations that are made.
use Rattle.std.specs.Prelude.{ℕ, ◌≤◌, Option, List, map, Vec, Result}
use Rattle.std.specs.Option.{option_map}
use Rattle.std.specs.declared.alloc.Global.{Global}
use Rattle.cic_env.specs.Declarations.{constructor_declaration, type_declaration, block}
use Rattle.cic_env.specs.declared.declaration.CtorDecl.{CtorDecl}
use Rattle.cic_env.specs.declared.declaration.IndType.{IndType}
use Rattle.cic_env.specs.declared.declaration.Block.{Block}
use Rattle.cic_rules.specs.Environment as rules
use Rattle.cic_terms.specs.Tree.{Tree}
use Rattle.cic_terms.specs.Denotes.{tree}
use Rattle.cic_terms.specs.Sizes.{Fits}
use Rattle.cic_terms.specs.declared.term.Term.{Term}
use Rattle.cic_terms.specs.declared.term.TermFault.{TermFault}
use Rattle.section_terms.specs.Discharge.{BodyFits, ConstructorsFit, TypesFit}
use Rattle.section_discharge.specs.Makes.{MakesWithin}

abbrev pub MakesOptional : Option Tree → Result (Option Term) TermFault → Type 0
MakesOptional = MakesWithin (option_map tree) BodyFits

abbrev pub ConstructorFits : rules.ConstructorDeclaration → Type 0
ConstructorFits c = Fits 4000 c.type

abbrev pub MakesConstructor : rules.ConstructorDeclaration → Result CtorDecl TermFault → Type 0
MakesConstructor = MakesWithin constructor_declaration ConstructorFits

abbrev pub MakesConstructors : List rules.ConstructorDeclaration → Result (Vec CtorDecl Global) TermFault → Type 0
MakesConstructors = MakesWithin (λ cs. map constructor_declaration cs.items) ConstructorsFit

abbrev pub TypeFits : rules.TypeDeclaration → Type 0
TypeFits t = Fits 4000 t.arity × ConstructorsFit t.constructors

abbrev pub MakesType : rules.TypeDeclaration → Result IndType TermFault → Type 0
MakesType = MakesWithin type_declaration TypeFits

abbrev pub MakesTypes : List rules.TypeDeclaration → Result (Vec IndType Global) TermFault → Type 0
MakesTypes = MakesWithin (λ ts. map type_declaration ts.items) TypesFit

abbrev pub MakesCount : ℕ → Result ℕ TermFault → Type 0
MakesCount = MakesWithin (λ n. n) (λ n. n ≤ 4294967295)

abbrev pub BlockFits : rules.Block → Type 0
BlockFits b = (b.parameters ≤ 4294967295) × TypesFit b.types

abbrev pub MakesBlock : rules.Block → Result Block TermFault → Type 0
MakesBlock = MakesWithin block BlockFits
