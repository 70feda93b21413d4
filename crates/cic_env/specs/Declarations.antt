-- What a declaration of the program stands for.
use Rattle.std.specs.Prelude.{map, Option, Some, None}
use Rattle.std.specs.Option.{option_map}
use Rattle.cic_terms.specs.Denotes.{tree}
use Rattle.cic_rules.specs.Environment as rules
use Rattle.cic_rules.specs.Environment.{Declaration, axiom_of, transparent, opaque, inductive, Meaning, constant}
use Rattle.cic_env.specs.declared.declaration.CtorDecl.{CtorDecl}
use Rattle.cic_env.specs.declared.declaration.IndType.{IndType}
use Rattle.cic_env.specs.declared.declaration.Block.{Block}
use Rattle.cic_env.specs.declared.declaration.Decl.{Decl}
use Rattle.cic_env.specs.declared.declaration.Decl.TheVariants.{Axiom, Transparent, Opaque, Inductive}

-- A constructor, a type with its constructors, and a block of types.
abbrev pub constructor_declaration : CtorDecl → rules.ConstructorDeclaration
constructor_declaration c = record { id = c.id; type = tree c.ty }

abbrev pub type_declaration : IndType → rules.TypeDeclaration
type_declaration t = record { id = t.id; arity = tree t.arity; constructors = map constructor_declaration t.ctors.items }

abbrev pub block : Block → rules.Block
block b = record { parameters = b.params; types = map type_declaration b.types.items }

abbrev pub declaration : Decl → Declaration
declaration (Axiom id ty) = axiom_of id (tree ty)
declaration (Transparent id ty body) = transparent id (tree ty) (tree body)
declaration (Opaque id ty body) = opaque id (tree ty) (option_map tree body)
declaration (Inductive b) = inductive (block b)

-- What the id of a constant stands for. A block declares no constant.
abbrev pub constant_meaning : Decl → Option Meaning
constant_meaning (Axiom id ty) = Some (constant (tree ty) None)
constant_meaning (Transparent id ty body) = Some (constant (tree ty) (Some (tree body)))
constant_meaning (Opaque id ty body) = Some (constant (tree ty) None)
constant_meaning (Inductive b) = None

-- It declares a constant.
abbrev pub IsOfConstant : Decl → Type 0
IsOfConstant (Inductive b) = ⊥
IsOfConstant decl = Unit {0}

-- The declaration with no opaque body.
abbrev pub without_body : Declaration → Declaration
without_body (opaque id type body) = opaque id type None
without_body d = d
