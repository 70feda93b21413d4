-- What lists of the program stand for.
use Rattle.std.specs.Prelude.{ℕ, List, map, Vec}
use Rattle.std.specs.declared.alloc.Global.{Global}
use Rattle.cic_rules.specs.Environment.{ConstructorDeclaration, TypeDeclaration, Declaration}
use Rattle.cic_env.specs.Declarations.{declaration, type_declaration, constructor_declaration}
use Rattle.cic_env.specs.declared.declaration.CtorDecl.{CtorDecl}
use Rattle.cic_env.specs.declared.declaration.IndType.{IndType}
use Rattle.cic_env.specs.declared.declaration.Decl.{Decl}
use Rattle.lib_format.specs.declared.stored.Need.{Need}
use Rattle.lib_format.specs.declared.stored.OpaqueRow.{OpaqueRow}
use Rattle.lib_format.specs.declared.stored.Recorded.{Recorded}

abbrev pub constructors_of : Vec CtorDecl Global → List ConstructorDeclaration
constructors_of cs = map constructor_declaration cs.items

abbrev pub types_of : Vec IndType Global → List TypeDeclaration
types_of ts = map type_declaration ts.items

abbrev pub declarations_of : Vec Decl Global → List Declaration
declarations_of ds = map declaration ds.items

abbrev pub closure_of : Vec Recorded Global → List Recorded
closure_of rs = rs.items

abbrev pub needs_of : Vec Need Global → List Need
needs_of ns = ns.items

abbrev pub levels_of : Vec (List ℕ) Global → List (List ℕ)
levels_of ls = ls.items

abbrev pub rows_of : Vec OpaqueRow Global → List OpaqueRow
rows_of rs = rs.items
