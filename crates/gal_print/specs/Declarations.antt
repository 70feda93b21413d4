-- How a declaration is printed: a line for each id with its type, and one for the body of a constant that unfolds
-- (this project's own).
use Rattle.std.specs.Prelude.{ℕ, List, [], ◌∷◌, ◌++◌, codes}
use Rattle.cic_names.specs.declared.name.GlobalId.{GlobalId}
use Rattle.cic_names.specs.Texts.{id_text}
use Rattle.cic_terms.specs.Tree.{Tree}
use Rattle.cic_rules.specs.Environment.{Environment, Declaration, axiom_of, transparent, opaque, inductive, TypeDeclaration, ConstructorDeclaration}
use Rattle.gal_print.specs.Printing.{term_text}

-- An id with its type.
abbrev pub type_line : Environment → GlobalId → (type : Tree) → List ℕ
type_line E id type = id_text id ++ codes " : " ++ term_text E 0 type ++ codes "\n"

-- An id with its body.
abbrev pub body_line : Environment → GlobalId → (body : Tree) → List ℕ
body_line E id body = id_text id ++ codes " := " ++ term_text E 0 body ++ codes "\n"

-- The types of a block, each before its constructors.
abbrev pub constructor_lines : Environment → List ConstructorDeclaration → List ℕ
constructor_lines E [] = []
constructor_lines E (c ∷ cs) = type_line E c.id c.type ++ constructor_lines E cs

abbrev pub block_lines : Environment → List TypeDeclaration → List ℕ
block_lines E [] = []
block_lines E (t ∷ ts) = type_line E t.id t.arity ++ constructor_lines E t.constructors ++ block_lines E ts

abbrev pub declaration_text : Environment → Declaration → List ℕ
declaration_text E (axiom_of id type) = type_line E id type
declaration_text E (transparent id type body) = type_line E id type ++ body_line E id body
declaration_text E (opaque id type body) = type_line E id type
declaration_text E (inductive block) = block_lines E block.types
