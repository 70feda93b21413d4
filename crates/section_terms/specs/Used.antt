-- Which hypotheses of a section a declaration uses.
use Rattle.std.specs.Prelude.{Option, Some, None, List, [], ◌∷◌, ◌++◌, Bool, if◌then◌else◌}
use Rattle.std.specs.List.{list_any}
use Rattle.cic_names.specs.declared.name.GlobalId.{GlobalId}
use Rattle.cic_names.specs.Sameness.{same_id}
use Rattle.cic_terms.specs.Tree.{Tree}
use Rattle.cic_rules.specs.Environment.{Declaration, axiom_of, transparent, opaque, inductive, TypeDeclaration, ConstructorDeclaration}
use Rattle.section_terms.specs.Names.{names_in}
use Rattle.section_terms.specs.Hypotheses.{Hypothesis}

-- In what follows `over` gives the hypotheses over which a constant of the section is generalised, and none for
-- other names.

-- The names, and what the constants of the section among them are generalised over.
abbrev pub with_those_of : (over : GlobalId → List GlobalId) → List GlobalId → List GlobalId
with_those_of over [] = []
with_those_of over (c ∷ cs) = (c ∷ over c) ++ with_those_of over cs

abbrev pub is_in : GlobalId → List GlobalId → Bool
is_in id = list_any (same_id id)

-- The names of the type of a hypothesis, and of its body.
abbrev pub names_in_body : Option Tree → List GlobalId
names_in_body None = []
names_in_body (Some t) = names_in t

abbrev pub names_in_hypothesis : Hypothesis → List GlobalId
names_in_hypothesis h = names_in h.type ++ names_in_body h.body

abbrev pub names_in_hypotheses : List Hypothesis → List GlobalId
names_in_hypotheses [] = []
names_in_hypotheses (h ∷ hs) = names_in_hypothesis h ++ names_in_hypotheses hs

-- The hypotheses that names use, in order of declaration: each that is among them, or among those of a later
-- hypothesis that they use. What is among the names counts with what the constants are generalised over.
abbrev pub used : (over : GlobalId → List GlobalId) → List Hypothesis → (names : List GlobalId) → List Hypothesis
used over [] names = []
used over (h ∷ later) names =
    let uses = used over later names in
    if is_in h.id (with_those_of over (names ++ names_in_hypotheses uses)) then h ∷ uses else uses

-- The names of a declaration: of its type or of a block's arities and constructors, and of its body.
abbrev pub names_in_constructors : List ConstructorDeclaration → List GlobalId
names_in_constructors [] = []
names_in_constructors (c ∷ cs) = names_in c.type ++ names_in_constructors cs

abbrev pub names_in_types : List TypeDeclaration → List GlobalId
names_in_types [] = []
names_in_types (t ∷ ts) = (names_in t.arity ++ names_in_constructors t.constructors) ++ names_in_types ts

abbrev pub statement_names : Declaration → List GlobalId
statement_names (axiom_of id type) = names_in type
statement_names (transparent id type body) = names_in type
statement_names (opaque id type body) = names_in type
statement_names (inductive block) = names_in_types block.types

abbrev pub body_names : Declaration → List GlobalId
body_names (axiom_of id type) = []
body_names (transparent id type body) = names_in body
body_names (opaque id type body) = names_in_body body
body_names (inductive block) = []
