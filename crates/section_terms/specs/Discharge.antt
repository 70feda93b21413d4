-- Declarations generalised over hypotheses (Coq Reference Manual, "Section mechanism": what `End` makes of the
-- declarations of a section).
use Rattle.std.specs.Prelude.{◌+◌, ◌≤◌, Option, option_map, Some, None, List, [], ◌∷◌, map, length, if◌then◌else◌}
use Rattle.cic_names.specs.declared.name.GlobalId.{GlobalId}
use Rattle.cic_names.specs.Sameness.{same_id}
use Rattle.cic_terms.specs.Tree.{Former, ConstF, IndF, CtorF, Tree, rel, node, no_child, prod, lam, let_in, const, ind, ctor}
use Rattle.cic_terms.specs.Sizes.{Fits}
use Rattle.cic_rules.specs.Telescopes.{apply}
use Rattle.cic_rules.specs.Environment.{Block, ConstructorDeclaration, TypeDeclaration, Declaration, axiom_of, transparent, opaque, inductive}
use Rattle.section_terms.specs.Names.{replace_names}
use Rattle.section_terms.specs.Hypotheses.{Hypothesis, without_lets}

-- A tree stands for one constant, and every other name stays.
abbrev pub in_place_of : GlobalId → Tree → Former → Tree
in_place_of id with (ConstF c) = if same_id id c then with else const c
in_place_of id with f = node f no_child

-- The tree under a new binder, whose variable stands for the hypothesis.
abbrev pub abstracted : GlobalId → Tree → Tree
abstracted id t = replace_names (in_place_of id (rel 0)) 1 0 t

-- The tree with the body of a let in place of its id.
abbrev pub unfolded : GlobalId → (body : Tree) → Tree → Tree
unfolded id body t = replace_names (in_place_of id body) 0 0 t

-- In what follows `arguments` gives the variables to which a constant of the section is applied, and none for
-- other names.
abbrev pub with_arguments : (arguments : GlobalId → List GlobalId) → Former → Tree
with_arguments arguments (ConstF c) = apply (const c) (map (λ x. const x) (arguments c))
with_arguments arguments (IndF c) = apply (ind c) (map (λ x. const x) (arguments c))
with_arguments arguments (CtorF c) = apply (ctor c) (map (λ x. const x) (arguments c))
with_arguments arguments f = node f no_child

-- The tree with each constant, type and constructor of the section applied to its variables.
abbrev pub applied : (arguments : GlobalId → List GlobalId) → Tree → Tree
applied arguments t = replace_names (with_arguments arguments) 0 0 t

abbrev pub hypotheses_applied : (arguments : GlobalId → List GlobalId) → List Hypothesis → List Hypothesis
hypotheses_applied arguments =
    map (λ h. record { id = h.id; type = applied arguments h.type; body = option_map (applied arguments) h.body })

-- The binder of a hypothesis: a product or an abstraction for a variable, and a `let` for a let.
abbrev pub binding : (bind : (domain rest : Tree) → Tree) → Option Tree → (type rest : Tree) → Tree
binding bind None type rest = bind type rest
binding bind (Some body) type rest = let_in body type rest

-- A type, or a body, under binders for all hypotheses.
abbrev pub over_part : (bind : (domain rest : Tree) → Tree) → List Hypothesis → Tree → Tree
over_part bind [] t = t
over_part bind (h ∷ hs) t = binding bind h.body h.type (abstracted h.id (over_part bind hs t))

-- An arity of a block, or the type of a constructor: a variable is one more parameter, and a let gives way to its body.
abbrev pub parameter : GlobalId → Option Tree → (type rest : Tree) → Tree
parameter id None type rest = prod type (abstracted id rest)
parameter id (Some body) type rest = unfolded id body rest

abbrev pub over_block_part : List Hypothesis → Tree → Tree
over_block_part [] t = t
over_block_part (h ∷ hs) t = parameter h.id h.body h.type (over_block_part hs t)

-- The generalised type, body, and part of a block.
abbrev pub generalised_type : (arguments : GlobalId → List GlobalId) → List Hypothesis → Tree → Tree
generalised_type arguments hs t = over_part (λ a b. prod a b) (hypotheses_applied arguments hs) (applied arguments t)

abbrev pub generalised_body : (arguments : GlobalId → List GlobalId) → List Hypothesis → Tree → Tree
generalised_body arguments hs t = over_part (λ a b. lam a b) (hypotheses_applied arguments hs) (applied arguments t)

abbrev pub generalised_part : (arguments : GlobalId → List GlobalId) → List Hypothesis → Tree → Tree
generalised_part arguments hs t = over_block_part (hypotheses_applied arguments hs) (applied arguments t)

abbrev pub generalised_constructor : (arguments : GlobalId → List GlobalId) → List Hypothesis → ConstructorDeclaration → ConstructorDeclaration
generalised_constructor arguments hs c = record { id = c.id; type = generalised_part arguments hs c.type }

abbrev pub generalised_type_declaration : (arguments : GlobalId → List GlobalId) → List Hypothesis → TypeDeclaration → TypeDeclaration
generalised_type_declaration arguments hs t = record {
  id = t.id;
  arity = generalised_part arguments hs t.arity;
  constructors = map (generalised_constructor arguments hs) t.constructors;
}

-- The parameters of a block grow by the number of variables.
abbrev pub generalised_block : (arguments : GlobalId → List GlobalId) → List Hypothesis → Block → Block
generalised_block arguments hs block = record {
  parameters = block.parameters + length (without_lets hs);
  types = map (generalised_type_declaration arguments hs) block.types;
}

abbrev pub generalised : (arguments : GlobalId → List GlobalId) → List Hypothesis → Declaration → Declaration
generalised arguments hs (axiom_of id type) = axiom_of id (generalised_type arguments hs type)
generalised arguments hs (transparent id type body) = transparent id (generalised_type arguments hs type) (generalised_body arguments hs body)
generalised arguments hs (opaque id type body) = opaque id (generalised_type arguments hs type) (option_map (generalised_body arguments hs) body)
generalised arguments hs (inductive block) = inductive (generalised_block arguments hs block)

-- Each term of a declaration is within the limits of a term, and the number of parameters is one of 32 bits.
abbrev pub BodyFits : Option Tree → Type 0
BodyFits None = Unit {0}
BodyFits (Some t) = Fits 4000 t

abbrev pub ConstructorsFit : List ConstructorDeclaration → Type 0
ConstructorsFit [] = Unit {0}
ConstructorsFit (c ∷ cs) = Fits 4000 c.type × ConstructorsFit cs

abbrev pub TypesFit : List TypeDeclaration → Type 0
TypesFit [] = Unit {0}
TypesFit (t ∷ ts) = Fits 4000 t.arity × ConstructorsFit t.constructors × TypesFit ts

abbrev pub DeclarationFits : Declaration → Type 0
DeclarationFits (axiom_of id type) = Fits 4000 type
DeclarationFits (transparent id type body) = Fits 4000 type × Fits 4000 body
DeclarationFits (opaque id type body) = Fits 4000 type × BodyFits body
DeclarationFits (inductive block) = (block.parameters ≤ 4294967295) × TypesFit block.types
