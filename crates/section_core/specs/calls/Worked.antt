-- Worked sections of a library A. The ids and hypotheses are those of the section of the examples of definitions:
--   Variable a : Prop. Variable h : a. Let l : a := h. Variable b : Prop.
use Rattle.std.specs.Prelude.{Some, None, List, [], ◌∷◌, codes}
use Rattle.cic_names.specs.declared.name.GlobalId.{GlobalId}
use Rattle.cic_terms.specs.Tree.{prop, rel, sort, prod, lam, app, const, ind}
use Rattle.cic_rules.specs.Environment.{Declaration, transparent, opaque, inductive}
use Rattle.section_terms.specs.Hypotheses.{Hypothesis}
use Rattle.section_terms.specs.calls.Examples.{a, h, b, c, d, J, K, variable_a, variable_h, variable_b}
use Rattle.section_core.specs.Sections.{Entry, assumed, added, free, Section}

-- A section S with these entries, alone.
abbrev pub alone : List Entry → List Section
alone es = record { name = codes "S"; entries = es } ∷ []

-- `Variables a b : Prop. Hypothesis g : b.`
abbrev pub g : GlobalId
g = record { lib = codes "A"; name = codes "g" }

abbrev pub hypothesis_g : Hypothesis
hypothesis_g = record { id = g; type = const b; body = None }

abbrev pub declared_first : List Entry
declared_first = assumed variable_a ∷ assumed variable_b ∷ assumed hypothesis_g ∷ []

-- `Theorem d : a -> a. exact (fun x : a => (fun y : b => x) g). Qed.`
abbrev pub uses_g : Declaration
uses_g = opaque d (prod (const a) (const a)) (Some (lam (const a) (app (lam (const b) (rel 1)) (const g))))

-- `Theorem d : a -> a. exact (fun x : a => x). Qed.`
abbrev pub identity : Declaration
identity = opaque d (prod (const a) (const a)) (Some (lam (const a) (rel 0)))

-- `Definition c : a := h.`
abbrev pub takes_h : Declaration
takes_h = transparent c (const a) (const h)

-- An inner section with `Variable h : a. Definition c : a := h.`
abbrev pub inner : Section
inner = record { name = codes "T"; entries = assumed variable_h ∷ added takes_h free ∷ [] }

-- `Inductive J (x : Prop) : Prop := K : a -> J x.`
abbrev pub with_parameter : Declaration
with_parameter = inductive (record {
  parameters = 1;
  types = record {
    id = J;
    arity = prod (sort prop) (sort prop);
    constructors = record { id = K; type = prod (sort prop) (prod (const a) (app (ind J) (rel 1))) } ∷ [];
  } ∷ [];
})
