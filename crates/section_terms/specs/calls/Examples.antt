-- A worked section of a library A:
--   Variable a : Prop. Variable h : a. Let l : a := h. Variable b : Prop.
--   Definition c : a := h.  (generalised over a and h)
--   Inductive J : Prop := K : a -> J.  (generalised over a)
use Rattle.std.specs.Prelude.{Some, None, List, [], ◌∷◌, codes, if◌then◌else◌}
use Rattle.cic_names.specs.declared.name.GlobalId.{GlobalId}
use Rattle.cic_names.specs.Sameness.{same_id}
use Rattle.cic_terms.specs.Tree.{prop, sort, const}
use Rattle.section_terms.specs.Hypotheses.{Hypothesis}

abbrev pub a : GlobalId
a = record { lib = codes "A"; name = codes "a" }

abbrev pub h : GlobalId
h = record { lib = codes "A"; name = codes "h" }

abbrev pub l : GlobalId
l = record { lib = codes "A"; name = codes "l" }

abbrev pub b : GlobalId
b = record { lib = codes "A"; name = codes "b" }

abbrev pub c : GlobalId
c = record { lib = codes "A"; name = codes "c" }

abbrev pub J : GlobalId
J = record { lib = codes "A"; name = codes "J" }

abbrev pub K : GlobalId
K = record { lib = codes "A"; name = codes "K" }

abbrev pub d : GlobalId
d = record { lib = codes "A"; name = codes "d" }

abbrev pub variable_a : Hypothesis
variable_a = record { id = a; type = sort prop; body = None }

abbrev pub variable_h : Hypothesis
variable_h = record { id = h; type = const a; body = None }

abbrev pub let_l : Hypothesis
let_l = record { id = l; type = const a; body = Some (const h) }

abbrev pub variable_b : Hypothesis
variable_b = record { id = b; type = sort prop; body = None }

abbrev pub hypotheses : List Hypothesis
hypotheses = variable_a ∷ variable_h ∷ let_l ∷ variable_b ∷ []

-- What the constants of the section are generalised over. Here that is what they are applied to, as they use no let.
abbrev pub over : GlobalId → List GlobalId
over id =
    if same_id id c then a ∷ h ∷ [] else
    (if same_id id J then a ∷ [] else
    (if same_id id K then a ∷ [] else []))
