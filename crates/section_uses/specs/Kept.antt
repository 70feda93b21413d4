-- What hypotheses of the program, and its lists of names, stand for.
use Rattle.std.specs.Prelude.{Option, Some, None, List, [], ◌∷◌, map, Vec}
use Rattle.std.specs.Option.{option_map}
use Rattle.std.specs.Map.{lookup}
use Rattle.std.specs.declared.rc.Rc.{Rc}
use Rattle.std.specs.declared.alloc.Global.{Global}
use Rattle.cic_names.specs.declared.name.GlobalId.{GlobalId}
use Rattle.cic_names.specs.Sameness.{same_id}
use Rattle.cic_terms.specs.Tree.{Tree}
use Rattle.cic_terms.specs.Denotes.{tree}
use Rattle.cic_terms.specs.declared.term.Term.{Term}
use Rattle.section_terms.specs.Hypotheses.{Hypothesis}
use Rattle.section_uses.specs.declared.hypothesis.Hypothesis.{Hypothesis as Kept}
use Rattle.section_uses.specs.declared.lists.Lists.{Lists}

abbrev pub shared_tree : Rc Term Global → Tree
shared_tree t = tree t.value

abbrev pub hypothesis : Kept → Hypothesis
hypothesis h = record { id = h.id; type = shared_tree h.ty; body = option_map shared_tree h.body }

-- Names with the lists that a layer keeps for them.
abbrev pub Layer : Type 0
Layer = List (GlobalId × Rc (Vec GlobalId Global) Global)

abbrev pub layers_of : Lists → List Layer
layers_of lists = map (λ l. l.entries) lists.layers.items

-- What a layer keeps for a name, and what is kept below it where it keeps nothing.
abbrev pub names_or : List GlobalId → Option (Rc (Vec GlobalId Global) Global) → List GlobalId
names_or below None = below
names_or below (Some names) = names.value.items

abbrev pub layered : (below : GlobalId → List GlobalId) → Layer → GlobalId → List GlobalId
layered below layer id = names_or (below id) (lookup (same_id id) layer)

abbrev pub all_layered : (below : GlobalId → List GlobalId) → List Layer → GlobalId → List GlobalId
all_layered below [] = below
all_layered below (l ∷ ls) = all_layered (layered below l) ls

-- The names that are kept for a name, and none where nothing is kept for it.
abbrev pub list_of : Lists → GlobalId → List GlobalId
list_of lists = all_layered (λ id. []) (layers_of lists)
