-- The first hypothesis that a declaration may not use, by what the state keeps.
use Rattle.std.proofs.Common.{◌≡◌, ℕ, Option, Some, None, option_map, Result, Ok, Err, IfErr, IsErrAnd, List, map, refl, sym, ap, ap₂, ◌∙◌}
use Rattle.cic_names.specs.declared.name.GlobalId.{GlobalId}
use Rattle.cic_rules.specs.Environment.{Declaration}
use Rattle.section_terms.specs.Hypotheses.{Hypothesis, ids_of}
use Rattle.section_terms.specs.Used.{used, body_names}
use Rattle.section_uses.specs.Kept.{hypothesis, list_of}
use Rattle.section_uses.specs.declared.hypothesis.Hypothesis.{Hypothesis as Kept}
use Rattle.section_core.specs.Sections.{Allowed, Section, known, used_by, first_outside, undeclared}
use Rattle.section_core.specs.Answers.{name_of, IsNotAdded}
use Rattle.section_core.specs.calls.Names.{id_of}
use Rattle.section_core.specs.calls.States.{sections_of, IsState, IsUndeclared}
use Rattle.section_core.specs.declared.fault.AddFault.{AddFault}
use Rattle.section_core.specs.declared.fault.AddFault.TheVariants as not_added
use Rattle.section_core.specs.declared.state.State.{State}
use Rattle.section_core.proofs.Opened.{known_over}

pub undeclared_is : (s : State) (d : Declaration) (u : Allowed) (uses : List Hypothesis) (hs : List Kept) → IsState s → hs ≡ s.hypotheses.items →
    uses ≡ used_by (list_of s.over) (map hypothesis s.hypotheses.items) d u →
    first_outside (ids_of uses) (used (list_of s.over) (map hypothesis hs) (body_names d)) ≡ undeclared (known (sections_of s)) d u
undeclared_is s d u uses hs is same e =
    let first : (GlobalId → List GlobalId) → List Hypothesis → Option Hypothesis
    = λ f gs. first_outside (ids_of (used_by f gs d u)) (used f gs (body_names d)) in
    ap₂ (λ (us : List Hypothesis) (ks : List Kept). first_outside (ids_of us) (used (list_of s.over) (map hypothesis ks) (body_names d))) e same
    ∙ ap₂ first (known_over s is) is.hypotheses

none_is : (o : Option Hypothesis) → None ≡ option_map id_of o → o ≡ None
none_is None e = refl
none_is (Some h) e = cc

some_is : (id : GlobalId) (o : Option Hypothesis) → Some id ≡ option_map id_of o → option_map name_of o ≡ Some id.name
some_is id None e = cc
some_is id (Some h) e = let same : id ≡ h.id = cc in ap (λ (i : GlobalId). Some i.name) (sym same)

pub none_undeclared : (o whole : Option Hypothesis) → o ≡ whole → None ≡ option_map id_of o → whole ≡ None
none_undeclared o whole same e = sym same ∙ none_is o e

not_added_is : (ss : List Section) (d : Declaration) (u : Allowed) (name : List ℕ) (fault : AddFault) → option_map name_of (undeclared (known ss) d u) ≡ Some name →
    IsUndeclared d name fault → IsNotAdded ss d u fault
not_added_is ss d u name (not_added.UsesUndeclared proof found) e of = (of.0, e ∙ ap Some (sym of.1))
not_added_is ss d u name not_added.NoMemory e of = tt

weaker_refusal : {A : Type 0} (r : Result A AddFault) (P Q : AddFault → Type 0) → IsErrAnd r P → ((fault : AddFault) → P fault → Q fault) → IfErr r Q
weaker_refusal (Ok x) P Q h f = absurd h
weaker_refusal (Err fault) P Q h f = f fault h

pub refused_is : {A : Type 0} (r : Result A AddFault) (ss : List Section) (d : Declaration) (u : Allowed) (id : GlobalId) (o : Option Hypothesis) →
    o ≡ undeclared (known ss) d u → Some id ≡ option_map id_of o → IsErrAnd r (IsUndeclared d id.name) → IfErr r (IsNotAdded ss d u)
refused_is r ss d u id o same e h =
    weaker_refusal r (IsUndeclared d id.name) (IsNotAdded ss d u) h
    (λ fault of. not_added_is ss d u id.name fault (ap (option_map name_of) (sym same) ∙ some_is id o e) of)
