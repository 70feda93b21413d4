-- Terms, contexts and blocks whose ids are all in a set. They are terms each of whose formers names ids of the set
-- alone, so what keeps to the formers of its terms keeps to the set.
use Rattle.std.proofs.Common.{ℕ, zero, suc, Option, Some, None, List, [], ◌∷◌}
use Rattle.cic_terms.specs.Tree.{Former, ConstF, IndF, CtorF, CaseF, Tree, Children}
use Rattle.cic_names.specs.declared.name.GlobalId.{GlobalId}
use Rattle.cic_rules.specs.Inductive.{Each}
use Rattle.cic_rules.specs.Environment.{Context, Entry, assumed, element, entry_type, entry_body, type_at, body_at, under_unknown}
use Rattle.cic_rules.specs.Telescopes.{extend, Function}
use Rattle.cic_soundness.proofs.independence.Formers.{Allowed, FunctionOf, FunctionsOf, EachFormer, EachFormerOfParts}
use Rattle.cic_metatheory.proofs.basics.Elements.{IfThere, each_element}

module _ (S : GlobalId → Type 0) where
  -- All ids of a former are in the set.
  abbrev pub FormerIn : Former → Type 0
  FormerIn (ConstF id) = S id
  FormerIn (IndF id) = S id
  FormerIn (CtorF id) = S id
  FormerIn (CaseF id) = S id
  FormerIn f = Unit {0}

  -- The formers that name ids of the set alone.
  abbrev pub naming : Allowed
  naming = record { holds = FormerIn; products = tt; abstractions = tt; applications = tt; fixpoints = λ which shapes. tt }

  -- So all ids of a term, terms, an entry, a context and functions.
  abbrev pub TreeIn : Tree → Type 0
  TreeIn = EachFormer FormerIn

  abbrev pub PartsIn : Children → Type 0
  PartsIn = EachFormerOfParts FormerIn

  abbrev pub TreesIn : List Tree → Type 0
  TreesIn = Each TreeIn

  abbrev pub EntryIn : Entry → Type 0
  EntryIn e = IfThere TreeIn e.type × IfThere TreeIn e.body

  abbrev pub ContextIn : Context → Type 0
  ContextIn = Each EntryIn

  abbrev pub FunctionIn : Function → Type 0
  FunctionIn = FunctionOf naming

  abbrev pub FunctionsIn : List Function → Type 0
  FunctionsIn = FunctionsOf naming

  pub extend_in : (G : Context) (as_ : List Tree) → ContextIn G → TreesIn as_ → ContextIn (extend G as_)
  extend_in G [] h k = h
  extend_in G (a ∷ as_) h k = extend_in (assumed a ∷ G) as_ ((k.0, tt), h) k.1

  pub under_unknown_in : (n : ℕ) (G : Context) → ContextIn G → ContextIn (under_unknown n G)
  under_unknown_in zero G h = h
  under_unknown_in (suc n) G h = ((tt, tt), under_unknown_in n G h)

  entry_type_in : (o : Option Entry) → IfThere EntryIn o → IfThere TreeIn (entry_type o)
  entry_type_in None h = tt
  entry_type_in (Some e) h = h.0

  entry_body_in : (o : Option Entry) → IfThere EntryIn o → IfThere TreeIn (entry_body o)
  entry_body_in None h = tt
  entry_body_in (Some e) h = h.1

  pub type_at_in : (G : Context) (x : ℕ) → ContextIn G → IfThere TreeIn (type_at G x)
  type_at_in G x h = entry_type_in (element G x) (each_element EntryIn G x h)

  pub body_at_in : (G : Context) (x : ℕ) → ContextIn G → IfThere TreeIn (body_at G x)
  body_at_in G x h = entry_body_in (element G x) (each_element EntryIn G x h)
