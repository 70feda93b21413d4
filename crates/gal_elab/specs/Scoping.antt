-- Which term a written term stands for, and which of its names is the first that stands for nothing.
-- A name is that of the innermost binder around it, or of a declaration of the library (Coq Reference
-- Manual, "Functions and assumptions" and "Qualified identifiers").
use Rattle.std.specs.Prelude.{ℕ, zero, suc, ◌≡◌, ◌≢◌, List, [], ◌∷◌, Option, Some, None, Contains}
use Rattle.cic_terms.specs.Tree.{Tree, rel, sort, prop, prod, const}
use Rattle.cic_names.specs.declared.name.GlobalId.{GlobalId}
use Rattle.cic_rules.specs.Environment.{Environment, environment_ids}
use Rattle.gal_parser.specs.Grammar as G

-- The names of the binders around a term, the innermost first. The binder of an arrow has none.
abbrev pub Binders : Type 0
Binders = List (Option (List ℕ))

-- Variable x, counted from the innermost, is the innermost binder of this name.
pub data NamesVariable : Binders → (name : List ℕ) → (x : ℕ) → Type 0 where
  here : {binder : Option (List ℕ)} {outer : Binders} {name : List ℕ} →
      binder ≡ Some name →
      NamesVariable (binder ∷ outer) name zero
  there : {binder : Option (List ℕ)} {outer : Binders} {name : List ℕ} {x : ℕ} →
      binder ≢ Some name →
      NamesVariable outer name x →
      NamesVariable (binder ∷ outer) name (suc x)

-- No binder has this name.
pub data NamesNone : Binders → (name : List ℕ) → Type 0 where
  no_binder : {name : List ℕ} → NamesNone [] name
  another : {binder : Option (List ℕ)} {outer : Binders} {name : List ℕ} →
      binder ≢ Some name →
      NamesNone outer name →
      NamesNone (binder ∷ outer) name

-- The id of a name of a library.
abbrev pub id_of : (library name : List ℕ) → GlobalId
id_of library name = record { lib = library; name = name }

-- The environment declares the id.
abbrev pub Declares : Environment → GlobalId → Type 0
Declares E id = Contains (environment_ids E) id

-- Under these binders, a written term of the library stands for a term. A binder hides a declaration of
-- its name. The part to the right of a comma or an arrow stands under one binder more.
pub data StandsFor (library : List ℕ) (E : Environment) : Binders → G.RawTerm → Tree → Type 0 where
  prop_stands : {binders : Binders} → StandsFor library E binders G.prop (sort prop)
  variable_stands : {binders : Binders} {name : List ℕ} {x : ℕ} →
      NamesVariable binders name x →
      StandsFor library E binders (G.name name) (rel x)
  constant_stands : {binders : Binders} {name : List ℕ} {t : Tree} →
      NamesNone binders name →
      Declares E (id_of library name) →
      t ≡ const (id_of library name) →
      StandsFor library E binders (G.name name) t
  for_all_stands : {binders : Binders} {binder : List ℕ} {type body : G.RawTerm} {A B : Tree} →
      StandsFor library E binders type A →
      StandsFor library E (Some binder ∷ binders) body B →
      StandsFor library E binders (G.for_all binder type body) (prod A B)
  arrow_stands : {binders : Binders} {from to : G.RawTerm} {A B : Tree} →
      StandsFor library E binders from A →
      StandsFor library E (None ∷ binders) to B →
      StandsFor library E binders (G.arrow from to) (prod A B)

-- Under these binders, this is the first name of a written term, in the order of the source, that is
-- neither a binder's nor declared: a part to the right is looked at only where the part to the left
-- stands for a term.
pub data FirstUnknown (library : List ℕ) (E : Environment) : Binders → G.RawTerm → (name : List ℕ) → Type 0 where
  unknown_name : {binders : Binders} {written name : List ℕ} →
      NamesNone binders written →
      ¬ Declares E (id_of library written) →
      written ≡ name →
      FirstUnknown library E binders (G.name written) name
  unknown_in_type : {binders : Binders} {binder name : List ℕ} {type body : G.RawTerm} →
      FirstUnknown library E binders type name →
      FirstUnknown library E binders (G.for_all binder type body) name
  unknown_in_body : {binders : Binders} {binder name : List ℕ} {type body : G.RawTerm} {A : Tree} →
      StandsFor library E binders type A →
      FirstUnknown library E (Some binder ∷ binders) body name →
      FirstUnknown library E binders (G.for_all binder type body) name
  unknown_before_arrow : {binders : Binders} {name : List ℕ} {from to : G.RawTerm} →
      FirstUnknown library E binders from name →
      FirstUnknown library E binders (G.arrow from to) name
  unknown_behind_arrow : {binders : Binders} {name : List ℕ} {from to : G.RawTerm} {A : Tree} →
      StandsFor library E binders from A →
      FirstUnknown library E (None ∷ binders) to name →
      FirstUnknown library E binders (G.arrow from to) name
