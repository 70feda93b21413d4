-- The ids of items, each with the place where it is declared, in order of declaration.
use Rattle.std.specs.Prelude.{ℕ, zero, suc, ◌+◌, ◌<◌, List, [], ◌∷◌, ◌++◌, Option, Some, None, slice_index_or}
use Rattle.cic_names.specs.declared.name.GlobalId.{GlobalId}
use Rattle.cic_rules.specs.Environment.{ConstructorDeclaration, TypeDeclaration, Block, Declaration, axiom_of, transparent, opaque, inductive, Item, declared, bare, Environment, Meaning, constant, whole_type, bare_type, constructor}
use Rattle.cic_env.specs.declared.item.Place.{Place}

abbrev pub Named : Type 0
Named = GlobalId × Place

-- The place of a constant, or of a type.
abbrev pub place_at : (item index : ℕ) → Place
place_at item index = record { item = item; index = index; constructor = None }

abbrev pub constructor_places : (item index number : ℕ) → List ConstructorDeclaration → List Named
constructor_places item index number [] = []
constructor_places item index number (c ∷ cs) =
    (c.id, record { item = item; index = index; constructor = Some number }) ∷ constructor_places item index (number + 1) cs

-- A type and its constructors.
abbrev pub one_type : (item index : ℕ) → TypeDeclaration → List Named
one_type item index t = (t.id, place_at item index) ∷ constructor_places item index 0 t.constructors

abbrev pub type_places : (item index : ℕ) → List TypeDeclaration → List Named
type_places item index [] = []
type_places item index (t ∷ ts) = one_type item index t ++ type_places item (index + 1) ts

abbrev pub bare_places : (item index : ℕ) → List TypeDeclaration → List Named
bare_places item index [] = []
bare_places item index (t ∷ ts) = (t.id, place_at item index) ∷ bare_places item (index + 1) ts

abbrev pub declaration_places : (item : ℕ) → Declaration → List Named
declaration_places item (axiom_of id type) = (id, place_at item 0) ∷ []
declaration_places item (transparent id type body) = (id, place_at item 0) ∷ []
declaration_places item (opaque id type body) = (id, place_at item 0) ∷ []
declaration_places item (inductive block) = type_places item 0 block.types

abbrev pub item_places : (item : ℕ) → Item → List Named
item_places item (declared d) = declaration_places item d
item_places item (bare block) = bare_places item 0 block.types

-- The ids of items, the first of which has this number.
abbrev pub places_from : ℕ → Environment → List Named
places_from item [] = []
places_from item (i ∷ E) = item_places item i ++ places_from (item + 1) E

-- What an id stands for that an item has at a place.
abbrev pub in_whole : Block → ℕ → Option ℕ → Meaning
in_whole block index None = whole_type block index
in_whole block index (Some number) = constructor block index number

abbrev pub stands_at : Item → Place → Option Meaning
stands_at (declared (axiom_of id type)) place = Some (constant type None)
stands_at (declared (transparent id type body)) place = Some (constant type (Some body))
stands_at (declared (opaque id type body)) place = Some (constant type None)
stands_at (declared (inductive block)) place = Some (in_whole block place.index place.constructor)
stands_at (bare block) place = Some (bare_type block place.index)

-- The last of the first `count` ids, if there is one, is declared before that item.
abbrev pub EndsBefore : (item : ℕ) → List Named → (count : ℕ) → Type 0
EndsBefore item names zero = Unit {0}
EndsBefore item names (suc k) = (other : Named) → (slice_index_or names k other).1.item < item
