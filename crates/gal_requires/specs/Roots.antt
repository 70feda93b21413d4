-- The libraries that a file requires. Coq Reference Manual, "Vernacular", Require and From.
use Rattle.std.specs.Prelude.{ℕ, List, [], ◌∷◌, ◌++◌, ◌≡◌, ◌≤◌, Option, Some, None, map, length, if◌then◌else◌}
use Rattle.std.specs.List.{list_any}
use Rattle.std.specs.Str.{bytes_eq}
use Rattle.cic_names.specs.Identifier.{IsIdentifier}
use Rattle.gal_grammar.specs.Terms.{Named, named, Qual, short, long}
use Rattle.gal_raw.specs.Denotes.{identifier}
use Rattle.gal_lines.specs.declared.places.Lines.{Lines}
use Rattle.gal_requires.specs.Required.{Required}
use Rattle.gal_requires.specs.declared.naming.RootFault.{RootFault}
use Rattle.gal_requires.specs.declared.naming.RootFault.TheVariants as F

-- one name behind a Require, with what stands behind From and where the sentence stands
pub record Mention : Type 0 where
  pub from : Option Named
  pub name : Qual
  pub lines : Lines

abbrev pub mention : Required → Qual → Mention
mention r x = record { from = r.from; name = x; lines = r.lines }

abbrev pub mentions_of : Required → List Mention
mentions_of r = map (mention r) r.names

-- the names behind the Requires, in order
abbrev pub mentions : List Required → List Mention
mentions [] = []
mentions (r ∷ rs) = mentions_of r ++ mentions rs

-- In what follows the first argument is the prefix of the libraries, if there is one.

-- nothing stands behind From, or the prefix
abbrev pub MayStand : Option (List ℕ) → Option Named → Type 0
MayStand prefix None = Unit {0}
MayStand prefix (Some (named place text)) = prefix ≡ Some text

-- the name is the library's, or the prefix, a dot and the library's
abbrev pub Spells : Option (List ℕ) → Qual → List ℕ → Type 0
Spells prefix (short place text) library = text ≡ library
Spells prefix (long place text) library = (p : List ℕ) × (prefix ≡ Some p) × (text ≡ p ++ (46 ∷ library))

-- an identifier of at most 255 bytes
abbrev pub IsLibrary : List ℕ → Type 0
IsLibrary text = IsIdentifier text × (length text ≤ 255)

-- the library that a name means
pub record Means (prefix : Option (List ℕ)) (m : Mention) (library : List ℕ) : Type 0 where
  pub stands : MayStand prefix m.from
  pub spells : Spells prefix m.name library
  pub is_name : IsLibrary library

-- one more library is put behind the others, if it is not among them
abbrev pub with_library : List (List ℕ) → List ℕ → List (List ℕ)
with_library ls l = if list_any (bytes_eq l) ls then ls else ls ++ l ∷ []

-- The names mean these libraries, which stand each once, in the order of their first mentions.
pub data Roots (prefix : Option (List ℕ)) : List Mention → List (List ℕ) → Type 0 where
  none : Roots prefix [] []
  further : {ms ns : List Mention} {ls ks : List (List ℕ)} {m : Mention} {l : List ℕ} →
      Roots prefix ms ls → Means prefix m l → ns ≡ ms ++ (m ∷ []) → ks ≡ with_library ls l → Roots prefix ns ks

abbrev pub named_of : Qual → Named
named_of (short place text) = named place text
named_of (long place text) = named place text

-- the first of the names that mean no library
pub record IsUnknown (prefix : Option (List ℕ)) (ms : List Mention) (name : Named) (lines : Lines) : Type 0 where
  pub before : List Mention
  pub unknown : Mention
  pub after : List Mention
  pub libraries : List (List ℕ)
  pub split : ms ≡ before ++ (unknown ∷ after)
  pub known : Roots prefix before libraries
  pub nothing : (l : List ℕ) → Means prefix unknown l → ⊥
  pub name_is : named_of unknown.name ≡ name
  pub lines_are : unknown.lines ≡ lines

-- why the names have no roots
abbrev pub IsRootFault : Option (List ℕ) → List Mention → RootFault → Type 0
IsRootFault prefix ms (F.Unknown name lines) = IsUnknown prefix ms (identifier name) lines
IsRootFault prefix ms F.NoMemory = Unit {0}
