-- What the summary and the library segment of a library file hold, their bytes, and what can be stored in them:
--
--     summary   name of the library, digest of its source, budget, list of (name, digest) of the libraries loaded
--     library   name of the library, list of (how, name) of the libraries required, list of the levels declared, list of
--               declarations, list of constraints that everyone sees
use Rattle.std.specs.Prelude.{ℕ, ◌≡◌, ◌<◌, ◌^◌, List, ◌∷◌, ◌++◌, length, map, All}
use Rattle.cic_names.specs.declared.constraint.Constraint.{Constraint}
use Rattle.cic_names.specs.Orders.{digits, name_bytes}
use Rattle.cic_rules.specs.Environment.{Declaration}
use Rattle.cic_env.specs.Declarations.{declaration}
use Rattle.term_format.specs.Spelling.{constraints_bytes}
use Rattle.term_format.specs.Storable.{IsName, AreStorable}
use Rattle.lib_format.specs.declared.stored.NeedFlag.{NeedFlag}
use Rattle.lib_format.specs.declared.stored.NeedFlag.TheVariants.{Plain, Import, Export}
use Rattle.lib_format.specs.declared.stored.Need.{Need}
use Rattle.lib_format.specs.declared.stored.Recorded.{Recorded}
use Rattle.lib_format.specs.declared.stored.Library.{Library}
use Rattle.lib_format.specs.declared.stored.Summary.{Summary}
use Rattle.lib_format.specs.Lists.{list_bytes, IsList}
use Rattle.lib_format.specs.DeclarationBytes.{declarations_bytes, IsFresh, AreDeclarations}

-- A digest has 16 bytes.
abbrev pub IsDigest : List ℕ → Type 0
IsDigest digest = (length digest ≡ 16) × All (λ b. b < 256) digest

-- A library that was loaded, with its digest.
abbrev pub recorded_bytes : Recorded → List ℕ
recorded_bytes r = name_bytes r.lib ++ r.digest

pub record IsRecorded (r : Recorded) : Type 0 where
  pub name : IsName r.lib
  pub digest : IsDigest r.digest

-- What a summary holds.
pub record SummaryContents : Type 0 where
  pub name : List ℕ
  pub source : List ℕ
  pub budget : ℕ
  pub closure : List Recorded

abbrev pub summary_contents : Summary → SummaryContents
summary_contents s = record { name = s.name; source = s.source; budget = s.budget; closure = s.closure.items }

abbrev pub summary_bytes : SummaryContents → List ℕ
summary_bytes s = name_bytes s.name ++ (s.source ++ (digits s.budget ++ list_bytes (λ before r. recorded_bytes r) s.closure))

pub record IsSummary (s : SummaryContents) : Type 0 where
  pub name : IsName s.name
  pub source : IsDigest s.source
  pub budget : s.budget < 2 ^ 32
  pub closure : IsList (λ before r. IsRecorded r) s.closure

-- How a library is required, and the library.
abbrev pub flag_byte : NeedFlag → ℕ
flag_byte Plain = 0
flag_byte Import = 1
flag_byte Export = 2

abbrev pub need_bytes : Need → List ℕ
need_bytes n = flag_byte n.flag ∷ name_bytes n.lib

abbrev pub IsNeed : Need → Type 0
IsNeed n = IsName n.lib

-- What a library segment holds. The levels have different names.
pub record LibraryContents : Type 0 where
  pub name : List ℕ
  pub needs : List Need
  pub levels : List (List ℕ)
  pub declarations : List Declaration
  pub visible : List Constraint

abbrev pub library_contents : Library → LibraryContents
library_contents l = record {
  name = l.name;
  needs = l.needs.items;
  levels = l.levels.items;
  declarations = map declaration l.decls.items;
  visible = l.visible;
}

abbrev pub library_bytes : LibraryContents → List ℕ
library_bytes c =
    name_bytes c.name ++ (list_bytes (λ before n. need_bytes n) c.needs ++ (list_bytes (λ before l. name_bytes l) c.levels
    ++ (declarations_bytes c.declarations ++ constraints_bytes c.visible)))

pub record IsLibrary (c : LibraryContents) : Type 0 where
  pub name : IsName c.name
  pub needs : IsList (λ before n. IsNeed n) c.needs
  pub levels : IsList IsFresh c.levels
  pub declarations : AreDeclarations c.name c.declarations
  pub visible : AreStorable c.visible
