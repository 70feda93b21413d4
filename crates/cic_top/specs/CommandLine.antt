-- The command lines that the program takes, and the first word that is not understood. A command
-- line is the list of its words after the program's name, each a list of bytes.
use Rattle.std.specs.Prelude.{ℕ, ◌+◌, ◌<◌, ◌≤◌, ◌≡◌, ◌⊎◌, List, [], ◌∷◌, ◌++◌, length, take, codes}
use Rattle.cic_names.specs.Identifier.{IsIdentifier}

-- A name: an identifier of at most 255 bytes.
pub record IsName (a : List ℕ) : Type 0 where
  pub identifier : IsIdentifier a
  pub short : length a ≤ 255

-- The name of the source of a library.
abbrev pub source_name : List ℕ → List ℕ
source_name library = library ++ codes ".v"

-- The command lines that there are: `coqc A.v` compiles the library A (Coq Reference Manual, "The Coq
-- commands": batch compilation).
pub data CommandLine : List (List ℕ) → (library : List ℕ) → Type 0 where
  coqc : {words : List (List ℕ)} {library : List ℕ} →
      IsName library →
      words ≡ codes "coqc" ∷ source_name library ∷ [] →
      CommandLine words library

-- Some command line begins with these words.
abbrev pub BeginsCommandLine : List (List ℕ) → Type 0
BeginsCommandLine words = (rest : List (List ℕ)) × (library : List ℕ) × CommandLine (words ++ rest) library

-- These words are a command line.
abbrev pub IsCommandLine : List (List ℕ) → Type 0
IsCommandLine words = (library : List ℕ) × CommandLine words library

-- Word k, counted from 1, is the first that is not understood: no command line begins with the first
-- k words, while one begins with any fewer. Where all words begin a command line and are none, it is
-- the word that is missing, one more than there are.
pub record FirstNotUnderstood (words : List (List ℕ)) (k : ℕ) : Type 0 where
  pub earlier : (j : ℕ) → j < k → BeginsCommandLine (take j words)
  pub this : ((k ≤ length words) × ¬ BeginsCommandLine (take k words)) ⊎ ((k ≡ length words + 1) × ¬ IsCommandLine words)
