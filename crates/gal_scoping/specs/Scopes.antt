-- What names mean at a place of a library (Coq Reference Manual, "Libraries and qualified names": short and qualified
-- names, and what `Import` makes visible). Texts are lists of bytes.
use Rattle.std.specs.Prelude.{ℕ, List, Option}
use Rattle.cic_names.specs.declared.name.GlobalId.{GlobalId}

-- A library of which names may be written as `A.c`, with the universe levels that it declares.
pub record Allowed : Type 0 where
  pub library : List ℕ
  pub levels : List (List ℕ)

pub record Scope : Type 0 where
  -- the library that is compiled, and the prefix of all libraries, if there is one
  pub library : List ℕ
  pub prefix : Option (List ℕ)
  pub allowed : List Allowed
  -- what imports brought, in order: declared ids, and levels by their library and name
  pub brought : List GlobalId
  pub brought_levels : List GlobalId
  -- the library's own names: of declarations, constructors and live section variables; and of levels
  pub own : List (List ℕ)
  pub own_levels : List (List ℕ)
