-- What a scope of the program stands for.
use Rattle.std.specs.Prelude.{ℕ, List, [], Option}
use Rattle.gal_scoping.specs.Scopes.{Scope}
use Rattle.gal_scoping.specs.Levels.{Owner}
use Rattle.name_scope.specs.Counting.{count_in}
use Rattle.name_scope.specs.declared.scope.Scope.{Scope as Held}

-- What names mean at the place.
abbrev pub scope_of : Held → Scope
scope_of s = record {
  library = s.library;
  prefix = s.prefix;
  allowed = s.allowed;
  brought = s.brought;
  brought_levels = s.brought_levels;
  own = s.own;
  own_levels = s.own_levels;
}

-- The live section variables among the library's own names.
abbrev pub variables_of : Held → List (List ℕ)
variables_of s = s.variables

-- How many anonymous levels each owner has taken.
abbrev pub taken_of : Held → Owner → ℕ
taken_of s owner = count_in s.counts.of.entries owner

-- Only the library and the prefix are known.
abbrev pub empty_scope : (library : List ℕ) → (prefix : Option (List ℕ)) → Scope
empty_scope library prefix = record {
  library = library;
  prefix = prefix;
  allowed = [];
  brought = [];
  brought_levels = [];
  own = [];
  own_levels = [];
}
