-- What a printed match tells of its type.
use Rattle.std.specs.Prelude.{ℕ, List, [], length, if◌then◌else◌, ◌==◌, Option, Some, None}
use Rattle.cic_names.specs.declared.name.GlobalId.{GlobalId}
use Rattle.cic_rules.specs.Environment.{Environment, TypeDeclaration, TypeInBlock, constructor_ids, whole_block, element}

-- The number of parameters, and the constructors that the branches are for, in order.
pub record Heads : Type 0 where
  pub parameters : ℕ
  pub constructors : List GlobalId

-- Nothing is told of a type that is not known.
abbrev pub unknown_heads : Heads
unknown_heads = record { parameters = 0; constructors = [] }

-- A type is known where it has as many constructors as the match has branches.
abbrev pub heads_of_type : (parameters branches : ℕ) → Option TypeDeclaration → Heads
heads_of_type parameters branches None = unknown_heads
heads_of_type parameters branches (Some t) =
    if length t.constructors == branches then (record { parameters = parameters; constructors = constructor_ids t.constructors }) else unknown_heads

abbrev pub heads_in : (branches : ℕ) → Option TypeInBlock → Heads
heads_in branches None = unknown_heads
heads_in branches (Some found) = heads_of_type found.block.parameters branches (element found.block.types found.index)

-- What a match with so many branches on a type tells of it. A block that is bare is not there.
abbrev pub heads : Environment → GlobalId → (branches : ℕ) → Heads
heads E id branches = heads_in branches (whole_block E id)
