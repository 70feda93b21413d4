-- Universe levels that are written, and those that a `Type` without a level takes (Coq Reference Manual, "Polymorphic
-- Universes" and "Sorts": universe names are sought as other names are, in a name space of their own).
use Rattle.std.specs.Prelude.{ℕ, ◌+◌, List, [], ◌∷◌, Option, Some, None, Bool, false, Ok, Err, if◌then◌else◌}
use Rattle.std.specs.List.{list_any}
use Rattle.cic_names.specs.declared.name.GlobalId.{GlobalId}
use Rattle.cic_names.specs.declared.level.Level.{Level}
use Rattle.cic_names.specs.declared.level.Level.TheVariants.{Named}
use Rattle.cic_names.specs.declared.level.Part.{Part}
use Rattle.cic_names.specs.declared.level.Part.TheVariants.{Declared, Visible, Proof}
use Rattle.cic_names.specs.Sameness.{same_name}
use Rattle.cic_terms.specs.Tree.{Tree, sort, typ}
use Rattle.gal_grammar.specs.Terms.{Qual, short, long, Raw, prop, set, type_any, type_at, ref, app, arrow, prod, func, let_in, fix_of, match_of, Groups, no_groups, group, Functions, no_functions, function, Branches, no_branches, branch}
use Rattle.gal_scoping.specs.Scopes.{Scope}
use Rattle.gal_scoping.specs.Readings.{unknown, Reading, with_part}
use Rattle.gal_scoping.specs.Names.{named_id, qualified_id, words_of, has_own}

-- `A.u` is there where the library is allowed and declares the level.
abbrev pub declares_level : Scope → GlobalId → Bool
declares_level scope id =
    if same_name scope.library id.lib then has_own scope.own_levels id.name
    else list_any (λ a. if same_name id.lib a.library then has_own a.levels id.name else false) scope.allowed

abbrev pub qualified_level : Scope → (name : List ℕ) → Option GlobalId → Reading GlobalId
qualified_level scope name None = Err (unknown name)
qualified_level scope name (Some id) = if declares_level scope id then Ok id else Err (unknown name)

abbrev pub level_id : Scope → Qual → Reading GlobalId
level_id scope (short place name) = named_id scope.own_levels scope.brought_levels scope.library name
level_id scope (long place name) = qualified_level scope name (qualified_id scope (words_of name))

abbrev pub declared_level : GlobalId → Level
declared_level id = Named (record { lib = id.lib; owner = id.name; part = Declared })

abbrev pub level_named : Scope → Qual → Reading Level
level_named scope x = with_part declared_level (level_id scope x)

abbrev pub at_level : Level → Tree
at_level l = sort (typ (record { level = l; plus = false } ∷ []))

-- Whether anonymous levels belong to an opaque body, and to which declaration.
pub record Owner : Type 0 where
  pub name : List ℕ
  pub opaque : Bool

abbrev pub part_of : (opaque : Bool) → ℕ → Part
part_of opaque n = if opaque then Proof n else Visible n

-- Anonymous level number n of an owner.
abbrev pub anonymous : (library : List ℕ) → Owner → ℕ → Level
anonymous library owner n = Named (record { lib = library; owner = owner.name; part = part_of owner.opaque n })

-- How many times `Type` stands without a level in what is written.
abbrev mutual
  pub types_in : Raw → ℕ
  types_in prop = 0
  types_in set = 0
  types_in type_any = 1
  types_in (type_at x) = 0
  types_in (ref x) = 0
  types_in (app f u) = types_in f + types_in u
  types_in (arrow a b) = types_in a + types_in b
  types_in (prod gs b) = types_in_groups gs + types_in b
  types_in (func gs b) = types_in_groups gs + types_in b
  types_in (let_in x gs a t u) = types_in_groups gs + types_in a + types_in t + types_in u
  types_in (fix_of fs x) = types_in_functions fs
  types_in (match_of v as_ within motive branches) = types_in v + types_in motive + types_in_branches branches

  pub types_in_groups : Groups → ℕ
  types_in_groups no_groups = 0
  types_in_groups (group gs xs a) = types_in_groups gs + types_in a

  pub types_in_functions : Functions → ℕ
  types_in_functions no_functions = 0
  types_in_functions (function fs f gs s a t) = types_in_functions fs + types_in_groups gs + types_in a + types_in t

  pub types_in_branches : Branches → ℕ
  types_in_branches no_branches = 0
  types_in_branches (branch bs c xs t) = types_in_branches bs + types_in t
