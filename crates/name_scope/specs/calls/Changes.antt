-- What additions do. Each says for every name what is told of it afterwards, so that the order in which things are kept does not matter.
use Rattle.std.specs.Prelude.{◌≡◌, ◌||◌, ◌&&◌, ◌++◌, ◌∷◌, [], ◌+◌, ℕ, Bool, List, not, filter, fold, false, if◌then◌else◌}
use Rattle.std.specs.List.{list_any}
use Rattle.std.proofs.Math.Bool.{beq}
use Rattle.cic_names.specs.declared.name.GlobalId.{GlobalId}
use Rattle.cic_names.specs.Sameness.{same_name}
use Rattle.gal_scoping.specs.Scopes.{Allowed}
use Rattle.gal_scoping.specs.Readings.{Reading}
use Rattle.gal_scoping.specs.Levels.{Owner}
use Rattle.gal_scoping.specs.Names.{has_own, imported}

-- The name joins the names.
abbrev pub Joins : (name : List ℕ) → (before after : List (List ℕ)) → Type 0
Joins name before after = (other : List ℕ) → has_own after other ≡ (same_name other name || has_own before other)

-- The name is there no more.
abbrev pub Leaves : (name : List ℕ) → (before after : List (List ℕ)) → Type 0
Leaves name before after = (other : List ℕ) → has_own after other ≡ (not (same_name other name) && has_own before other)

-- The names with one more behind them, unless it is there.
abbrev pub with_name : List (List ℕ) → (name : List ℕ) → List (List ℕ)
with_name names name = if has_own names name then names else names ++ name ∷ []

abbrev pub with_names : List (List ℕ) → (more : List (List ℕ)) → List (List ℕ)
with_names names more = fold with_name names more

-- What imports bring for a name, where they brought these ids.
abbrev pub imported_of : (brought : List GlobalId) → (name : List ℕ) → Reading GlobalId
imported_of brought name = imported name (filter (λ id. same_name name id.name) brought)

-- The ids that are kept bring for each name what all of these ids bring.
abbrev pub Brings : (all kept : List GlobalId) → Type 0
Brings all kept = (name : List ℕ) → imported_of kept name ≡ imported_of all name

-- Whether the library's names may be written, and whether it declares the level.
abbrev pub is_allowed : List Allowed → (library : List ℕ) → Bool
is_allowed allowed library = list_any (λ a. same_name library a.library) allowed

abbrev pub is_declared : List Allowed → (level : GlobalId) → Bool
is_declared allowed level = list_any (λ a. if same_name level.lib a.library then has_own a.levels level.name else false) allowed

-- One more library is allowed, which declares these levels.
abbrev pub with_allowed : (library : List ℕ) → (levels : List (List ℕ)) → List Allowed → List Allowed
with_allowed library levels allowed = allowed ++ record { library = library; levels = levels } ∷ []

pub record Allows (library : List ℕ) (levels : List (List ℕ)) (before after : List Allowed) : Type 0 where
  pub libraries : (other : List ℕ) → is_allowed after other ≡ is_allowed (with_allowed library levels before) other
  pub declared : (level : GlobalId) → is_declared after level ≡ is_declared (with_allowed library levels before) level

-- The owner has taken so many levels more, and each other owner as many as before.
abbrev pub is_owner : Owner → Owner → Bool
is_owner a b = same_name a.name b.name && beq a.opaque b.opaque

abbrev pub Takes : Owner → (count : ℕ) → (before after : Owner → ℕ) → Type 0
Takes owner count before after = (other : Owner) → after other ≡ (if is_owner other owner then before other + count else before other)
