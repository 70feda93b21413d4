-- What is read for names of libraries that are not allowed.
use Rattle.std.proofs.Common.{◌≡◌, ℕ, true, false, ◌||◌, List, [], ◌∷◌, refl, ap, ◌∙◌, if◌then◌else◌}
use Rattle.std.specs.Prelude.{Some, Ok, Err}
use Rattle.cic_names.specs.declared.name.GlobalId.{GlobalId}
use Rattle.cic_names.specs.Sameness.{same_name}
use Rattle.gal_scoping.specs.Scopes.{Scope, Allowed}
use Rattle.gal_scoping.specs.Readings.{unknown}
use Rattle.gal_scoping.specs.Names.{has_own}
use Rattle.gal_scoping.specs.Levels.{qualified_level}
use Rattle.name_scope.specs.calls.Changes.{is_allowed, is_declared}

-- A library that is not allowed declares no level.
pub unknown_level : (scope : Scope) (written : List ℕ) (id : GlobalId) → same_name scope.library id.lib ≡ false → is_allowed scope.allowed id.lib ≡ false → qualified_level scope written (Some id) ≡ Err (unknown written)
unknown_level scope written id other absent =
    ap (λ b. if (if b then has_own scope.own_levels id.name else is_declared scope.allowed id) then Ok id else Err (unknown written)) other
    ∙ ap (λ b. if b then Ok id else Err (unknown written)) (undeclared scope.allowed absent)
  where
    undeclared : (allowed : List Allowed) → is_allowed allowed id.lib ≡ false → is_declared allowed id ≡ false
    undeclared [] e = refl
    undeclared (a ∷ allowed) e = elim (same_name id.lib a.library) as (λ b. (b || is_allowed allowed id.lib) ≡ false → ((if b then has_own a.levels id.name else false) || is_declared allowed id) ≡ false) [
      | true ↦ λ h. absurd (cc)
      | false ↦ λ h. undeclared allowed h
    ] e
