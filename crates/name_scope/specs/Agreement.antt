-- Scopes that answer alike.
use Rattle.std.specs.Prelude.{◌≡◌, ℕ, List}
use Rattle.cic_names.specs.declared.name.GlobalId.{GlobalId}
use Rattle.gal_scoping.specs.Scopes.{Scope}
use Rattle.gal_scoping.specs.Names.{has_own}
use Rattle.name_scope.specs.calls.Changes.{Brings, is_allowed, is_declared}

-- Whatever is asked of names is told alike by both. So what is kept may stand for all that was added.
pub record Agrees (all kept : Scope) : Type 0 where
  pub library : kept.library ≡ all.library
  pub prefix : kept.prefix ≡ all.prefix
  pub libraries : (library : List ℕ) → is_allowed kept.allowed library ≡ is_allowed all.allowed library
  pub declared : (level : GlobalId) → is_declared kept.allowed level ≡ is_declared all.allowed level
  pub brought : Brings all.brought kept.brought
  pub brought_levels : Brings all.brought_levels kept.brought_levels
  pub own : (name : List ℕ) → has_own kept.own name ≡ has_own all.own name
  pub own_levels : (name : List ℕ) → has_own kept.own_levels name ≡ has_own all.own_levels name
