-- What stays as it is.
use Rattle.std.specs.Prelude.{◌≡◌}
use Rattle.name_scope.specs.declared.scope.Scope.{Scope as Held}
use Rattle.name_scope.specs.Held.{scope_of, variables_of, taken_of}

-- Nothing has changed.
pub record IsSame (before after : Held) : Type 0 where
  pub scope : scope_of after ≡ scope_of before
  pub variables : variables_of after ≡ variables_of before
  pub taken : taken_of after ≡ taken_of before
