-- How large a graph may be.
use Rattle.std.specs.Prelude.{ℕ, ◌^◌}

-- How many levels there may be.
abbrev pub level_limit : ℕ
level_limit = 2 ^ 20
