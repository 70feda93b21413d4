-- Lines of a source, in bytes.
use Rattle.std.specs.Prelude.{ℕ, Bool, List, ◌==◌, ◌+◌, not, count_by, reverse}
use Rattle.std.specs.List.{prefix_len}

-- A carriage return ends no line.
abbrev pub is_line_feed : ℕ → Bool
is_line_feed b = b == 10

-- the line, from 1, on which what stands behind these bytes begins
abbrev pub line_behind : List ℕ → ℕ
line_behind before = count_by is_line_feed before + 1

-- how many of these bytes stand behind the last line feed
abbrev pub column_behind : List ℕ → ℕ
column_behind before = prefix_len (λ b. not (is_line_feed b)) (reverse before)
