-- How the end of a comment is found, one byte after the other.
use Rattle.std.specs.Prelude.{ℕ, Bool, List, [], ◌∷◌, ◌+◌, ◌-◌, ◌==◌, ◌&&◌, Option, Some, None, if◌then◌else◌}

-- What is left behind a comment within so many comments. The byte before is given, or 0 where it is part of an opening or a closing.
abbrev pub comment_end : ℕ → ℕ → List ℕ → Option (List ℕ)
comment_end d last [] = None
comment_end d last (b ∷ s) =
    if last == 40 && b == 42 then comment_end (d + 1) 0 s
    else (if last == 42 && b == 41 then (if d == 1 then Some s else comment_end (d - 1) 0 s) else comment_end d b s)
