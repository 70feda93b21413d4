-- Marks as the code looks them up.
use Rattle.std.specs.Prelude.{ℕ, Option, Some, None}
use Rattle.cic_rules.specs.Guard.{Mark, plain, function}

-- A mark that was looked up, where none is found of a plain variable.
abbrev pub mark_or_plain : Option Mark → Mark
mark_or_plain None = plain
mark_or_plain (Some m) = m

-- The function that a variable with this mark is.
abbrev pub function_of_mark : Mark → Option ℕ
function_of_mark (function j) = Some j
function_of_mark m = None
