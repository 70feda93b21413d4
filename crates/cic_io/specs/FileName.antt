-- Which bytes are the name of a file.
use Rattle.std.specs.Prelude.{ℕ, List, ◌≤◌, ◌≢◌, length, Contains, codes, IsUtf8}

-- a text of 1 to 300 bytes without a slash and without a zero byte, other than `.` and `..`
pub record IsFileName (bytes : List ℕ) : Type 0 where
  pub is_text : IsUtf8 bytes
  pub not_empty : 1 ≤ length bytes
  pub not_long : length bytes ≤ 300
  pub no_slash : ¬ Contains bytes 47
  pub no_zero : ¬ Contains bytes 0
  pub not_here : bytes ≢ codes "."
  pub not_above : bytes ≢ codes ".."
