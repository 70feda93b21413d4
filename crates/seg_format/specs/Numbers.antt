-- Numbers and ranges of bytes in a library file.
use Rattle.std.specs.Prelude.{ℕ, List, take, drop}
use Rattle.std.specs.Int.{w32, to_be_bytes, from_be_bytes}

-- the four bytes that spell a number, the byte of the highest worth first
unfoldable pub number : ℕ → List ℕ
number n = to_be_bytes w32 n

-- the bytes of a range, by its place and its length
abbrev pub bytes_at : List ℕ → ℕ → ℕ → List ℕ
bytes_at bytes place count = take count (drop place bytes)

-- the number that is spelled at a place
unfoldable pub number_at : List ℕ → ℕ → ℕ
number_at bytes place = from_be_bytes w32 (bytes_at bytes place 4)
