-- Comments, which nest. Coq Reference Manual, "Lexical conventions", comments.
use Rattle.std.specs.Prelude.{ℕ, Bool, true, false, List, [], ◌∷◌, ◌≡◌, ◌==◌, ◌&&◌}

-- `(*`
abbrev pub begins_comment : List ℕ → Bool
begins_comment (b ∷ c ∷ s) = b == 40 && c == 42
begins_comment _ = false

-- `*)`
abbrev pub ends_comment : List ℕ → Bool
ends_comment (b ∷ c ∷ s) = b == 42 && c == 41
ends_comment _ = false

-- The text s goes on with the inside of a comment and its closing, and then with r.
pub data Inside : List ℕ → List ℕ → Type 0 where
  closing : {b c : ℕ} {r : List ℕ} → ends_comment (b ∷ c ∷ r) ≡ true → Inside (b ∷ c ∷ r) r
  nested : {b c : ℕ} {s t r : List ℕ} → begins_comment (b ∷ c ∷ s) ≡ true → Inside s t → Inside t r → Inside (b ∷ c ∷ s) r
  further : {b : ℕ} {s r : List ℕ} →
      begins_comment (b ∷ s) ≡ false → ends_comment (b ∷ s) ≡ false → Inside s r → Inside (b ∷ s) r

-- no closing is to come
abbrev pub IsUnclosed : List ℕ → Type 0
IsUnclosed s = (r : List ℕ) → Inside s r → ⊥
