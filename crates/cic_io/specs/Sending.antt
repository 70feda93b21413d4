-- What a sink has sent, where it tells that.
use Rattle.std.specs.Prelude.{ℕ, List, Option, Some, ◌≡◌, ◌++◌, IfSome, take}

-- all the bytes were sent after what was sent before
abbrev pub SentAll : Option (List ℕ) → List ℕ → Option (List ℕ) → Type 0
SentAll old bytes new = IfSome old (λ s. new ≡ Some (s ++ bytes))

-- the first bytes, maybe none and maybe all, were sent after what was sent before
abbrev pub SentPart : Option (List ℕ) → List ℕ → Option (List ℕ) → Type 0
SentPart old bytes new = IfSome old (λ s. (count : ℕ) × (new ≡ Some (s ++ take count bytes)))
