-- The symbols and the reserved words. Coq Reference Manual, "Lexical conventions", keywords and other tokens.
use Rattle.std.specs.Prelude.{ℕ, Bool, true, false, List, [], ◌∷◌, Option, Some, None, ◌==◌, ◌&&◌, if◌then◌else◌, codes}
use Rattle.std.specs.Str.{bytes_eq}
use Rattle.gal_lexer.specs.declared.token.Mark.{Mark}
use Rattle.gal_lexer.specs.declared.token.Mark.TheVariants as M

-- how each of them is written
abbrev pub spelling : Mark → List ℕ
spelling M.Assign = codes ":="
spelling M.Gives = codes "=>"
spelling M.Arrow = codes "->"
spelling M.AtMost = codes "<="
spelling M.LevelOpen = codes "@{"
spelling M.Open = codes "("
spelling M.Close = codes ")"
spelling M.BraceOpen = codes "{"
spelling M.BraceClose = codes "}"
spelling M.Comma = codes ","
spelling M.Colon = codes ":"
spelling M.Bar = codes "|"
spelling M.At = codes "@"
spelling M.Equal = codes "="
spelling M.Less = codes "<"
spelling M.Blank = codes "_"
spelling M.Stop = codes "."
spelling M.Prop = codes "Prop"
spelling M.Set = codes "Set"
spelling M.Typ = codes "Type"
spelling M.Forall = codes "forall"
spelling M.Fun = codes "fun"
spelling M.Let = codes "let"
spelling M.In = codes "in"
spelling M.Fix = codes "fix"
spelling M.With = codes "with"
spelling M.For = codes "for"
spelling M.Match = codes "match"
spelling M.As = codes "as"
spelling M.Return = codes "return"
spelling M.End = codes "end"

-- The symbols, the longest first. The dot and `_` have rules of their own.
abbrev pub symbols : List Mark
symbols =
    M.Assign ∷ M.Gives ∷ M.Arrow ∷ M.AtMost ∷ M.LevelOpen ∷ M.Open ∷ M.Close ∷ M.BraceOpen ∷ M.BraceClose ∷ M.Comma
    ∷ M.Colon ∷ M.Bar ∷ M.At ∷ M.Equal ∷ M.Less ∷ []

-- the reserved words, and the single `_`
abbrev pub reserved : List Mark
reserved =
    M.Prop ∷ M.Set ∷ M.Typ ∷ M.Forall ∷ M.Fun ∷ M.Let ∷ M.In ∷ M.Fix ∷ M.With ∷ M.For ∷ M.Match ∷ M.As ∷ M.Return
    ∷ M.End ∷ M.Blank ∷ []

-- the first of the marks that passes
abbrev pub first_of : (Mark → Bool) → List Mark → Option Mark
first_of p [] = None
first_of p (m ∷ ms) = if p m then Some m else first_of p ms

-- the text begins with these bytes
abbrev pub begins_with : List ℕ → List ℕ → Bool
begins_with [] s = true
begins_with (a ∷ w) [] = false
begins_with (a ∷ w) (b ∷ s) = (b == a) && begins_with w s

-- the longest symbol that the text begins with
abbrev pub symbol_of : List ℕ → Option Mark
symbol_of s = first_of (λ m. begins_with (spelling m) s) symbols

-- the reserved word that these bytes are
abbrev pub reserved_of : List ℕ → Option Mark
reserved_of w = first_of (λ m. bytes_eq w (spelling m)) reserved
