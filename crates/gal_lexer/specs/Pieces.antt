-- The pieces of a source: blanks, comments and tokens. Coq Reference Manual, "Lexical conventions".
use Rattle.std.specs.Prelude.{ℕ, Bool, true, false, List, [], ◌∷◌, ◌++◌, ◌≡◌, ◌≤◌, ◌<◌, ◌+◌, ◌-◌, ◌==◌, ◌||◌, ◌&&◌, Option, Some, None, length, take, drop, if◌then◌else◌}
use Rattle.std.specs.Str.{IsUtf8, IsValidUpTo}
use Rattle.cic_names.specs.Identifier.{is_first}
use Rattle.gal_lexer.specs.declared.token.Mark.{Mark}
use Rattle.gal_lexer.specs.declared.token.Mark.TheVariants as M
use Rattle.gal_lexer.specs.declared.token.Kind.{Kind}
use Rattle.gal_lexer.specs.declared.token.Kind.TheVariants as K
use Rattle.gal_lexer.specs.declared.token.LexFault.{LexFault}
use Rattle.gal_lexer.specs.declared.token.LexFault.TheVariants as F
use Rattle.gal_lexer.specs.Marks.{spelling, symbol_of, reserved_of}
use Rattle.gal_lexer.specs.Words.{StartsWithNo, Word}
use Rattle.gal_lexer.specs.Comments.{begins_comment, Inside, IsUnclosed}

-- space, tab, line feed or carriage return
abbrev pub is_blank : ℕ → Bool
is_blank b = b == 32 || b == 9 || b == 10 || b == 13

abbrev pub begins_blank : List ℕ → Bool
begins_blank [] = false
begins_blank (b ∷ s) = is_blank b

-- what stands behind a dot that ends a sentence: nothing, a blank or a comment
abbrev pub ends_sentence : List ℕ → Bool
ends_sentence [] = true
ends_sentence (b ∷ s) = is_blank b || begins_comment (b ∷ s)

-- a dot that ends a sentence
abbrev pub begins_stop : List ℕ → Bool
begins_stop [] = false
begins_stop (b ∷ s) = b == 46 && ends_sentence s

abbrev pub longest_name : ℕ
longest_name = 255

-- The first n bytes are an identifier, whatever its length: a word that is not reserved.
pub record Identifier (n : ℕ) (s : List ℕ) : Type 0 where
  pub word : Word n s
  pub free : reserved_of (take n s) ≡ None

-- the same behind a dot
pub record Joined (n : ℕ) (s : List ℕ) : Type 0 where
  pub rest : List ℕ
  pub dot : s ≡ 46 ∷ rest
  pub identifier : Identifier n rest

-- no further part of a name follows
abbrev pub NoPart : List ℕ → Type 0
NoPart s = (n : ℕ) → Joined n s → ⊥

-- The first n bytes are parts of a qualified name, each a dot and an identifier of at most 255 bytes.
pub data Parts (s : List ℕ) : ℕ → Type 0 where
  none : Parts s 0
  further : {m n k : ℕ} → Parts s m → Joined n (drop m s) → n ≤ longest_name → k ≡ m + (1 + n) → Parts s k

-- an identifier stands alone, or parts follow
abbrev pub name_kind : ℕ → Kind
name_kind m = if m == 0 then K.Ident else K.Qualified

-- The first n bytes are a blank or a comment, or a token of the kind.
pub data Piece : Option Kind → ℕ → List ℕ → Type 0 where
  blank : {s : List ℕ} → begins_blank s ≡ true → Piece None 1 s
  comment : {n : ℕ} {s : List ℕ} →
      begins_comment s ≡ true → Inside (drop 2 s) (drop n s) → n ≤ length s → IsUtf8 (take n s) → Piece None n s
  symbol : {n : ℕ} {s : List ℕ} {m : Mark} →
      begins_comment s ≡ false → symbol_of s ≡ Some m → n ≡ length (spelling m) → Piece (Some (K.Mark m)) n s
  stop : {s : List ℕ} → begins_stop s ≡ true → Piece (Some (K.Mark M.Stop)) 1 s
  reserved : {n : ℕ} {s : List ℕ} {m : Mark} → Word n s → reserved_of (take n s) ≡ Some m → Piece (Some (K.Mark m)) n s
  name : {m n k : ℕ} {s : List ℕ} {kind : Kind} →
      Identifier n s → n ≤ longest_name → Parts (drop n s) m → NoPart (drop m (drop n s)) → k ≡ n + m → kind ≡ name_kind m →
      Piece (Some kind) k s

-- Why no piece begins the text, with the place of the fault in it.
pub data NoPiece : LexFault → List ℕ → Type 0 where
  unclosed : {s : List ℕ} → begins_comment s ≡ true → IsUnclosed (drop 2 s) → NoPiece (F.OpenComment 0) s
  -- a byte of a comment is not UTF-8
  bad_comment : {n k : ℕ} {s : List ℕ} →
      begins_comment s ≡ true → Inside (drop 2 s) (drop n s) → n ≤ length s → IsValidUpTo (take n s) k → NoPiece (F.BadChar k) s
  long_identifier : {n : ℕ} {s : List ℕ} → Identifier n s → longest_name < n → NoPiece (F.LongName 0) s
  long_part : {l m n k : ℕ} {s : List ℕ} →
      Identifier n s → n ≤ longest_name → Parts (drop n s) m → Joined l (drop m (drop n s)) → longest_name < l → k ≡ n + (m + 1) →
      NoPiece (F.LongName k) s
  no_start : {s : List ℕ} →
      begins_blank s ≡ false → begins_comment s ≡ false → symbol_of s ≡ None → begins_stop s ≡ false → StartsWithNo is_first s →
      NoPiece (F.BadChar 0) s
