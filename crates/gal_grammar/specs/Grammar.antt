-- What the tokens of a file are, and where reading them fails.
use Rattle.std.specs.Prelude.{ℕ, suc, Bool, true, false, cond, List, [], ◌∷◌, ◌++◌, ◌≡◌, ◌≤◌, ◌<◌, ◌+◌, Option, Some, None, length, take, nat_le}
use Rattle.gal_grammar.specs.Tokens.{Token}
use Rattle.gal_grammar.specs.Tokens as T
use Rattle.gal_lexer.specs.declared.token.Mark.TheVariants as M
use Rattle.gal_grammar.specs.Commands.{Command}
use Rattle.gal_grammar.specs.Tests.{Test, passes}
use Rattle.gal_grammar.specs.Values.{puts, Val, commands}
use Rattle.gal_grammar.specs.Actions.{Act, makes}
use Rattle.gal_grammar.specs.Kinds.{Row, row, Kind, k_file, k_term, k_function, k_functions, Want, tok, act, nt, fix_tail}
use Rattle.gal_grammar.specs.Rules.{rules, may_be_none}

-- the first row whose test the token passes
abbrev pub pick : List Row → Token → Option Row
pick [] t = None
pick (row c p ∷ rs) t = cond (passes c t) (Some (row c p)) (pick rs t)

-- an identifier and an opening bracket
abbrev pub begins_function : List Token → Bool
begins_function (T.ident p x ∷ T.mark M.Open ∷ s) = true
begins_function _ = false

-- the word `with`, and a function behind it
abbrev pub begins_with_function : List Token → Bool
begins_with_function (T.mark M.With ∷ s) = begins_function s
begins_with_function _ = false

abbrev pub deepest_nesting : ℕ
deepest_nesting = 500

-- a term past the deepest nesting
abbrev pub is_deep : ℕ → Kind → Bool
is_deep d k_term = nat_le (suc deepest_nesting) d
is_deep d _ = false

-- The tokens s are those that the wants ask for, one after the other, and make the values f of the values vs.
-- A term past the deepest nesting begins only among the last `late` tokens.
pub data Reads (late : ℕ) : List Want → List Val → List Token → List Val → Type 0 where
  at_end : {f : List Val} → Reads late [] f [] f
  token : {c : Test} {k : List Want} {vs f : List Val} {t : Token} {s : List Token} →
      passes c t ≡ true → Reads late k (puts c t vs) s f → Reads late (tok c ∷ k) vs (t ∷ s) f
  action : {a : Act} {k : List Want} {vs f : List Val} {s : List Token} →
      Reads late k (makes a vs) s f → Reads late (act a ∷ k) vs s f
  by_row : {d : ℕ} {n : Kind} {c : Test} {p k : List Want} {vs f : List Val} {t : Token} {s : List Token} →
      pick (rules d n) t ≡ Some (row c p) → (is_deep d n ≡ true → length (t ∷ s) ≤ late) →
      Reads late (p ++ k) (puts c t vs) s f → Reads late (nt d n ∷ k) vs (t ∷ s) f
  by_none : {d : ℕ} {n : Kind} {k : List Want} {vs f : List Val} {s : List Token} →
      may_be_none n ≡ true → Reads late k vs s f → Reads late (nt d n ∷ k) vs s f
  -- the last body of a fix reaches up to s, so what follows is no function of this fix
  no_more : {d : ℕ} {k : List Want} {vs f : List Val} {s : List Token} →
      begins_with_function s ≡ false → Reads late k vs s f → Reads late (fix_tail d ∷ k) vs s f
  one_more : {d : ℕ} {k : List Want} {vs f : List Val} {s : List Token} →
      Reads late (nt d k_function ∷ nt d k_functions ∷ k) vs s f → Reads late (fix_tail d ∷ k) vs (T.mark M.With ∷ s) f

abbrev pub file : List Want
file = nt 0 k_file ∷ []

abbrev pub nothing_said : List Val
nothing_said = commands [] ∷ []

-- a file of these commands
abbrev pub File : List Token → List Command → Type 0
File s cs = Reads 0 file nothing_said s (commands cs ∷ [])

-- In what follows `said` are the values before the wants are read; those of a file are `file` and `nothing_said`.
module _ (wants : List Want) (said : List Val) where
  -- what is wanted begins with these tokens, and terms past the deepest nesting begin in it only behind them and the given number of tokens before
  abbrev pub Begins : ℕ → List Token → Type 0
  Begins n s = (x : List Token) × (f : List Val) × Reads (n + length x) wants said (s ++ x) f

  -- whatever the nesting
  abbrev pub BeginsNothing : List Token → Type 0
  BeginsNothing s = (late : ℕ) (x : List Token) (f : List Val) → Reads late wants said (s ++ x) f → ⊥

  -- the first token such that nothing that is wanted begins with the tokens up to and with it, or the end where more is needed
  pub record IsSyntax (s : List Token) (place : ℕ) : Type 0 where
    pub inside : place ≤ length s
    pub before : Begins 0 (take place s)
    pub with_it : place < length s → BeginsNothing (take (place + 1) s)
    pub no_reading : (late : ℕ) (f : List Val) → Reads late wants said s f → ⊥

  -- the first token of the first term past the deepest nesting
  pub record IsNesting (s : List Token) (place : ℕ) : Type 0 where
    pub inside : place < length s
    pub before : Begins 0 (take place s)
    pub deep : Begins 1 (take (place + 1) s)
    pub with_it : Begins 0 (take (place + 1) s) → ⊥
    pub no_reading : (f : List Val) → Reads 0 wants said s f → ⊥
