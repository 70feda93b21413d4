-- The machine: it reads one token after the other, and holds what is still wanted and the values so far.
use Rattle.std.specs.Prelude.{ℕ, suc, Bool, true, false, cond, List, [], ◌∷◌, ◌++◌, ◌≡◌, Option, Some, None, length}
use Rattle.gal_grammar.specs.Tokens.{Token}
use Rattle.gal_grammar.specs.Tokens as T
use Rattle.gal_lexer.specs.declared.token.Mark.TheVariants as M
use Rattle.gal_grammar.specs.Terms.{named}
use Rattle.gal_grammar.specs.Tests.{Test, ident, passes}
use Rattle.gal_grammar.specs.Values.{puts, Val, a_name}
use Rattle.gal_grammar.specs.Actions.{Act, makes}
use Rattle.gal_grammar.specs.Kinds.{Row, row, Kind, k_term, k_function, k_functions, Want, tok, act, nt, fix_tail}
use Rattle.gal_grammar.specs.Rules.{rules, may_be_none, function_behind, function_rest}
use Rattle.gal_grammar.specs.Actions.{push}
use Rattle.gal_grammar.specs.Values.{groups}
use Rattle.gal_grammar.specs.Terms.{no_groups}
use Rattle.gal_grammar.specs.Grammar.{pick, is_deep}

pub data Why : Type 0 where
  syntax : Why
  nesting : Why

-- how a reading ends: all is read, or it fails with so many tokens left
pub data Outcome : Type 0 where
  Read : List Val → Outcome
  Fail : Why → ℕ → Outcome

-- what is read behind a `with` whose owner is open, above what is wanted behind the fix: nothing yet, or an identifier
pub data Mode : Type 0 where
  plainly : Mode
  asked : ℕ → Mode
  asked_name : ℕ → ℕ → List ℕ → Mode

abbrev pub Go : Type 0
Go = Mode → List Want → List Val → Outcome

-- how a token is looked at: as any; as a `with` that belongs further out; as what stands behind that
pub data Look : Type 0 where
  usual : Look
  outer : Look
  behind : Look

abbrev pub is_with : Token → Bool
is_with (T.mark M.With) = true
is_with _ = false

-- whether it has to be asked to which fix a `with` belongs
abbrev pub asks : Look → Token → Bool
asks outer t = false
asks _ t = is_with t

-- no term stands behind a `with`
abbrev pub refuses : Look → Kind → Bool
refuses behind k_term = true
refuses _ _ = false

abbrev pub chosen : Option Row → (Test → List Want → Outcome) → Outcome → Outcome
chosen (Some (row c p)) go bad = go c p
chosen None go bad = bad

-- one token
abbrev pub step : Look → List Want → Token → Go → (Why → Outcome) → List Val → Outcome
step u [] t go bad vs = bad syntax
step u (tok c ∷ k) t go bad vs = cond (passes c t) (go plainly k (puts c t vs)) (bad syntax)
step u (act a ∷ k) t go bad vs = step u k t go bad (makes a vs)
step u (fix_tail d ∷ k) t go bad vs = cond (asks u t) (go (asked d) k vs) (step u k t go bad vs)
step u (nt d n ∷ k) t go bad vs =
    cond (refuses u n) (bad syntax)
    (chosen (pick (rules d n) t)
    (λ c p. cond (is_deep d n) (bad nesting) (go plainly (p ++ k) (puts c t vs)))
    (cond (may_be_none n) (step u k t go bad vs) (bad syntax)))

-- behind a `with` that belongs further out
abbrev pub answer : Token → List Want → Go → (Why → Outcome) → List Val → Outcome
answer t k go bad vs = step outer k (T.mark M.With) (λ m k' vs'. step behind k' t go bad vs') bad vs

abbrev pub advance : Mode → List Want → Token → Go → (Why → Outcome) → List Val → Outcome
advance plainly k t go bad vs = step usual k t go bad vs
advance (asked d) k (T.ident p x) go bad vs = go (asked_name d p x) k vs
advance (asked d) k t go bad vs = answer t k go bad vs
advance (asked_name d p x) k (T.mark M.Open) go bad vs =
    go plainly (function_rest d ++ (nt d k_functions ∷ k)) (groups no_groups ∷ a_name (named p x) ∷ vs)
advance (asked_name d p x) k t go bad vs = answer (T.ident p x) k (λ m k' vs'. step usual k' t go bad vs') bad vs

-- the end of the tokens
abbrev pub finish : List Want → List Val → Outcome
finish [] vs = Read vs
finish (tok c ∷ k) vs = Fail syntax 0
finish (act a ∷ k) vs = finish k (makes a vs)
finish (fix_tail d ∷ k) vs = finish k vs
finish (nt d n ∷ k) vs = cond (may_be_none n) (finish k vs) (Fail syntax 0)

abbrev pub ends : Mode → List Want → List Val → Outcome
ends plainly k vs = finish k vs
ends _ k vs = Fail syntax 0

abbrev pub runs : List Token → Mode → List Want → List Val → Outcome
runs [] m k vs = ends m k vs
runs (t ∷ s) m k vs = advance m k t (λ m' k' vs'. runs s m' k' vs') (λ w. Fail w (suc (length s))) vs

abbrev pub run : List Token → List Want → List Val → Outcome
run s k vs = runs s plainly k vs
