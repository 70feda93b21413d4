-- What the code of a parser asks of the next tokens, and of what is wanted behind a part.
use Rattle.std.specs.Prelude.{ℕ, suc, Bool, true, false, cond, List, [], ◌∷◌, Option, Some, None, length}
use Rattle.gal_grammar.specs.Tokens.{Token}
use Rattle.gal_grammar.specs.Tokens as T
use Rattle.gal_lexer.specs.declared.token.Mark.TheVariants as M
use Rattle.gal_grammar.specs.Tests.{passes}
use Rattle.gal_grammar.specs.Kinds.{Row, row, Want, tok, act, nt, fix_tail}
use Rattle.gal_grammar.specs.Rules.{rules, may_be_none}
use Rattle.gal_grammar.specs.Grammar.{pick}

abbrev pub owns_or : Option Row → Option Bool → Option Bool
owns_or (Some r) o = Some true
owns_or None o = o

-- whether a `with` that no function follows can come
abbrev pub owner : List Want → Option Bool
owner [] = Some false
owner (tok c ∷ k) = cond (passes c (T.mark M.With)) None (Some false)
owner (act a ∷ k) = owner k
owner (fix_tail d ∷ k) = owner k
owner (nt d n ∷ k) = owns_or (pick (rules d n) (T.mark M.With)) (cond (may_be_none n) (owner k) (Some false))

-- how many tokens are left where a `with` that nothing can take is refused: behind the identifier that may follow it
abbrev pub with_left : List Token → ℕ
with_left [] = 0
with_left (T.ident p x ∷ s) = length s
with_left (t ∷ s) = suc (length s)

abbrev pub begins_open : List Token → Bool
begins_open (T.mark M.Open ∷ s) = true
begins_open _ = false

abbrev pub begins_product : List Token → Bool
begins_product (T.mark M.Forall ∷ s) = true
begins_product (T.mark M.Fun ∷ s) = true
begins_product (T.mark M.Let ∷ s) = true
begins_product (T.mark M.Fix ∷ s) = true
begins_product _ = false

abbrev pub begins_atom : List Token → Bool
begins_atom (T.ident p x ∷ s) = true
begins_atom (T.path p x ∷ s) = true
begins_atom (T.mark M.At ∷ s) = true
begins_atom (T.mark M.Prop ∷ s) = true
begins_atom (T.mark M.Set ∷ s) = true
begins_atom (T.mark M.Typ ∷ s) = true
begins_atom (T.mark M.Open ∷ s) = true
begins_atom (T.mark M.Match ∷ s) = true
begins_atom _ = false

abbrev pub begins_term : List Token → Bool
begins_term s = cond (begins_product s) true (begins_atom s)

abbrev pub begins_arrow : List Token → Bool
begins_arrow (T.mark M.Arrow ∷ s) = true
begins_arrow _ = false

abbrev pub begins_with : List Token → Bool
begins_with (T.mark M.With ∷ s) = true
begins_with _ = false

abbrev pub begins_brace : List Token → Bool
begins_brace (T.mark M.BraceOpen ∷ s) = true
begins_brace _ = false

abbrev pub begins_bar : List Token → Bool
begins_bar (T.mark M.Bar ∷ s) = true
begins_bar _ = false

abbrev pub begins_end : List Token → Bool
begins_end (T.mark M.End ∷ s) = true
begins_end _ = false
