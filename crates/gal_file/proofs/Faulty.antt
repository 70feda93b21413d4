-- The faults of the steps are those of the source.
use Rattle.std.proofs.Common.{ℕ, zero, suc, List, [], ◌∷◌, ◌≡◌, ◌<◌, ◌≤◌, ◌-◌, length, get_or, refl, ap, subst, arith}
use Rattle.std.proofs.lemmas.List.{length-map}
use Rattle.gal_lexer.specs.declared.token.Token.{Token}
use Rattle.gal_lexer.specs.declared.token.LexFault.{LexFault}
use Rattle.gal_lexer.specs.declared.token.LexFault.TheVariants as L
use Rattle.gal_lexer.specs.Tokens.{IsFault}
use Rattle.gal_grammar.specs.Tokens.{spelled, all_spelled}
use Rattle.gal_grammar.specs.Grammar as G
use Rattle.gal_term_parser.specs.declared.fault.Fault.{Fault}
use Rattle.gal_term_parser.specs.declared.fault.Fault.TheVariants as P
use Rattle.gal_term_parser.specs.Faults.{IsFaultOf}
use Rattle.gal_file.specs.Reading.{place_at, IsLexical, IsGrammatical}
use Rattle.gal_file.specs.calls.Faults.{fault_of, placed}

pub lexical : (source : List ℕ) (fault : LexFault) → ((fault ≡ L.NoMemory → ⊥) → IsFault source fault) → IsLexical source (fault_of fault)
lexical source (L.BadChar place) h = h (λ e. cc)
lexical source (L.OpenComment place) h = h (λ e. cc)
lexical source (L.LongName place) h = h (λ e. cc)
lexical source L.NoMemory h = tt

left_over : (source : List ℕ) (tokens : List Token) (left : ℕ) → length (all_spelled source tokens) - left ≡ length tokens - left
left_over source tokens left = ap (λ n. n - left) (length-map tokens (spelled source))

pub grammatical : (source : List ℕ) (tokens : List Token) (fault : Fault) → IsFaultOf G.file G.nothing_said (all_spelled source tokens) fault → IsGrammatical source tokens (placed source tokens fault)
grammatical source tokens (P.Syntax left) h = (length tokens - left, subst (λ n. G.IsSyntax G.file G.nothing_said (all_spelled source tokens) n) (left_over source tokens left) h, refl)
grammatical source tokens (P.Nesting left) h = (length tokens - left, subst (λ n. G.IsNesting G.file G.nothing_said (all_spelled source tokens) n) (left_over source tokens left) h, refl)
grammatical source tokens P.NoMemory h = tt

pub place_in : (source : List ℕ) (tokens : List Token) (i : ℕ) (d : Token) → i < length tokens → place_at source tokens i ≡ (get_or tokens i d).place
place_in source [] i d lt = absurd (omega (arith, lt))
place_in source (t ∷ ts) zero d lt = refl
place_in source (t ∷ ts) (suc i) d lt = place_in source ts i d (omega arith)

pub place_behind : (source : List ℕ) (tokens : List Token) (i : ℕ) → length tokens ≤ i → place_at source tokens i ≡ length source
place_behind source [] i le = refl
place_behind source (t ∷ ts) zero le = absurd (omega (arith, le))
place_behind source (t ∷ ts) (suc i) le = place_behind source ts i (omega arith)
