-- First words of commands and faults of files, by computation, and what is none.
use Rattle.std.proofs.Common.{◌≡◌, [], ◌∷◌, Some, None, refl, codes}
use Rattle.gal_lexer.specs.declared.token.Mark.TheVariants as M
use Rattle.gal_grammar.specs.Tokens as T
use Rattle.gal_grammar.specs.Values.{commands}
use Rattle.gal_grammar.specs.Grammar.{file, nothing_said}
use Rattle.gal_grammar.proofs.Exact.{found, syntax_fault}
use Rattle.gal_term_parser.specs.declared.fault.Fault.TheVariants.{Syntax}
use Rattle.gal_term_parser.specs.Faults.{IsFaultOf}
use Rattle.gal_file_parser.specs.declared.openings.Opening.TheVariants as O
use Rattle.gal_file_parser.specs.calls.Openings.{opening_of}

a_first_word : opening_of (codes "Hypothesis") ≡ Some O.Variable
a_first_word = refl

no_first_word : opening_of (codes "hypothesis") ≡ None
no_first_word = refl

-- Section Prop
a_fault : IsFaultOf file nothing_said (T.ident 0 (codes "Section") ∷ T.mark M.Prop ∷ []) (Syntax 1)
a_fault = syntax_fault _ 1 refl

-- A file of no commands has no fault.
no_fault : IsFaultOf file nothing_said [] (Syntax 0) → ⊥
no_fault h = h.no_reading 0 (commands [] ∷ []) (found [] [] refl)
