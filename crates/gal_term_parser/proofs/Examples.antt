-- Terms, by computation, and what is none.
use Rattle.std.proofs.Common.{◌≡◌, [], ◌∷◌, refl, codes}
use Rattle.gal_lexer.specs.declared.token.Mark.TheVariants as M
use Rattle.gal_grammar.specs.Tokens as T
use Rattle.gal_grammar.specs.Terms.{named, short, prop, ref, app, prod, no_groups, group, bound}
use Rattle.gal_grammar.specs.Rules.{a_term}
use Rattle.gal_grammar.specs.calls.Machine.{Fail, syntax, run}
use Rattle.gal_term_parser.specs.Left.{IsTerm}
use Rattle.gal_term_parser.proofs.Marks.{term_read}

-- f x
an_application : IsTerm (T.ident 0 (codes "f") ∷ T.ident 2 (codes "x") ∷ []) (app (ref (short 0 (codes "f"))) (ref (short 2 (codes "x"))))
an_application = term_read _ _ refl

-- forall x : Prop, x
a_product : IsTerm (T.mark M.Forall ∷ T.ident 7 (codes "x") ∷ T.mark M.Colon ∷ T.mark M.Prop ∷ T.mark M.Comma ∷ T.ident 17 (codes "x") ∷ []) (prod (group no_groups (bound (named 7 (codes "x")) ∷ []) prop) (ref (short 17 (codes "x"))))
a_product = term_read _ _ refl

-- A parenthesis that nothing opens is Syntax at it.
no_term_closes : run (T.mark M.Prop ∷ T.mark M.Close ∷ []) (a_term 0 ∷ []) [] ≡ Fail syntax 1
no_term_closes = refl
