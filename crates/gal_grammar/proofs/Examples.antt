-- Files that the machine reads, by computation.
use Rattle.std.proofs.Common.{ℕ, List, [], ◌∷◌, ◌++◌, ◌≡◌, Option, Some, None, refl, codes}
use Rattle.gal_grammar.specs.Tokens.{Token}
use Rattle.gal_grammar.specs.Tokens as T
use Rattle.gal_grammar.specs.Terms.{named, short, long, bound, prop, ref, app, no_groups, group, fix_of, no_functions, function, match_of, no_branches, branch}
use Rattle.gal_grammar.specs.Commands.{axiom_of, definition, require, plain, import, fixpoint, theorem, proof, not_said, using_all, qed, defined}
use Rattle.gal_grammar.specs.Values.{commands, term}
use Rattle.gal_lexer.specs.declared.token.Mark.TheVariants as M
use Rattle.gal_grammar.specs.Grammar.{file, nothing_said}
use Rattle.gal_grammar.specs.Kinds.{nt, k_term}
use Rattle.gal_grammar.specs.calls.Machine.{Read, Fail, syntax, nesting, run}

-- Axiom a : Prop.
axiom_read : run (T.ident 0 (codes "Axiom") ∷ T.ident 6 (codes "d") ∷ T.mark M.Colon ∷ T.mark M.Prop ∷ T.mark M.Stop ∷ []) file nothing_said
    ≡ Read (commands (axiom_of (group no_groups (bound (named 6 (codes "d")) ∷ []) prop) ∷ []) ∷ [])
axiom_read = refl

-- Definition d : Prop := fix f (n : Prop) : Prop := n
fix_so_far : List Token
fix_so_far = T.ident 0 (codes "Definition") ∷ T.ident 1 (codes "d") ∷ T.mark M.Colon ∷ T.mark M.Prop ∷ T.mark M.Assign ∷ T.mark M.Fix ∷ T.ident 2 (codes "f") ∷ T.mark M.Open ∷ T.ident 3 (codes "n") ∷ T.mark M.Colon ∷ T.mark M.Prop ∷ T.mark M.Close ∷ T.mark M.Colon ∷ T.mark M.Prop ∷ T.mark M.Assign ∷ T.ident 4 (codes "n") ∷ []

-- .. with O => : Syntax at the arrow, since with O ( could follow
with_is_late : run (fix_so_far ++ (T.mark M.With ∷ T.ident 5 (codes "O") ∷ T.mark M.Gives ∷ T.mark M.Stop ∷ [])) file nothing_said ≡ Fail syntax 2
unfolding fix_so_far
with_is_late = refl

fix_read : run (fix_so_far ++ (T.mark M.Stop ∷ [])) file nothing_said
    ≡ Read (commands (definition (named 1 (codes "d")) no_groups prop (fix_of (function no_functions (named 2 (codes "f")) (group no_groups (bound (named 3 (codes "n")) ∷ []) prop) None prop (ref (short 4 (codes "n")))) None) ∷ []) ∷ [])
unfolding fix_so_far
fix_read = refl

-- Definition d : Prop := match fix f (n : Prop) : Prop := n return Prop with O => n end. The match may take a with that no function follows.
match_read : run (T.ident 0 (codes "Definition") ∷ T.ident 1 (codes "d") ∷ T.mark M.Colon ∷ T.mark M.Prop ∷ T.mark M.Assign ∷ T.mark M.Match ∷ T.ident 2 (codes "f") ∷ T.mark M.Return ∷ T.mark M.Prop ∷ T.mark M.With ∷ T.ident 3 (codes "O") ∷ T.mark M.Gives ∷ T.ident 4 (codes "f") ∷ T.mark M.End ∷ T.mark M.Stop ∷ []) file nothing_said
    ≡ Read (commands (definition (named 1 (codes "d")) no_groups prop (match_of (ref (short 2 (codes "f"))) None None prop (branch no_branches (short 3 (codes "O")) [] (ref (short 4 (codes "f"))))) ∷ []) ∷ [])
match_read = refl

-- Require Import A.b. From B Require C. The places are the numbers of the tokens.
require_read : run (T.ident 0 (codes "Require") ∷ T.ident 1 (codes "Import") ∷ T.path 2 (codes "A.b") ∷ T.mark M.Stop ∷ T.ident 4 (codes "From") ∷ T.ident 5 (codes "B") ∷ T.ident 6 (codes "Require") ∷ T.ident 7 (codes "C") ∷ T.mark M.Stop ∷ []) file nothing_said
    ≡ Read (commands (require None import (long 2 (codes "A.b") ∷ []) ∷ require (Some (named 5 (codes "B"))) plain (short 7 (codes "C") ∷ []) ∷ []) ∷ [])
require_read = refl

-- The inner fix takes the `with`. Fixpoint f (n : Prop) : Prop := fix g (m : Prop) : Prop := m with h (k : Prop) : Prop := k for g.
inner_with : run (T.ident 0 (codes "Fixpoint") ∷ T.ident 1 (codes "f") ∷ T.mark M.Open ∷ T.ident 3 (codes "n") ∷ T.mark M.Colon ∷ T.mark M.Prop ∷ T.mark M.Close ∷ T.mark M.Colon ∷ T.mark M.Prop ∷ T.mark M.Assign ∷ T.mark M.Fix ∷ T.ident 11 (codes "g") ∷ T.mark M.Open ∷ T.ident 13 (codes "m") ∷ T.mark M.Colon ∷ T.mark M.Prop ∷ T.mark M.Close ∷ T.mark M.Colon ∷ T.mark M.Prop ∷ T.mark M.Assign ∷ T.ident 20 (codes "m") ∷ T.mark M.With ∷ T.ident 22 (codes "h") ∷ T.mark M.Open ∷ T.ident 24 (codes "k") ∷ T.mark M.Colon ∷ T.mark M.Prop ∷ T.mark M.Close ∷ T.mark M.Colon ∷ T.mark M.Prop ∷ T.mark M.Assign ∷ T.ident 31 (codes "k") ∷ T.mark M.For ∷ T.ident 33 (codes "g") ∷ T.mark M.Stop ∷ []) file nothing_said
    ≡ Read (commands (fixpoint (function no_functions (named 1 (codes "f")) (group no_groups (bound (named 3 (codes "n")) ∷ []) prop) None prop (fix_of (function (function no_functions (named 11 (codes "g")) (group no_groups (bound (named 13 (codes "m")) ∷ []) prop) None prop (ref (short 20 (codes "m")))) (named 22 (codes "h")) (group no_groups (bound (named 24 (codes "k")) ∷ []) prop) None prop (ref (short 31 (codes "k")))) (Some (named 33 (codes "g"))))) ∷ []) ∷ [])
inner_with = refl

-- A proof with `using All`. Lemma l : Prop. Proof using All. exact @p. Defined.
proof_read : run (T.ident 0 (codes "Lemma") ∷ T.ident 1 (codes "l") ∷ T.mark M.Colon ∷ T.mark M.Prop ∷ T.mark M.Stop ∷ T.ident 5 (codes "Proof") ∷ T.ident 6 (codes "using") ∷ T.ident 7 (codes "All") ∷ T.mark M.Stop ∷ T.ident 9 (codes "exact") ∷ T.mark M.At ∷ T.path 11 (codes "A.p") ∷ T.mark M.Stop ∷ T.ident 13 (codes "Defined") ∷ T.mark M.Stop ∷ []) file nothing_said
    ≡ Read (commands (theorem (named 1 (codes "l")) no_groups prop (proof using_all (ref (long 11 (codes "A.p"))) defined) ∷ []) ∷ [])
proof_read = refl

-- The word `exact` cannot stand behind `Proof` and begin a proof, so it is a name there. Lemma l : Prop. Proof exact.
exact_body : run (T.ident 0 (codes "Lemma") ∷ T.ident 1 (codes "l") ∷ T.mark M.Colon ∷ T.mark M.Prop ∷ T.mark M.Stop ∷ T.ident 5 (codes "Proof") ∷ T.ident 6 (codes "exact") ∷ T.mark M.Stop ∷ []) file nothing_said
    ≡ Read (commands (theorem (named 1 (codes "l")) no_groups prop (proof not_said (ref (short 6 (codes "exact"))) qed) ∷ []) ∷ [])
exact_body = refl

-- Proof using. is Syntax at the stop.
using_nothing : run (T.ident 0 (codes "Lemma") ∷ T.ident 1 (codes "l") ∷ T.mark M.Colon ∷ T.mark M.Prop ∷ T.mark M.Stop ∷ T.ident 5 (codes "Proof") ∷ T.ident 6 (codes "using") ∷ T.mark M.Stop ∷ []) file nothing_said ≡ Fail syntax 1
using_nothing = refl

-- In a term of nesting 500 a term in parentheses and one behind an arrow are too deep, at their first tokens.
deep_in_parentheses : run (T.mark M.Open ∷ T.mark M.Prop ∷ T.mark M.Close ∷ []) (nt 500 k_term ∷ []) [] ≡ Fail nesting 2
deep_in_parentheses = refl

deep_behind_an_arrow : run (T.mark M.Prop ∷ T.mark M.Arrow ∷ T.mark M.Prop ∷ []) (nt 500 k_term ∷ []) [] ≡ Fail nesting 1
deep_behind_an_arrow = refl

not_yet_deep : run (T.mark M.Prop ∷ T.mark M.Prop ∷ []) (nt 500 k_term ∷ []) [] ≡ Read (term (app prop prop) ∷ [])
not_yet_deep = refl
