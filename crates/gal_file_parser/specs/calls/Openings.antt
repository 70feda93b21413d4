-- The commands by their first words, and what is wanted behind each.
use Rattle.std.specs.Prelude.{ℕ, Bool, true, false, cond, List, [], ◌∷◌, ◌++◌, Option, Some, None, codes}
use Prim.Native.String.{String}
use Rattle.std.specs.Str.{bytes_eq}
use Rattle.gal_lexer.specs.declared.token.Mark.TheVariants as M
use Rattle.gal_grammar.specs.Terms.{no_groups, no_functions}
use Rattle.gal_grammar.specs.Commands.{not_said}
use Rattle.gal_grammar.specs.Tests.{ident}
use Rattle.gal_grammar.specs.Values.{names, conses, groups, functions, inds, using}
use Rattle.gal_grammar.specs.Actions.{push, add_name, add_cons, say_universe, say_constraint, say_axiom, say_variable, say_local, say_fixpoint, say_inductive, say_theorem, say_section, say_finish}
use Rattle.gal_grammar.specs.Kinds.{Want, tok, act, nt, k_idents, k_level, k_relation, k_conses, k_assums, k_definition, k_function, k_fixpoints, k_ind, k_inds, k_proof}
use Rattle.gal_grammar.specs.Rules.{m, a_term, head}
use Rattle.gal_file_parser.specs.declared.openings.Opening.{Opening}
use Rattle.gal_file_parser.specs.declared.openings.Opening.TheVariants as O

abbrev pub words_of : Opening → List String
words_of O.Universe = "Universe" ∷ "Universes" ∷ []
words_of O.Constraint = "Constraint" ∷ []
words_of O.Axiom = "Axiom" ∷ "Axioms" ∷ "Parameter" ∷ "Parameters" ∷ "Conjecture" ∷ []
words_of O.Variable = "Variable" ∷ "Variables" ∷ "Hypothesis" ∷ "Hypotheses" ∷ []
words_of O.Definition = "Definition" ∷ "Example" ∷ []
words_of O.Local = "Let" ∷ []
words_of O.Fixpoint = "Fixpoint" ∷ []
words_of O.Inductive = "Inductive" ∷ []
words_of O.Theorem = "Theorem" ∷ "Lemma" ∷ "Fact" ∷ "Remark" ∷ "Corollary" ∷ "Proposition" ∷ []
words_of O.Section = "Section" ∷ []
words_of O.End = "End" ∷ []

abbrev pub behind : Opening → List Want
behind O.Universe = act (push (names [])) ∷ tok ident ∷ act add_name ∷ nt 0 k_idents ∷ m M.Stop ∷ act say_universe ∷ []
behind O.Constraint = act (push (conses [])) ∷ nt 0 k_level ∷ nt 0 k_relation ∷ nt 0 k_level ∷ act add_cons ∷ nt 0 k_conses ∷ m M.Stop ∷ act say_constraint ∷ []
behind O.Axiom = act (push (groups no_groups)) ∷ nt 0 k_assums ∷ m M.Stop ∷ act say_axiom ∷ []
behind O.Variable = act (push (groups no_groups)) ∷ nt 0 k_assums ∷ m M.Stop ∷ act say_variable ∷ []
behind O.Definition = head 0 ++ (nt 0 k_definition ∷ [])
behind O.Local = head 0 ++ (m M.Assign ∷ a_term 0 ∷ m M.Stop ∷ act say_local ∷ [])
behind O.Fixpoint = act (push (functions no_functions)) ∷ nt 0 k_function ∷ nt 0 k_fixpoints ∷ m M.Stop ∷ act say_fixpoint ∷ []
behind O.Inductive = act (push (inds [])) ∷ nt 0 k_ind ∷ nt 0 k_inds ∷ m M.Stop ∷ act say_inductive ∷ []
behind O.Theorem = head 0 ++ (m M.Stop ∷ act (push (using not_said)) ∷ nt 0 k_proof ∷ act say_theorem ∷ [])
behind O.Section = tok ident ∷ m M.Stop ∷ act say_section ∷ []
behind O.End = tok ident ∷ m M.Stop ∷ act say_finish ∷ []

-- the text is one of the words
abbrev pub is_one : List String → List ℕ → Bool
is_one [] x = false
is_one (u ∷ us) x = cond (bytes_eq (codes u) x) true (is_one us x)

abbrev pub opening_in : List Opening → List ℕ → Option Opening
opening_in [] x = None
opening_in (o ∷ os) x = cond (is_one (words_of o) x) (Some o) (opening_in os x)

abbrev pub early : List Opening
early = O.Universe ∷ O.Constraint ∷ O.Axiom ∷ O.Variable ∷ O.Definition ∷ O.Local ∷ []

abbrev pub late : List Opening
late = O.Fixpoint ∷ O.Inductive ∷ O.Theorem ∷ O.Section ∷ O.End ∷ []

abbrev pub first_found : Option Opening → Option Opening → Option Opening
first_found (Some o) r = Some o
first_found None r = r

-- the command that begins with the word
abbrev pub opening_of : List ℕ → Option Opening
opening_of x = first_found (opening_in early x) (opening_in late x)
