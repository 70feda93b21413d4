-- The grammar's rows: a kind of text, the test of its first token, and what is wanted behind it.
use Rattle.std.specs.Prelude.{ℕ, suc, ◌+◌, Bool, true, false, List, [], ◌∷◌, ◌++◌, Option, Some, None, cond, ◌<◌, nat_lt}
use Rattle.gal_grammar.specs.Tokens.{Token}
use Rattle.gal_lexer.specs.declared.token.Mark.{Mark}
use Rattle.gal_lexer.specs.declared.token.Mark.TheVariants as M
use Prim.Native.String.{String}
use Rattle.gal_grammar.specs.Terms.{Raw, prop, set, type_any, no_groups, no_functions, no_branches}
use Rattle.gal_grammar.specs.Commands.{level_set, less, at_most, equal, plain, import, export, Using, not_said, using_type, using_all, How, qed, defined, given_up}
use Rattle.gal_grammar.specs.Tests.{Test, mark, word, ident, qualid, name}
use Rattle.gal_grammar.specs.Values.{Val, a_name, names, quals, binders, maybe_name, maybe_binder, maybe_within, term, maybe_term, groups, functions, branches, ctors, inds, a_level, a_relation, conses, flag, using}
use Rattle.gal_grammar.specs.Actions.{Act, push, push_below, bind, add_binder, add_name, add_qual, add_group, add_function, add_branch, add_ctor, add_ind, add_cons, set_name, set_for, set_as, set_within, set_type, set_using, set_using_names, set_flag, mk_ref, mk_type_at, mk_app, mk_arrow, mk_prod, mk_func, mk_let, mk_fix, mk_match, mk_level, mk_proof, mk_no_proof, say_require, say_universe, say_constraint, say_axiom, say_variable, say_definition, say_definition_by, say_local, say_fixpoint, say_inductive, say_theorem, say_section, say_finish}
use Rattle.gal_grammar.specs.Kinds.{Kind, Row, Want, act, fix_tail, k_any_branches, k_as, k_assums, k_atom, k_binders, k_bound_groups, k_bounds, k_branch, k_branches, k_commands, k_conses, k_ctor, k_ctor_type, k_ctors, k_ctors_behind, k_definition, k_ending, k_file, k_fixpoints, k_function, k_functions, k_groups, k_idents, k_in, k_ind, k_inds, k_level, k_more_branches, k_more_ctors, k_names, k_proof, k_proof_body, k_qed, k_quals, k_relation, k_required, k_some_groups, k_struct, k_tail, k_term, k_type_level, k_using, k_with, k_with_any, nt, row, tok}

-- a token and no value
abbrev pub m : Mark → Want
m x = tok (mark x)

abbrev pub w : String → Want
w x = tok (word x)

-- a term within the nesting d
abbrev pub a_term : ℕ → Want
a_term d = nt (d + 1) k_term

abbrev pub then : List Row → List Want → List Row
then [] us = []
then (row c ws ∷ rs) us = row c (ws ++ us) ∷ then rs us

-- each of the words, and the same behind it
abbrev pub each : List String → List Want → List Row
each [] us = []
each (x ∷ xs) us = row (word x) us ∷ each xs us

-- ident group* ":" term
abbrev pub head : ℕ → List Want
head d = tok ident ∷ act (push (groups no_groups)) ∷ nt d k_groups ∷ m M.Colon ∷ a_term d ∷ []

-- group = "(" name+ ":" term ")" behind its first token
abbrev pub in_group : ℕ → List Want
in_group d = act (push (binders [])) ∷ tok name ∷ act add_binder ∷ nt d k_names ∷ m M.Colon ∷ a_term d ∷ m M.Close ∷ act add_group ∷ []

-- the same with identifiers alone
abbrev pub in_bound_group : ℕ → List Want
in_bound_group d = act (push (binders [])) ∷ tok ident ∷ act bind ∷ act add_binder ∷ nt d k_bounds ∷ m M.Colon ∷ a_term d ∷ m M.Close ∷ act add_group ∷ []

abbrev pub function_end : ℕ → List Want
function_end d = act (push (maybe_name None)) ∷ nt d k_struct ∷ m M.Colon ∷ a_term d ∷ m M.Assign ∷ a_term d ∷ act add_function ∷ []

-- fixone = ident group+ ["{" "struct" ident "}"] ":" term ":=" term, behind "(" and behind its first token
abbrev pub function_rest : ℕ → List Want
function_rest d = in_group d ++ (nt d k_groups ∷ function_end d)

abbrev pub function_behind : ℕ → List Want
function_behind d = act (push (groups no_groups)) ∷ nt d k_some_groups ∷ function_end d

-- ctor = ident group* [":" term] behind its first token
abbrev pub ctor_behind : ℕ → List Want
ctor_behind d = act (push (groups no_groups)) ∷ nt d k_groups ∷ act (push (maybe_term None)) ∷ nt d k_ctor_type ∷ act add_ctor ∷ []

-- branch = qualid name* "=>" term behind its first token
abbrev pub branch_behind : ℕ → List Want
branch_behind d = act (push (binders [])) ∷ nt d k_names ∷ m M.Gives ∷ a_term d ∷ act add_branch ∷ []

-- atom = ["@"] qualid | "Prop" | "Set" | "Type" ["@{" qualid "}"] | "(" term ")" | match
-- match = "match" term ["as" name] ["in" qualid name*] "return" term "with" ..
abbrev pub atom_rows : ℕ → List Row
atom_rows d =
    row qualid (act mk_ref ∷ [])
    ∷ row (mark M.At) (tok qualid ∷ act mk_ref ∷ [])
    ∷ row (mark M.Prop) (act (push (term prop)) ∷ [])
    ∷ row (mark M.Set) (act (push (term set)) ∷ [])
    ∷ row (mark M.Typ) (act (push (term type_any)) ∷ nt d k_type_level ∷ [])
    ∷ row (mark M.Open) (a_term d ∷ m M.Close ∷ [])
    ∷ row (mark M.Match) (a_term d ∷ act (push (maybe_binder None)) ∷ nt d k_as ∷ act (push (maybe_within None)) ∷ nt d k_in ∷ act mk_match ∷ [])
    ∷ []

-- term = "forall" binders "," term | "fun" binders "=>" term | "let" ident group* ":" term ":=" term "in" term
--      | "fix" fixone [("with" fixone)+ "for" ident] | app ["->" term]          app = atom+
abbrev pub term_rows : ℕ → List Row
term_rows d =
    row (mark M.Forall) (act (push (groups no_groups)) ∷ nt d k_binders ∷ m M.Comma ∷ a_term d ∷ act mk_prod ∷ [])
    ∷ row (mark M.Fun) (act (push (groups no_groups)) ∷ nt d k_binders ∷ m M.Gives ∷ a_term d ∷ act mk_func ∷ [])
    ∷ row (mark M.Let) (head d ++ (m M.Assign ∷ a_term d ∷ m M.In ∷ a_term d ∷ act mk_let ∷ []))
    ∷ row (mark M.Fix) (act (push (maybe_name None)) ∷ act (push (functions no_functions)) ∷ nt d k_function ∷ fix_tail d ∷ act mk_fix ∷ [])
    ∷ then (atom_rows d) (nt d k_tail ∷ [])

-- ending = "exact" term stop ("Qed" | "Defined" | "Admitted") stop | "Admitted" stop
abbrev pub ending_rows : ℕ → List Row
ending_rows d =
    row (word "exact") (a_term d ∷ m M.Stop ∷ nt d k_qed ∷ [])
    ∷ row (word "Admitted") (m M.Stop ∷ act mk_no_proof ∷ [])
    ∷ []

abbrev pub command_rows : ℕ → List Row
command_rows d =
    each ("Universe" ∷ "Universes" ∷ []) (act (push (names [])) ∷ tok ident ∷ act add_name ∷ nt d k_idents ∷ m M.Stop ∷ act say_universe ∷ [])
    ++ each ("Constraint" ∷ []) (act (push (conses [])) ∷ nt d k_level ∷ nt d k_relation ∷ nt d k_level ∷ act add_cons ∷ nt d k_conses ∷ m M.Stop ∷ act say_constraint ∷ [])
    ++ each ("Axiom" ∷ "Axioms" ∷ "Parameter" ∷ "Parameters" ∷ "Conjecture" ∷ []) (act (push (groups no_groups)) ∷ nt d k_assums ∷ m M.Stop ∷ act say_axiom ∷ [])
    ++ each ("Variable" ∷ "Variables" ∷ "Hypothesis" ∷ "Hypotheses" ∷ []) (act (push (groups no_groups)) ∷ nt d k_assums ∷ m M.Stop ∷ act say_variable ∷ [])
    ++ each ("Definition" ∷ "Example" ∷ []) (head d ++ (nt d k_definition ∷ []))
    ++ each ("Let" ∷ []) (head d ++ (m M.Assign ∷ a_term d ∷ m M.Stop ∷ act say_local ∷ []))
    ++ each ("Fixpoint" ∷ []) (act (push (functions no_functions)) ∷ nt d k_function ∷ nt d k_fixpoints ∷ m M.Stop ∷ act say_fixpoint ∷ [])
    ++ each ("Inductive" ∷ []) (act (push (inds [])) ∷ nt d k_ind ∷ nt d k_inds ∷ m M.Stop ∷ act say_inductive ∷ [])
    ++ each ("Theorem" ∷ "Lemma" ∷ "Fact" ∷ "Remark" ∷ "Corollary" ∷ "Proposition" ∷ []) (head d ++ (m M.Stop ∷ act (push (using not_said)) ∷ nt d k_proof ∷ act say_theorem ∷ []))
    ++ each ("Section" ∷ []) (tok ident ∷ m M.Stop ∷ act say_section ∷ [])
    ++ each ("End" ∷ []) (tok ident ∷ m M.Stop ∷ act say_finish ∷ [])

-- require = ["From" ident] "Require" ["Import" | "Export"] qualid+ stop, behind its first word or words
abbrev pub require_behind : ℕ → List Want
require_behind d = act (push (flag plain)) ∷ nt d k_required ∷ m M.Stop ∷ act say_require ∷ nt d k_file ∷ []

abbrev pub some_quals : ℕ → List Want
some_quals d = act add_qual ∷ nt d k_quals ∷ []

-- Where more than one row's test passes the first is meant: the words of a place stand before its names.
abbrev pub rules : ℕ → Kind → List Row
-- file = require* command*
rules d k_file =
    row (word "From") (act (push (maybe_name None)) ∷ tok ident ∷ act set_name ∷ w "Require" ∷ require_behind d)
    ∷ row (word "Require") (act (push (maybe_name None)) ∷ require_behind d)
    ∷ then (command_rows d) (nt d k_commands ∷ [])
rules d k_commands = then (command_rows d) (nt d k_commands ∷ [])
rules d k_required =
    row (word "Import") (act (set_flag import) ∷ act (push (quals [])) ∷ tok qualid ∷ some_quals d)
    ∷ row (word "Export") (act (set_flag export) ∷ act (push (quals [])) ∷ tok qualid ∷ some_quals d)
    ∷ row qualid (act (push_below (quals [])) ∷ some_quals d)
    ∷ []
rules d k_quals = row qualid (some_quals d) ∷ []
-- cons = ulevel ("<" | "<=" | "=") ulevel        ulevel = qualid | "Set"
rules d k_level = row (mark M.Set) (act (push (a_level level_set)) ∷ []) ∷ row qualid (act mk_level ∷ []) ∷ []
rules d k_relation =
    row (mark M.Less) (act (push (a_relation less)) ∷ [])
    ∷ row (mark M.AtMost) (act (push (a_relation at_most)) ∷ [])
    ∷ row (mark M.Equal) (act (push (a_relation equal)) ∷ [])
    ∷ []
rules d k_conses = row (mark M.Comma) (nt d k_level ∷ nt d k_relation ∷ nt d k_level ∷ act add_cons ∷ nt d k_conses ∷ []) ∷ []
-- assums = ident+ ":" term | group+, whose names are no `_`
rules d k_assums =
    row ident (act bind ∷ act (push_below (binders [])) ∷ act add_binder ∷ nt d k_bounds ∷ m M.Colon ∷ a_term d ∷ act add_group ∷ [])
    ∷ row (mark M.Open) (in_bound_group d ++ (nt d k_bound_groups ∷ []))
    ∷ []
rules d k_idents = row ident (act add_name ∷ nt d k_idents ∷ []) ∷ []
rules d k_bounds = row ident (act bind ∷ act add_binder ∷ nt d k_bounds ∷ []) ∷ []
rules d k_bound_groups = row (mark M.Open) (in_bound_group d ++ (nt d k_bound_groups ∷ [])) ∷ []
rules d k_names = row name (act add_binder ∷ nt d k_names ∷ []) ∷ []
rules d k_some_groups = row (mark M.Open) (in_group d ++ (nt d k_groups ∷ [])) ∷ []
rules d k_groups = row (mark M.Open) (in_group d ++ (nt d k_groups ∷ [])) ∷ []
-- binders = name+ ":" term | group+
rules d k_binders =
    row name (act (push_below (binders [])) ∷ act add_binder ∷ nt d k_names ∷ m M.Colon ∷ a_term d ∷ act add_group ∷ [])
    ∷ row (mark M.Open) (in_group d ++ (nt d k_groups ∷ []))
    ∷ []
rules d k_definition =
    row (mark M.Assign) (a_term d ∷ m M.Stop ∷ act say_definition ∷ [])
    ∷ row (mark M.Stop) (act (push (using not_said)) ∷ nt d k_proof ∷ act say_definition_by ∷ [])
    ∷ []
rules d k_function = row ident (function_behind d) ∷ []
rules d k_struct = row (mark M.BraceOpen) (w "struct" ∷ tok ident ∷ act set_name ∷ m M.BraceClose ∷ []) ∷ []
rules d k_fixpoints = row (mark M.With) (nt d k_function ∷ nt d k_fixpoints ∷ []) ∷ []
-- indone = ident group* ":" term ":=" ["|"] [ctor ("|" ctor)*]
rules d k_ind = row ident (act (push (groups no_groups)) ∷ nt d k_groups ∷ m M.Colon ∷ a_term d ∷ m M.Assign ∷ act (push (ctors [])) ∷ nt d k_ctors ∷ act add_ind ∷ []) ∷ []
rules d k_inds = row (mark M.With) (nt d k_ind ∷ nt d k_inds ∷ []) ∷ []
rules d k_ctors = row (mark M.Bar) (nt d k_ctors_behind ∷ []) ∷ row ident (ctor_behind d ++ (nt d k_more_ctors ∷ [])) ∷ []
rules d k_ctors_behind = row ident (ctor_behind d ++ (nt d k_more_ctors ∷ [])) ∷ []
rules d k_more_ctors = row (mark M.Bar) (nt d k_ctor ∷ nt d k_more_ctors ∷ []) ∷ []
rules d k_ctor = row ident (ctor_behind d) ∷ []
rules d k_ctor_type = row (mark M.Colon) (a_term d ∷ act set_type ∷ []) ∷ []
-- proof = "Proof" "using" ("Type" | "All" | ident+) stop ending | "Proof" stop ending | "Proof" term stop | ending
rules d k_proof = row (word "Proof") (nt d k_proof_body ∷ []) ∷ ending_rows d
rules d k_proof_body =
    row (word "using") (nt d k_using ∷ m M.Stop ∷ nt d k_ending ∷ [])
    ∷ row (mark M.Stop) (nt d k_ending ∷ [])
    ∷ then (term_rows (d + 1)) (m M.Stop ∷ act (mk_proof qed) ∷ [])
rules d k_using =
    row (mark M.Typ) (act (set_using using_type) ∷ [])
    ∷ row (word "All") (act (set_using using_all) ∷ [])
    ∷ row ident (act (push_below (names [])) ∷ act add_name ∷ nt d k_idents ∷ act set_using_names ∷ [])
    ∷ []
rules d k_ending = ending_rows d
rules d k_qed =
    row (word "Qed") (m M.Stop ∷ act (mk_proof qed) ∷ [])
    ∷ row (word "Defined") (m M.Stop ∷ act (mk_proof defined) ∷ [])
    ∷ row (word "Admitted") (m M.Stop ∷ act (mk_proof given_up) ∷ [])
    ∷ []
rules d k_term = term_rows d
rules d k_atom = atom_rows d
-- what goes on with an application
rules d k_tail = row (mark M.Arrow) (a_term d ∷ act mk_arrow ∷ []) ∷ then (atom_rows d) (act mk_app ∷ nt d k_tail ∷ [])
rules d k_type_level = row (mark M.LevelOpen) (tok qualid ∷ m M.BraceClose ∷ act mk_type_at ∷ []) ∷ []
-- the functions of a fix behind a further one
rules d k_functions =
    row (mark M.With) (nt d k_function ∷ nt d k_functions ∷ [])
    ∷ row (mark M.For) (tok ident ∷ act set_for ∷ [])
    ∷ []
rules d k_as = row (mark M.As) (tok name ∷ act set_as ∷ []) ∷ []
-- a match without branches has the word `in`
rules d k_in =
    row (mark M.In) (tok qualid ∷ act (push (binders [])) ∷ nt d k_names ∷ act set_within ∷ m M.Return ∷ a_term d ∷ nt d k_with_any ∷ [])
    ∷ row (mark M.Return) (a_term d ∷ nt d k_with ∷ [])
    ∷ []
rules d k_with = row (mark M.With) (act (push (branches no_branches)) ∷ nt d k_branches ∷ []) ∷ []
rules d k_with_any = row (mark M.With) (act (push (branches no_branches)) ∷ nt d k_any_branches ∷ []) ∷ []
rules d k_branches =
    row (mark M.Bar) (nt d k_branch ∷ nt d k_more_branches ∷ [])
    ∷ row qualid (branch_behind d ++ (nt d k_more_branches ∷ []))
    ∷ []
rules d k_any_branches =
    row (mark M.End) []
    ∷ row (mark M.Bar) (nt d k_branch ∷ nt d k_more_branches ∷ [])
    ∷ row qualid (branch_behind d ++ (nt d k_more_branches ∷ []))
    ∷ []
rules d k_branch = row qualid (branch_behind d) ∷ []
rules d k_more_branches = row (mark M.Bar) (nt d k_branch ∷ nt d k_more_branches ∷ []) ∷ row (mark M.End) [] ∷ []

-- what may be absent
abbrev pub may_be_none : Kind → Bool
may_be_none k_file = true
may_be_none k_commands = true
may_be_none k_quals = true
may_be_none k_conses = true
may_be_none k_idents = true
may_be_none k_bounds = true
may_be_none k_bound_groups = true
may_be_none k_names = true
may_be_none k_groups = true
may_be_none k_struct = true
may_be_none k_fixpoints = true
may_be_none k_inds = true
may_be_none k_ctors = true
may_be_none k_ctors_behind = true
may_be_none k_more_ctors = true
may_be_none k_ctor_type = true
may_be_none k_tail = true
may_be_none k_type_level = true
may_be_none k_as = true
may_be_none _ = false
