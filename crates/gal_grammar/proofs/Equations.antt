-- The machine's equations that the code of a parser needs.
use Rattle.std.proofs.Common.{ℕ, zero, suc, Bool, true, false, cond, List, [], ◌∷◌, ◌++◌, ◌≡◌, ◌≤◌, length, Option, Some, None, refl, ap, sym, subst, ◌∙◌, arith, nat_le, is_some}
use Rattle.gal_grammar.specs.Tokens.{Token}
use Rattle.gal_grammar.specs.Tokens as T
use Rattle.gal_lexer.specs.declared.token.Mark.{Mark}
use Rattle.gal_lexer.specs.declared.token.Mark.TheVariants as M
use Rattle.gal_grammar.specs.Terms.{named, bound, blank, no_groups, no_functions, no_branches}
use Rattle.gal_grammar.specs.Tests.{Test, mark, word, ident, qualid, name, passes}
use Rattle.gal_grammar.specs.Values.{puts, Val, a_name, a_binder, groups, binders, branches, maybe_name, functions}
use Rattle.gal_grammar.specs.Actions.{Act, push, push_below, add_binder, add_group, mk_app, mk_prod, mk_func, mk_let, mk_fix, makes}
use Rattle.gal_grammar.specs.Kinds.{Row, row, Kind, k_file, k_commands, k_required, k_quals, k_level, k_relation, k_conses, k_assums, k_idents, k_bounds, k_bound_groups, k_names, k_groups, k_some_groups, k_binders, k_definition, k_function, k_struct, k_fixpoints, k_ind, k_inds, k_ctors, k_ctors_behind, k_more_ctors, k_ctor, k_ctor_type, k_proof, k_proof_body, k_using, k_ending, k_qed, k_term, k_atom, k_tail, k_type_level, k_functions, k_as, k_in, k_with, k_with_any, k_branches, k_any_branches, k_branch, k_more_branches, Want, tok, act, nt, fix_tail}
use Rattle.gal_grammar.specs.Rules.{m, a_term, rules, may_be_none, function_behind, function_rest, in_group, branch_behind}
use Rattle.gal_grammar.specs.Grammar.{pick, is_deep, begins_function, begins_with_function}
use Rattle.gal_grammar.specs.calls.Machine.{Why, syntax, nesting, Outcome, Read, Fail, Mode, plainly, asked, asked_name, Go, Look, usual, outer, behind, is_with, asks, refuses, chosen, step, answer, advance, finish, ends, runs, run}
use Rattle.gal_grammar.specs.calls.Reading.{owner, with_left, begins_open, begins_product, begins_atom, begins_arrow, begins_term, begins_with, begins_brace, begins_bar, begins_end}
use Rattle.gal_grammar.proofs.Complete.{asked_same, act_runs}

-- the rows of a term
pub forall_row : (d : ℕ) (s : List Token) (k : List Want) (vs : List Val) → nat_le 501 d ≡ false → run (T.mark M.Forall ∷ s) (nt d k_term ∷ k) vs ≡ run s (act (push (groups no_groups)) ∷ nt d k_binders ∷ m M.Comma ∷ a_term d ∷ act mk_prod ∷ k) vs
forall_row d s k vs e = rw e refl

pub fun_row : (d : ℕ) (s : List Token) (k : List Want) (vs : List Val) → nat_le 501 d ≡ false → run (T.mark M.Fun ∷ s) (nt d k_term ∷ k) vs ≡ run s (act (push (groups no_groups)) ∷ nt d k_binders ∷ m M.Gives ∷ a_term d ∷ act mk_func ∷ k) vs
fun_row d s k vs e = rw e refl

pub let_row : (d : ℕ) (s : List Token) (k : List Want) (vs : List Val) → nat_le 501 d ≡ false → run (T.mark M.Let ∷ s) (nt d k_term ∷ k) vs ≡ run s (tok ident ∷ act (push (groups no_groups)) ∷ nt d k_groups ∷ m M.Colon ∷ a_term d ∷ m M.Assign ∷ a_term d ∷ m M.In ∷ a_term d ∷ act mk_let ∷ k) vs
let_row d s k vs e = rw e refl

pub fix_row : (d : ℕ) (s : List Token) (k : List Want) (vs : List Val) → nat_le 501 d ≡ false → run (T.mark M.Fix ∷ s) (nt d k_term ∷ k) vs ≡ run s (act (push (maybe_name None)) ∷ act (push (functions no_functions)) ∷ nt d k_function ∷ fix_tail d ∷ act mk_fix ∷ k) vs
fix_row d s k vs e = rw e refl

pub term_is_application : (d : ℕ) (s : List Token) (k : List Want) (vs : List Val) → nat_le 501 d ≡ false → begins_product s ≡ false → run s (nt d k_term ∷ k) vs ≡ run s (nt d k_atom ∷ nt d k_tail ∷ k) vs
term_is_application d [] k vs e h = refl
term_is_application d (T.mark M.Forall ∷ s) k vs e h = absurd (cc)
term_is_application d (T.mark M.Fun ∷ s) k vs e h = absurd (cc)
term_is_application d (T.mark M.Let ∷ s) k vs e h = absurd (cc)
term_is_application d (T.mark M.Fix ∷ s) k vs e h = absurd (cc)
term_is_application d (T.ident p x ∷ s) k vs e h = rw e refl
term_is_application d (T.path p x ∷ s) k vs e h = rw e refl
term_is_application d (T.mark M.At ∷ s) k vs e h = rw e refl
term_is_application d (T.mark M.Prop ∷ s) k vs e h = rw e refl
term_is_application d (T.mark M.Set ∷ s) k vs e h = rw e refl
term_is_application d (T.mark M.Typ ∷ s) k vs e h = rw e refl
term_is_application d (T.mark M.Open ∷ s) k vs e h = rw e refl
term_is_application d (T.mark M.Match ∷ s) k vs e h = rw e refl
term_is_application d (_ ∷ s) k vs e h = refl

pub too_deep : (d : ℕ) (s : List Token) (k : List Want) (vs : List Val) → nat_le 501 d ≡ true → begins_term s ≡ true → run s (nt d k_term ∷ k) vs ≡ Fail nesting (length s)
too_deep d [] k vs e h = absurd (cc)
too_deep d (T.ident p x ∷ s) k vs e h = rw e refl
too_deep d (T.path p x ∷ s) k vs e h = rw e refl
too_deep d (T.mark M.Forall ∷ s) k vs e h = rw e refl
too_deep d (T.mark M.Fun ∷ s) k vs e h = rw e refl
too_deep d (T.mark M.Let ∷ s) k vs e h = rw e refl
too_deep d (T.mark M.Fix ∷ s) k vs e h = rw e refl
too_deep d (T.mark M.At ∷ s) k vs e h = rw e refl
too_deep d (T.mark M.Prop ∷ s) k vs e h = rw e refl
too_deep d (T.mark M.Set ∷ s) k vs e h = rw e refl
too_deep d (T.mark M.Typ ∷ s) k vs e h = rw e refl
too_deep d (T.mark M.Open ∷ s) k vs e h = rw e refl
too_deep d (T.mark M.Match ∷ s) k vs e h = rw e refl
too_deep d (_ ∷ s) k vs e h = absurd (cc)

pub no_term : (d : ℕ) (s : List Token) (k : List Want) (vs : List Val) → begins_term s ≡ false → run s (nt d k_term ∷ k) vs ≡ Fail syntax (length s)
no_term d [] k vs h = refl
no_term d (T.ident p x ∷ s) k vs h = absurd (cc)
no_term d (T.path p x ∷ s) k vs h = absurd (cc)
no_term d (T.mark M.Forall ∷ s) k vs h = absurd (cc)
no_term d (T.mark M.Fun ∷ s) k vs h = absurd (cc)
no_term d (T.mark M.Let ∷ s) k vs h = absurd (cc)
no_term d (T.mark M.Fix ∷ s) k vs h = absurd (cc)
no_term d (T.mark M.At ∷ s) k vs h = absurd (cc)
no_term d (T.mark M.Prop ∷ s) k vs h = absurd (cc)
no_term d (T.mark M.Set ∷ s) k vs h = absurd (cc)
no_term d (T.mark M.Typ ∷ s) k vs h = absurd (cc)
no_term d (T.mark M.Open ∷ s) k vs h = absurd (cc)
no_term d (T.mark M.Match ∷ s) k vs h = absurd (cc)
no_term d (_ ∷ s) k vs h = refl

pub tail_is_atom : (d : ℕ) (s : List Token) (k : List Want) (vs : List Val) → begins_atom s ≡ true → run s (nt d k_tail ∷ k) vs ≡ run s (nt d k_atom ∷ act mk_app ∷ nt d k_tail ∷ k) vs
tail_is_atom d [] k vs h = absurd (cc)
tail_is_atom d (T.ident p x ∷ s) k vs h = refl
tail_is_atom d (T.path p x ∷ s) k vs h = refl
tail_is_atom d (T.mark M.At ∷ s) k vs h = refl
tail_is_atom d (T.mark M.Prop ∷ s) k vs h = refl
tail_is_atom d (T.mark M.Set ∷ s) k vs h = refl
tail_is_atom d (T.mark M.Typ ∷ s) k vs h = refl
tail_is_atom d (T.mark M.Open ∷ s) k vs h = refl
tail_is_atom d (T.mark M.Match ∷ s) k vs h = refl
tail_is_atom d (_ ∷ s) k vs h = absurd (cc)

pub tail_ends : (d : ℕ) (s : List Token) (k : List Want) (vs : List Val) → begins_atom s ≡ false → begins_arrow s ≡ false → run s (nt d k_tail ∷ k) vs ≡ run s k vs
tail_ends d [] k vs h g = refl
tail_ends d (T.ident p x ∷ s) k vs h g = absurd (cc)
tail_ends d (T.path p x ∷ s) k vs h g = absurd (cc)
tail_ends d (T.mark M.At ∷ s) k vs h g = absurd (cc)
tail_ends d (T.mark M.Prop ∷ s) k vs h g = absurd (cc)
tail_ends d (T.mark M.Set ∷ s) k vs h g = absurd (cc)
tail_ends d (T.mark M.Typ ∷ s) k vs h g = absurd (cc)
tail_ends d (T.mark M.Open ∷ s) k vs h g = absurd (cc)
tail_ends d (T.mark M.Match ∷ s) k vs h g = absurd (cc)
tail_ends d (T.mark M.Arrow ∷ s) k vs h g = absurd (cc)
tail_ends d (_ ∷ s) k vs h g = refl

pub groups_end : (d : ℕ) (s : List Token) (k : List Want) (vs : List Val) → begins_open s ≡ false → run s (nt d k_groups ∷ k) vs ≡ run s k vs
groups_end d [] k vs h = refl
groups_end d (T.mark M.Open ∷ s) k vs h = absurd (cc)
groups_end d (_ ∷ s) k vs h = refl

pub bare_binders : (d : ℕ) (s : List Token) (k : List Want) (vs : List Val) → begins_open s ≡ false → run s (nt d k_binders ∷ k) vs ≡ run s (act (push (binders [])) ∷ tok name ∷ act add_binder ∷ nt d k_names ∷ m M.Colon ∷ a_term d ∷ act add_group ∷ k) vs
bare_binders d [] k vs h = refl
bare_binders d (T.mark M.Open ∷ s) k vs h = absurd (cc)
bare_binders d (T.mark M.Blank ∷ s) k vs h = act_runs s (push_below (binders [])) (act add_binder ∷ nt d k_names ∷ m M.Colon ∷ a_term d ∷ act add_group ∷ k) (a_binder blank ∷ vs)
bare_binders d (T.mark _ ∷ s) k vs h = refl
bare_binders d (T.path p x ∷ s) k vs h = refl
bare_binders d (T.ident p x ∷ s) k vs h = act_runs s (push_below (binders [])) (act add_binder ∷ nt d k_names ∷ m M.Colon ∷ a_term d ∷ act add_group ∷ k) (a_binder (bound (named p x)) ∷ vs)

pub function_is : (d : ℕ) (s : List Token) (k : List Want) (vs : List Val) → run s (nt d k_function ∷ k) vs ≡ run s (tok ident ∷ (function_behind d ++ k)) vs
function_is d [] k vs = refl
function_is d (T.ident p x ∷ s) k vs = refl
function_is d (T.path p x ∷ s) k vs = refl
function_is d (T.mark x ∷ s) k vs = refl

-- a fix goes on with a function
take_open : (d p : ℕ) (x : List ℕ) (t : Token) (s : List Token) (k : List Want) (vs : List Val) → begins_function (T.ident p x ∷ t ∷ s) ≡ true → runs (T.ident p x ∷ t ∷ s) (asked d) k vs ≡ run (T.ident p x ∷ t ∷ s) (nt d k_function ∷ nt d k_functions ∷ k) vs
take_open d p x (T.mark M.Open) s k vs h = refl
take_open d p x _ s k vs h = absurd (cc)

pub fix_takes : (d : ℕ) (s : List Token) (k : List Want) (vs : List Val) → begins_function s ≡ true → run (T.mark M.With ∷ s) (fix_tail d ∷ k) vs ≡ run s (nt d k_function ∷ nt d k_functions ∷ k) vs
fix_takes d (T.ident p x ∷ t ∷ s) k vs h = take_open d p x t s k vs h
fix_takes d _ k vs h = absurd (cc)

owned_tok : (b : Bool) → cond b None (Some false) ≡ Some true → ⊥
owned_tok true e = absurd (cc)
owned_tok false e = absurd (cc)

k_fixpoints_at : (d d' p : ℕ) (x : List ℕ) (t : Token) (s : List Token) (k : List Want) (vs : List Val) → begins_function (T.ident p x ∷ t ∷ s) ≡ false →
    runs (T.ident p x ∷ t ∷ s) (asked d) (nt d' k_fixpoints ∷ k) vs ≡ run (T.mark M.With ∷ T.ident p x ∷ t ∷ s) (nt d' k_fixpoints ∷ k) vs
k_fixpoints_at d d' p x (T.mark M.Open) s k vs h = absurd (cc)
k_fixpoints_at d d' p x _ s k vs h = refl

k_fixpoints_owns : (d d' : ℕ) (s : List Token) (k : List Want) (vs : List Val) → begins_function s ≡ false → runs s (asked d) (nt d' k_fixpoints ∷ k) vs ≡ run (T.mark M.With ∷ s) (nt d' k_fixpoints ∷ k) vs
k_fixpoints_owns d d' [] k vs h = refl
k_fixpoints_owns d d' (T.ident p x ∷ []) k vs h = refl
k_fixpoints_owns d d' (T.ident p x ∷ t ∷ s) k vs h = k_fixpoints_at d d' p x t s k vs h
k_fixpoints_owns d d' (_ ∷ s) k vs h = refl

k_inds_at : (d d' p : ℕ) (x : List ℕ) (t : Token) (s : List Token) (k : List Want) (vs : List Val) → begins_function (T.ident p x ∷ t ∷ s) ≡ false →
    runs (T.ident p x ∷ t ∷ s) (asked d) (nt d' k_inds ∷ k) vs ≡ run (T.mark M.With ∷ T.ident p x ∷ t ∷ s) (nt d' k_inds ∷ k) vs
k_inds_at d d' p x (T.mark M.Open) s k vs h = absurd (cc)
k_inds_at d d' p x _ s k vs h = refl

k_inds_owns : (d d' : ℕ) (s : List Token) (k : List Want) (vs : List Val) → begins_function s ≡ false → runs s (asked d) (nt d' k_inds ∷ k) vs ≡ run (T.mark M.With ∷ s) (nt d' k_inds ∷ k) vs
k_inds_owns d d' [] k vs h = refl
k_inds_owns d d' (T.ident p x ∷ []) k vs h = refl
k_inds_owns d d' (T.ident p x ∷ t ∷ s) k vs h = k_inds_at d d' p x t s k vs h
k_inds_owns d d' (_ ∷ s) k vs h = refl

k_with_at : (d d' p : ℕ) (x : List ℕ) (t : Token) (s : List Token) (k : List Want) (vs : List Val) → begins_function (T.ident p x ∷ t ∷ s) ≡ false →
    runs (T.ident p x ∷ t ∷ s) (asked d) (nt d' k_with ∷ k) vs ≡ run (T.mark M.With ∷ T.ident p x ∷ t ∷ s) (nt d' k_with ∷ k) vs
k_with_at d d' p x (T.mark M.Open) s k vs h = absurd (cc)
k_with_at d d' p x _ s k vs h = refl

k_with_owns : (d d' : ℕ) (s : List Token) (k : List Want) (vs : List Val) → begins_function s ≡ false → runs s (asked d) (nt d' k_with ∷ k) vs ≡ run (T.mark M.With ∷ s) (nt d' k_with ∷ k) vs
k_with_owns d d' [] k vs h = refl
k_with_owns d d' (T.ident p x ∷ []) k vs h = refl
k_with_owns d d' (T.ident p x ∷ t ∷ s) k vs h = k_with_at d d' p x t s k vs h
k_with_owns d d' (_ ∷ s) k vs h = refl

k_with_any_at : (d d' p : ℕ) (x : List ℕ) (t : Token) (s : List Token) (k : List Want) (vs : List Val) → begins_function (T.ident p x ∷ t ∷ s) ≡ false →
    runs (T.ident p x ∷ t ∷ s) (asked d) (nt d' k_with_any ∷ k) vs ≡ run (T.mark M.With ∷ T.ident p x ∷ t ∷ s) (nt d' k_with_any ∷ k) vs
k_with_any_at d d' p x (T.mark M.Open) s k vs h = absurd (cc)
k_with_any_at d d' p x _ s k vs h = refl

k_with_any_owns : (d d' : ℕ) (s : List Token) (k : List Want) (vs : List Val) → begins_function s ≡ false → runs s (asked d) (nt d' k_with_any ∷ k) vs ≡ run (T.mark M.With ∷ s) (nt d' k_with_any ∷ k) vs
k_with_any_owns d d' [] k vs h = refl
k_with_any_owns d d' (T.ident p x ∷ []) k vs h = refl
k_with_any_owns d d' (T.ident p x ∷ t ∷ s) k vs h = k_with_any_at d d' p x t s k vs h
k_with_any_owns d d' (_ ∷ s) k vs h = refl

k_functions_at : (d d' p : ℕ) (x : List ℕ) (t : Token) (s : List Token) (k : List Want) (vs : List Val) → begins_function (T.ident p x ∷ t ∷ s) ≡ false →
    runs (T.ident p x ∷ t ∷ s) (asked d) (nt d' k_functions ∷ k) vs ≡ run (T.mark M.With ∷ T.ident p x ∷ t ∷ s) (nt d' k_functions ∷ k) vs
k_functions_at d d' p x (T.mark M.Open) s k vs h = absurd (cc)
k_functions_at d d' p x _ s k vs h = refl

k_functions_owns : (d d' : ℕ) (s : List Token) (k : List Want) (vs : List Val) → begins_function s ≡ false → runs s (asked d) (nt d' k_functions ∷ k) vs ≡ run (T.mark M.With ∷ s) (nt d' k_functions ∷ k) vs
k_functions_owns d d' [] k vs h = refl
k_functions_owns d d' (T.ident p x ∷ []) k vs h = refl
k_functions_owns d d' (T.ident p x ∷ t ∷ s) k vs h = k_functions_at d d' p x t s k vs h
k_functions_owns d d' (_ ∷ s) k vs h = refl

-- a with that belongs further out is read there
asked_owned : (d : ℕ) (k : List Want) (s : List Token) (vs : List Val) → begins_function s ≡ false → owner k ≡ Some true → runs s (asked d) k vs ≡ run (T.mark M.With ∷ s) k vs
asked_owned d [] s vs h e = absurd (cc)
asked_owned d (tok c ∷ k) s vs h e = absurd (owned_tok (passes c (T.mark M.With)) e)
asked_owned d (act a ∷ k) s vs h e = asked_same d d s (act a ∷ k) k vs (makes a vs) h (λ go bad. refl) ∙ asked_owned d k s (makes a vs) h e
asked_owned d (fix_tail d' ∷ k) s vs h e = asked_same d d' s (fix_tail d' ∷ k) k vs vs h (λ go bad. refl)
asked_owned d (nt d' k_file ∷ k) s vs h e = asked_same d d s (nt d' k_file ∷ k) k vs vs h (λ go bad. refl) ∙ asked_owned d k s vs h e
asked_owned d (nt d' k_commands ∷ k) s vs h e = asked_same d d s (nt d' k_commands ∷ k) k vs vs h (λ go bad. refl) ∙ asked_owned d k s vs h e
asked_owned d (nt d' k_required ∷ k) s vs h e = absurd (cc)
asked_owned d (nt d' k_quals ∷ k) s vs h e = asked_same d d s (nt d' k_quals ∷ k) k vs vs h (λ go bad. refl) ∙ asked_owned d k s vs h e
asked_owned d (nt d' k_level ∷ k) s vs h e = absurd (cc)
asked_owned d (nt d' k_relation ∷ k) s vs h e = absurd (cc)
asked_owned d (nt d' k_conses ∷ k) s vs h e = asked_same d d s (nt d' k_conses ∷ k) k vs vs h (λ go bad. refl) ∙ asked_owned d k s vs h e
asked_owned d (nt d' k_assums ∷ k) s vs h e = absurd (cc)
asked_owned d (nt d' k_idents ∷ k) s vs h e = asked_same d d s (nt d' k_idents ∷ k) k vs vs h (λ go bad. refl) ∙ asked_owned d k s vs h e
asked_owned d (nt d' k_bounds ∷ k) s vs h e = asked_same d d s (nt d' k_bounds ∷ k) k vs vs h (λ go bad. refl) ∙ asked_owned d k s vs h e
asked_owned d (nt d' k_bound_groups ∷ k) s vs h e = asked_same d d s (nt d' k_bound_groups ∷ k) k vs vs h (λ go bad. refl) ∙ asked_owned d k s vs h e
asked_owned d (nt d' k_names ∷ k) s vs h e = asked_same d d s (nt d' k_names ∷ k) k vs vs h (λ go bad. refl) ∙ asked_owned d k s vs h e
asked_owned d (nt d' k_groups ∷ k) s vs h e = asked_same d d s (nt d' k_groups ∷ k) k vs vs h (λ go bad. refl) ∙ asked_owned d k s vs h e
asked_owned d (nt d' k_binders ∷ k) s vs h e = absurd (cc)
asked_owned d (nt d' k_definition ∷ k) s vs h e = absurd (cc)
asked_owned d (nt d' k_function ∷ k) s vs h e = absurd (cc)
asked_owned d (nt d' k_struct ∷ k) s vs h e = asked_same d d s (nt d' k_struct ∷ k) k vs vs h (λ go bad. refl) ∙ asked_owned d k s vs h e
asked_owned d (nt d' k_fixpoints ∷ k) s vs h e = k_fixpoints_owns d d' s k vs h
asked_owned d (nt d' k_ind ∷ k) s vs h e = absurd (cc)
asked_owned d (nt d' k_inds ∷ k) s vs h e = k_inds_owns d d' s k vs h
asked_owned d (nt d' k_ctors ∷ k) s vs h e = asked_same d d s (nt d' k_ctors ∷ k) k vs vs h (λ go bad. refl) ∙ asked_owned d k s vs h e
asked_owned d (nt d' k_ctors_behind ∷ k) s vs h e = asked_same d d s (nt d' k_ctors_behind ∷ k) k vs vs h (λ go bad. refl) ∙ asked_owned d k s vs h e
asked_owned d (nt d' k_more_ctors ∷ k) s vs h e = asked_same d d s (nt d' k_more_ctors ∷ k) k vs vs h (λ go bad. refl) ∙ asked_owned d k s vs h e
asked_owned d (nt d' k_ctor ∷ k) s vs h e = absurd (cc)
asked_owned d (nt d' k_ctor_type ∷ k) s vs h e = asked_same d d s (nt d' k_ctor_type ∷ k) k vs vs h (λ go bad. refl) ∙ asked_owned d k s vs h e
asked_owned d (nt d' k_proof ∷ k) s vs h e = absurd (cc)
asked_owned d (nt d' k_proof_body ∷ k) s vs h e = absurd (cc)
asked_owned d (nt d' k_using ∷ k) s vs h e = absurd (cc)
asked_owned d (nt d' k_ending ∷ k) s vs h e = absurd (cc)
asked_owned d (nt d' k_qed ∷ k) s vs h e = absurd (cc)
asked_owned d (nt d' k_term ∷ k) s vs h e = absurd (cc)
asked_owned d (nt d' k_atom ∷ k) s vs h e = absurd (cc)
asked_owned d (nt d' k_some_groups ∷ k) s vs h e = absurd (cc)
asked_owned d (nt d' k_tail ∷ k) s vs h e = asked_same d d s (nt d' k_tail ∷ k) k vs vs h (λ go bad. refl) ∙ asked_owned d k s vs h e
asked_owned d (nt d' k_type_level ∷ k) s vs h e = asked_same d d s (nt d' k_type_level ∷ k) k vs vs h (λ go bad. refl) ∙ asked_owned d k s vs h e
asked_owned d (nt d' k_functions ∷ k) s vs h e = k_functions_owns d d' s k vs h
asked_owned d (nt d' k_as ∷ k) s vs h e = asked_same d d s (nt d' k_as ∷ k) k vs vs h (λ go bad. refl) ∙ asked_owned d k s vs h e
asked_owned d (nt d' k_in ∷ k) s vs h e = absurd (cc)
asked_owned d (nt d' k_with ∷ k) s vs h e = k_with_owns d d' s k vs h
asked_owned d (nt d' k_with_any ∷ k) s vs h e = k_with_any_owns d d' s k vs h
asked_owned d (nt d' k_branches ∷ k) s vs h e = absurd (cc)
asked_owned d (nt d' k_any_branches ∷ k) s vs h e = absurd (cc)
asked_owned d (nt d' k_branch ∷ k) s vs h e = absurd (cc)
asked_owned d (nt d' k_more_branches ∷ k) s vs h e = absurd (cc)

skip_other : (d : ℕ) (t : Token) (s : List Token) (k : List Want) (vs : List Val) → begins_with_function (t ∷ s) ≡ false → owner k ≡ Some true → run (t ∷ s) (fix_tail d ∷ k) vs ≡ run (t ∷ s) k vs
skip_other d (T.mark M.With) s k vs h e = asked_owned d k s vs h e
skip_other d _ s k vs h e = refl

pub fix_leaves : (d : ℕ) (s : List Token) (k : List Want) (vs : List Val) → begins_with_function s ≡ false → owner k ≡ Some true → run s (fix_tail d ∷ k) vs ≡ run s k vs
fix_leaves d [] k vs h e = refl
fix_leaves d (t ∷ s) k vs h e = skip_other d t s k vs h e

pub fix_ends : (d : ℕ) (t : Token) (s : List Token) (k : List Want) (vs : List Val) → is_with t ≡ false → run (t ∷ s) (fix_tail d ∷ k) vs ≡ run (t ∷ s) k vs
fix_ends d (T.mark M.With) s k vs h = absurd (cc)
fix_ends d _ s k vs h = refl

pub fix_over : (d : ℕ) (s : List Token) (k : List Want) (vs : List Val) → begins_with s ≡ false → run s (fix_tail d ∷ k) vs ≡ run s k vs
fix_over d [] k vs h = refl
fix_over d (T.mark M.With ∷ s) k vs h = absurd (cc)
fix_over d (_ ∷ s) k vs h = refl

pub fix_outer : (d : ℕ) (s : List Token) (k : List Want) (vs : List Val) → begins_function s ≡ false → owner k ≡ Some true → run (T.mark M.With ∷ s) (fix_tail d ∷ k) vs ≡ run (T.mark M.With ∷ s) k vs
fix_outer d s k vs h e = asked_owned d k s vs h e

refused : (b : Bool) (go bad : Outcome) → cond b None (Some false) ≡ Some false → cond b go bad ≡ bad
refused true go bad e = absurd (cc)
refused false go bad e = refl

-- nothing further out takes a with
unowned : (k : List Want) (go : Go) (bad : Why → Outcome) (vs : List Val) → owner k ≡ Some false → step outer k (T.mark M.With) go bad vs ≡ bad syntax
unowned [] go bad vs e = refl
unowned (tok c ∷ k) go bad vs e = refused (passes c (T.mark M.With)) (go plainly k (puts c (T.mark M.With) vs)) (bad syntax) e
unowned (act a ∷ k) go bad vs e = unowned k go bad (makes a vs) e
unowned (fix_tail d ∷ k) go bad vs e = unowned k go bad vs e
unowned (nt d k_file ∷ k) go bad vs e = unowned k go bad vs e
unowned (nt d k_commands ∷ k) go bad vs e = unowned k go bad vs e
unowned (nt d k_required ∷ k) go bad vs e = refl
unowned (nt d k_quals ∷ k) go bad vs e = unowned k go bad vs e
unowned (nt d k_level ∷ k) go bad vs e = refl
unowned (nt d k_relation ∷ k) go bad vs e = refl
unowned (nt d k_conses ∷ k) go bad vs e = unowned k go bad vs e
unowned (nt d k_assums ∷ k) go bad vs e = refl
unowned (nt d k_idents ∷ k) go bad vs e = unowned k go bad vs e
unowned (nt d k_bounds ∷ k) go bad vs e = unowned k go bad vs e
unowned (nt d k_bound_groups ∷ k) go bad vs e = unowned k go bad vs e
unowned (nt d k_names ∷ k) go bad vs e = unowned k go bad vs e
unowned (nt d k_groups ∷ k) go bad vs e = unowned k go bad vs e
unowned (nt d k_binders ∷ k) go bad vs e = refl
unowned (nt d k_definition ∷ k) go bad vs e = refl
unowned (nt d k_function ∷ k) go bad vs e = refl
unowned (nt d k_struct ∷ k) go bad vs e = unowned k go bad vs e
unowned (nt d k_fixpoints ∷ k) go bad vs e = absurd (cc)
unowned (nt d k_ind ∷ k) go bad vs e = refl
unowned (nt d k_inds ∷ k) go bad vs e = absurd (cc)
unowned (nt d k_ctors ∷ k) go bad vs e = unowned k go bad vs e
unowned (nt d k_ctors_behind ∷ k) go bad vs e = unowned k go bad vs e
unowned (nt d k_more_ctors ∷ k) go bad vs e = unowned k go bad vs e
unowned (nt d k_ctor ∷ k) go bad vs e = refl
unowned (nt d k_ctor_type ∷ k) go bad vs e = unowned k go bad vs e
unowned (nt d k_proof ∷ k) go bad vs e = refl
unowned (nt d k_proof_body ∷ k) go bad vs e = refl
unowned (nt d k_using ∷ k) go bad vs e = refl
unowned (nt d k_ending ∷ k) go bad vs e = refl
unowned (nt d k_qed ∷ k) go bad vs e = refl
unowned (nt d k_term ∷ k) go bad vs e = refl
unowned (nt d k_atom ∷ k) go bad vs e = refl
unowned (nt d k_some_groups ∷ k) go bad vs e = refl
unowned (nt d k_tail ∷ k) go bad vs e = unowned k go bad vs e
unowned (nt d k_type_level ∷ k) go bad vs e = unowned k go bad vs e
unowned (nt d k_functions ∷ k) go bad vs e = absurd (cc)
unowned (nt d k_as ∷ k) go bad vs e = unowned k go bad vs e
unowned (nt d k_in ∷ k) go bad vs e = refl
unowned (nt d k_with ∷ k) go bad vs e = absurd (cc)
unowned (nt d k_with_any ∷ k) go bad vs e = absurd (cc)
unowned (nt d k_branches ∷ k) go bad vs e = refl
unowned (nt d k_any_branches ∷ k) go bad vs e = refl
unowned (nt d k_branch ∷ k) go bad vs e = refl
unowned (nt d k_more_branches ∷ k) go bad vs e = refl

fix_fails_name : (d p : ℕ) (x : List ℕ) (t : Token) (s : List Token) (k : List Want) (vs : List Val) → begins_function (T.ident p x ∷ t ∷ s) ≡ false → owner k ≡ Some false → runs (T.ident p x ∷ t ∷ s) (asked d) k vs ≡ Fail syntax (suc (length s))
fix_fails_name d p x (T.mark M.Open) s k vs h e = absurd (cc)
fix_fails_name d p x _ s k vs h e = unowned k _ _ vs e

-- a with that nothing can take fails behind the identifier that may follow it
pub fix_fails : (d : ℕ) (s : List Token) (k : List Want) (vs : List Val) → begins_function s ≡ false → owner k ≡ Some false → run (T.mark M.With ∷ s) (fix_tail d ∷ k) vs ≡ Fail syntax (with_left s)
fix_fails d [] k vs h e = refl
fix_fails d (T.ident p x ∷ []) k vs h e = refl
fix_fails d (T.ident p x ∷ t ∷ s) k vs h e = fix_fails_name d p x t s k vs h e
fix_fails d (_ ∷ s) k vs h e = unowned k _ _ vs e

pub struct_ends : (d : ℕ) (s : List Token) (k : List Want) (vs : List Val) → begins_brace s ≡ false → run s (nt d k_struct ∷ k) vs ≡ run s k vs
struct_ends d [] k vs h = refl
struct_ends d (T.mark M.BraceOpen ∷ s) k vs h = absurd (cc)
struct_ends d (_ ∷ s) k vs h = refl

open_at : (d : ℕ) (b : Bool) (x : Mark) (s : List Token) (k : List Want) (vs : List Val) → passes (mark M.Open) (T.mark x) ≡ b → run (T.mark x ∷ s) (nt d k_some_groups ∷ k) vs ≡ run (T.mark x ∷ s) (m M.Open ∷ (in_group d ++ (nt d k_groups ∷ k))) vs
open_at d true x s k vs e = rw e refl
open_at d false x s k vs e = rw e refl

pub some_groups_are : (d : ℕ) (s : List Token) (k : List Want) (vs : List Val) → run s (nt d k_some_groups ∷ k) vs ≡ run s (m M.Open ∷ (in_group d ++ (nt d k_groups ∷ k))) vs
some_groups_are d [] k vs = refl
some_groups_are d (T.ident p x ∷ s) k vs = refl
some_groups_are d (T.path p x ∷ s) k vs = refl
some_groups_are d (T.mark x ∷ s) k vs = open_at d (passes (mark M.Open) (T.mark x)) x s k vs refl

-- branches with no bar before the first
pub branches_plain : (d : ℕ) (s : List Token) (k : List Want) (vs : List Val) → begins_bar s ≡ false → run s (nt d k_branches ∷ k) vs ≡ run s (nt d k_branch ∷ nt d k_more_branches ∷ k) vs
branches_plain d [] k vs h = refl
branches_plain d (T.mark M.Bar ∷ s) k vs h = absurd (cc)
branches_plain d (_ ∷ s) k vs h = refl

pub branches_bar : (d : ℕ) (s : List Token) (k : List Want) (vs : List Val) → run (T.mark M.Bar ∷ s) (nt d k_branches ∷ k) vs ≡ run s (nt d k_branch ∷ nt d k_more_branches ∷ k) vs
branches_bar d s k vs = refl

pub any_end : (d : ℕ) (s : List Token) (k : List Want) (vs : List Val) → run (T.mark M.End ∷ s) (nt d k_any_branches ∷ k) vs ≡ run s k vs
any_end d s k vs = refl

pub any_some : (d : ℕ) (s : List Token) (k : List Want) (vs : List Val) → begins_end s ≡ false → run s (nt d k_any_branches ∷ k) vs ≡ run s (nt d k_branches ∷ k) vs
any_some d [] k vs h = refl
any_some d (T.mark M.End ∷ s) k vs h = absurd (cc)
any_some d (_ ∷ s) k vs h = refl

pub branch_is : (d : ℕ) (s : List Token) (k : List Want) (vs : List Val) → run s (nt d k_branch ∷ k) vs ≡ run s (tok qualid ∷ (branch_behind d ++ k)) vs
branch_is d [] k vs = refl
branch_is d (T.ident p x ∷ s) k vs = refl
branch_is d (T.path p x ∷ s) k vs = refl
branch_is d (T.mark x ∷ s) k vs = refl

with_at : (d : ℕ) (b : Bool) (x : Mark) (s : List Token) (k : List Want) (vs : List Val) → passes (mark M.With) (T.mark x) ≡ b → run (T.mark x ∷ s) (nt d k_with ∷ k) vs ≡ run (T.mark x ∷ s) (m M.With ∷ act (push (branches no_branches)) ∷ nt d k_branches ∷ k) vs
with_at d true x s k vs e = rw e refl
with_at d false x s k vs e = rw e refl

with_any_at : (d : ℕ) (b : Bool) (x : Mark) (s : List Token) (k : List Want) (vs : List Val) → passes (mark M.With) (T.mark x) ≡ b → run (T.mark x ∷ s) (nt d k_with_any ∷ k) vs ≡ run (T.mark x ∷ s) (m M.With ∷ act (push (branches no_branches)) ∷ nt d k_any_branches ∷ k) vs
with_any_at d true x s k vs e = rw e refl
with_any_at d false x s k vs e = rw e refl

pub with_is : (d : ℕ) (s : List Token) (k : List Want) (vs : List Val) → run s (nt d k_with ∷ k) vs ≡ run s (m M.With ∷ act (push (branches no_branches)) ∷ nt d k_branches ∷ k) vs
with_is d [] k vs = refl
with_is d (T.ident p x ∷ s) k vs = refl
with_is d (T.path p x ∷ s) k vs = refl
with_is d (T.mark x ∷ s) k vs = with_at d (passes (mark M.With) (T.mark x)) x s k vs refl

pub with_any_is : (d : ℕ) (s : List Token) (k : List Want) (vs : List Val) → run s (nt d k_with_any ∷ k) vs ≡ run s (m M.With ∷ act (push (branches no_branches)) ∷ nt d k_any_branches ∷ k) vs
with_any_is d [] k vs = refl
with_any_is d (T.ident p x ∷ s) k vs = refl
with_any_is d (T.path p x ∷ s) k vs = refl
with_any_is d (T.mark x ∷ s) k vs = with_any_at d (passes (mark M.With) (T.mark x)) x s k vs refl
