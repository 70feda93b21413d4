-- Parts of commands that begin with one token or are absent.
use Rattle.std.proofs.Common.{◌≡◌, ℕ, false, List, [], ◌∷◌, refl, sym, ◌∙◌}
use Rattle.gal_lexer.specs.declared.token.Mark.TheVariants as M
use Rattle.gal_grammar.specs.Tokens.{Token}
use Rattle.gal_grammar.specs.Tokens as T
use Rattle.gal_grammar.specs.Terms.{named, bound}
use Rattle.gal_grammar.specs.Tests.{mark, ident}
use Rattle.gal_grammar.specs.Values.{Val, binders, a_binder}
use Rattle.gal_grammar.specs.Actions.{push, push_below, bind, add_binder, add_group}
use Rattle.gal_grammar.specs.Kinds.{Want, tok, act, nt, k_conses, k_bound_groups, k_fixpoints, k_assums, k_bounds}
use Rattle.gal_grammar.specs.Rules.{m, a_term}
use Rattle.gal_grammar.specs.calls.Machine.{run}
use Rattle.gal_grammar.proofs.Complete.{act_runs}
use Rattle.gal_term_parser.specs.calls.Steps.{begins}

pub conses_end : (d : ℕ) (s : List Token) (k : List Want) (vs : List Val) → begins (mark M.Comma) s ≡ false → run s (nt d k_conses ∷ k) vs ≡ run s k vs
conses_end d [] k vs e = refl
conses_end d (t ∷ s) k vs e = rw e refl

pub bound_groups_end : (d : ℕ) (s : List Token) (k : List Want) (vs : List Val) → begins (mark M.Open) s ≡ false → run s (nt d k_bound_groups ∷ k) vs ≡ run s k vs
bound_groups_end d [] k vs e = refl
bound_groups_end d (t ∷ s) k vs e = rw e refl

pub fixpoints_end : (d : ℕ) (s : List Token) (k : List Want) (vs : List Val) → begins (mark M.With) s ≡ false → run s (nt d k_fixpoints ∷ k) vs ≡ run s k vs
fixpoints_end d [] k vs e = refl
fixpoints_end d (t ∷ s) k vs e = rw e refl

pub bare_assumptions : (d : ℕ) (s : List Token) (k : List Want) (vs : List Val) → begins (mark M.Open) s ≡ false →
    run s (nt d k_assums ∷ k) vs ≡ run s (act (push (binders [])) ∷ tok ident ∷ act bind ∷ act add_binder ∷ nt d k_bounds ∷ m M.Colon ∷ a_term d ∷ act add_group ∷ k) vs
bare_assumptions d [] k vs e = refl
bare_assumptions d (T.mark x ∷ s) k vs e = rw e refl
bare_assumptions d (T.path p x ∷ s) k vs e = refl
bare_assumptions d (T.ident p x ∷ s) k vs e =
    act_runs s bind (act (push_below (binders [])) ∷ act add_binder ∷ nt d k_bounds ∷ m M.Colon ∷ a_term d ∷ act add_group ∷ k) _
    ∙ act_runs s (push_below (binders [])) (act add_binder ∷ nt d k_bounds ∷ m M.Colon ∷ a_term d ∷ act add_group ∷ k) (a_binder (bound (named p x)) ∷ vs)
    ∙ sym (act_runs s bind (act add_binder ∷ nt d k_bounds ∷ m M.Colon ∷ a_term d ∷ act add_group ∷ k) _)
