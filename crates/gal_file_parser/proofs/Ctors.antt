-- The parts of inductive types.
use Rattle.std.proofs.Common.{◌≡◌, true, false, List, [], ◌∷◌, ◌++◌, refl}
use Rattle.gal_lexer.specs.declared.token.Mark.TheVariants as M
use Rattle.gal_grammar.specs.Tokens.{Token}
use Rattle.gal_grammar.specs.Tokens as T
use Rattle.gal_grammar.specs.Terms.{no_groups}
use Rattle.gal_grammar.specs.Tests.{mark, ident}
use Rattle.gal_grammar.specs.Values.{Val, groups, ctors}
use Rattle.gal_grammar.specs.Actions.{push, add_ind}
use Rattle.gal_grammar.specs.Kinds.{Want, tok, act, nt, k_ctor, k_ctor_type, k_ctors, k_ctors_behind, k_more_ctors, k_ind, k_inds, k_groups}
use Rattle.gal_grammar.specs.Rules.{m, a_term, ctor_behind}
use Rattle.gal_grammar.specs.calls.Machine.{run}
use Rattle.gal_term_parser.specs.calls.Steps.{begins}

pub no_ctor_type : (s : List Token) (k : List Want) (vs : List Val) → begins (mark M.Colon) s ≡ false → run s (nt 0 k_ctor_type ∷ k) vs ≡ run s k vs
no_ctor_type [] k vs e = refl
no_ctor_type (t ∷ s) k vs e = rw e refl

pub ctors_end : (s : List Token) (k : List Want) (vs : List Val) → begins (mark M.Bar) s ≡ false → run s (nt 0 k_more_ctors ∷ k) vs ≡ run s k vs
ctors_end [] k vs e = refl
ctors_end (t ∷ s) k vs e = rw e refl

pub no_ctors : (s : List Token) (k : List Want) (vs : List Val) → begins ident s ≡ false → run s (nt 0 k_ctors_behind ∷ k) vs ≡ run s k vs
no_ctors [] k vs e = refl
no_ctors (t ∷ s) k vs e = rw e refl

pub ctors_are : (s : List Token) (k : List Want) (vs : List Val) → begins ident s ≡ true → run s (nt 0 k_ctors_behind ∷ k) vs ≡ run s (tok ident ∷ (ctor_behind 0 ++ (nt 0 k_more_ctors ∷ k))) vs
ctors_are [] k vs e = absurd (cc)
ctors_are (t ∷ s) k vs e = rw e refl

pub ctors_plain : (s : List Token) (k : List Want) (vs : List Val) → begins (mark M.Bar) s ≡ false → run s (nt 0 k_ctors ∷ k) vs ≡ run s (nt 0 k_ctors_behind ∷ k) vs
ctors_plain [] k vs e = refl
ctors_plain (T.mark x ∷ s) k vs e = rw e refl
ctors_plain (T.path p x ∷ s) k vs e = refl
ctors_plain (T.ident p x ∷ s) k vs e = refl

pub ctor_is : (s : List Token) (k : List Want) (vs : List Val) → run s (nt 0 k_ctor ∷ k) vs ≡ run s (tok ident ∷ (ctor_behind 0 ++ k)) vs
ctor_is [] k vs = refl
ctor_is (T.ident p x ∷ s) k vs = refl
ctor_is (T.path p x ∷ s) k vs = refl
ctor_is (T.mark x ∷ s) k vs = refl

pub ind_is : (s : List Token) (k : List Want) (vs : List Val) →
    run s (nt 0 k_ind ∷ k) vs ≡ run s (tok ident ∷ act (push (groups no_groups)) ∷ nt 0 k_groups ∷ m M.Colon ∷ a_term 0 ∷ m M.Assign ∷ act (push (ctors [])) ∷ nt 0 k_ctors ∷ act add_ind ∷ k) vs
ind_is [] k vs = refl
ind_is (T.ident p x ∷ s) k vs = refl
ind_is (T.path p x ∷ s) k vs = refl
ind_is (T.mark x ∷ s) k vs = refl

pub inds_end : (s : List Token) (k : List Want) (vs : List Val) → begins (mark M.With) s ≡ false → run s (nt 0 k_inds ∷ k) vs ≡ run s k vs
inds_end [] k vs e = refl
inds_end (t ∷ s) k vs e = rw e refl
