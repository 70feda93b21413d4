-- The rows of the parts of commands that begin with a word.
use Rattle.std.proofs.Common.{◌≡◌, ℕ, Bool, true, false, List, [], ◌∷◌, length, refl, subst, codes}
use Prim.Native.String.{String}
use Rattle.std.proofs.lemmas.Slice.Eq.{bytes_eq-Decides}
use Rattle.std.specs.Str.{bytes_eq}
use Rattle.gal_lexer.specs.declared.token.Mark.{Mark}
use Rattle.gal_lexer.specs.declared.token.Mark.TheVariants as M
use Rattle.gal_grammar.specs.Tokens.{Token}
use Rattle.gal_grammar.specs.Tokens as T
use Rattle.gal_grammar.specs.Terms.{named, short, long}
use Rattle.gal_grammar.specs.Commands.{not_said, qed, defined, given_up, using_all, import, export}
use Rattle.gal_grammar.specs.Tests.{mark, word, ident, qualid, passes}
use Rattle.gal_grammar.specs.Values.{Val, using, names, quals, a_name, a_qual}
use Rattle.gal_grammar.specs.Actions.{push, push_below, add_name, mk_proof, mk_no_proof, say_definition_by, set_using, set_using_names, set_flag, add_qual}
use Rattle.gal_grammar.specs.Kinds.{Want, tok, act, nt, k_definition, k_proof, k_proof_body, k_using, k_ending, k_qed, k_idents, k_required, k_quals}
use Rattle.gal_grammar.specs.Rules.{m, w, a_term}
use Rattle.gal_grammar.specs.calls.Machine.{run, Fail, syntax}
use Rattle.gal_grammar.proofs.Complete.{act_runs}
use Rattle.gal_term_parser.specs.calls.Steps.{begins}

pub is_word : (u : String) (x : List ℕ) → bytes_eq (codes u) x ≡ true → codes u ≡ x
is_word u x e = (bytes_eq-Decides (codes u) x).0 e

-- what holds where the word stands first holds of each list that begins with it
pub at_word : (P : List Token → Type 0) (u : String) → ((p : ℕ) (s : List Token) → P (T.ident p (codes u) ∷ s)) → (s : List Token) → begins (word u) s ≡ true → P s
at_word P u h [] e = absurd (cc)
at_word P u h (T.mark x ∷ s) e = absurd (cc)
at_word P u h (T.path p x ∷ s) e = absurd (cc)
at_word P u h (T.ident p x ∷ s) e = subst (λ y. P (T.ident p y ∷ s)) (is_word u x e) (h p s)

pub qed_row : (s : List Token) (k : List Want) (vs : List Val) → begins (word "Qed") s ≡ true → run s (nt 0 k_qed ∷ k) vs ≡ run s (w "Qed" ∷ m M.Stop ∷ act (mk_proof qed) ∷ k) vs
qed_row s k vs e = at_word (λ s. run s (nt 0 k_qed ∷ k) vs ≡ run s (w "Qed" ∷ m M.Stop ∷ act (mk_proof qed) ∷ k) vs) "Qed" (λ p s. refl) s e

pub defined_row : (s : List Token) (k : List Want) (vs : List Val) → begins (word "Defined") s ≡ true → run s (nt 0 k_qed ∷ k) vs ≡ run s (w "Defined" ∷ m M.Stop ∷ act (mk_proof defined) ∷ k) vs
defined_row s k vs e = at_word (λ s. run s (nt 0 k_qed ∷ k) vs ≡ run s (w "Defined" ∷ m M.Stop ∷ act (mk_proof defined) ∷ k) vs) "Defined" (λ p s. refl) s e

pub admitted_row : (s : List Token) (k : List Want) (vs : List Val) → begins (word "Admitted") s ≡ true → run s (nt 0 k_qed ∷ k) vs ≡ run s (w "Admitted" ∷ m M.Stop ∷ act (mk_proof given_up) ∷ k) vs
admitted_row s k vs e = at_word (λ s. run s (nt 0 k_qed ∷ k) vs ≡ run s (w "Admitted" ∷ m M.Stop ∷ act (mk_proof given_up) ∷ k) vs) "Admitted" (λ p s. refl) s e

pub no_qed : (s : List Token) (k : List Want) (vs : List Val) → begins (word "Qed") s ≡ false → begins (word "Defined") s ≡ false → begins (word "Admitted") s ≡ false → run s (nt 0 k_qed ∷ k) vs ≡ Fail syntax (length s)
no_qed [] k vs e f g = refl
no_qed (T.mark x ∷ s) k vs e f g = refl
no_qed (T.path p x ∷ s) k vs e f g = refl
no_qed (T.ident p x ∷ s) k vs e f g = rw (e, f, g) refl

pub exact_row : (s : List Token) (k : List Want) (vs : List Val) → begins (word "exact") s ≡ true → run s (nt 0 k_ending ∷ k) vs ≡ run s (w "exact" ∷ a_term 0 ∷ m M.Stop ∷ nt 0 k_qed ∷ k) vs
exact_row s k vs e = at_word (λ s. run s (nt 0 k_ending ∷ k) vs ≡ run s (w "exact" ∷ a_term 0 ∷ m M.Stop ∷ nt 0 k_qed ∷ k) vs) "exact" (λ p s. refl) s e

admitted_at : (b : Bool) (p : ℕ) (x : List ℕ) (s : List Token) (k : List Want) (vs : List Val) → bytes_eq (codes "exact") x ≡ false → bytes_eq (codes "Admitted") x ≡ b →
    run (T.ident p x ∷ s) (nt 0 k_ending ∷ k) vs ≡ run (T.ident p x ∷ s) (w "Admitted" ∷ m M.Stop ∷ act mk_no_proof ∷ k) vs
admitted_at true p x s k vs e f = rw (e, f) refl
admitted_at false p x s k vs e f = rw (e, f) refl

pub admitted_alone : (s : List Token) (k : List Want) (vs : List Val) → begins (word "exact") s ≡ false → run s (nt 0 k_ending ∷ k) vs ≡ run s (w "Admitted" ∷ m M.Stop ∷ act mk_no_proof ∷ k) vs
admitted_alone [] k vs e = refl
admitted_alone (T.mark x ∷ s) k vs e = refl
admitted_alone (T.path p x ∷ s) k vs e = refl
admitted_alone (T.ident p x ∷ s) k vs e = admitted_at (bytes_eq (codes "Admitted") x) p x s k vs e refl

pub proof_row : (s : List Token) (k : List Want) (vs : List Val) → begins (word "Proof") s ≡ true → run s (nt 0 k_proof ∷ k) vs ≡ run s (w "Proof" ∷ nt 0 k_proof_body ∷ k) vs
proof_row s k vs e = at_word (λ s. run s (nt 0 k_proof ∷ k) vs ≡ run s (w "Proof" ∷ nt 0 k_proof_body ∷ k) vs) "Proof" (λ p s. refl) s e

pub proof_plain : (s : List Token) (k : List Want) (vs : List Val) → begins (word "Proof") s ≡ false → run s (nt 0 k_proof ∷ k) vs ≡ run s (nt 0 k_ending ∷ k) vs
proof_plain [] k vs e = refl
proof_plain (T.mark x ∷ s) k vs e = refl
proof_plain (T.path p x ∷ s) k vs e = refl
proof_plain (T.ident p x ∷ s) k vs e = rw e refl

pub using_row : (s : List Token) (k : List Want) (vs : List Val) → begins (word "using") s ≡ true → run s (nt 0 k_proof_body ∷ k) vs ≡ run s (w "using" ∷ nt 0 k_using ∷ m M.Stop ∷ nt 0 k_ending ∷ k) vs
using_row s k vs e = at_word (λ s. run s (nt 0 k_proof_body ∷ k) vs ≡ run s (w "using" ∷ nt 0 k_using ∷ m M.Stop ∷ nt 0 k_ending ∷ k) vs) "using" (λ p s. refl) s e

pub using_all_row : (s : List Token) (k : List Want) (vs : List Val) → begins (word "All") s ≡ true → run s (nt 0 k_using ∷ k) vs ≡ run s (w "All" ∷ act (set_using using_all) ∷ k) vs
using_all_row s k vs e = at_word (λ s. run s (nt 0 k_using ∷ k) vs ≡ run s (w "All" ∷ act (set_using using_all) ∷ k) vs) "All" (λ p s. refl) s e

pub using_names_row : (s : List Token) (k : List Want) (vs : List Val) → begins (mark M.Typ) s ≡ false → begins (word "All") s ≡ false →
    run s (nt 0 k_using ∷ k) vs ≡ run s (act (push (names [])) ∷ tok ident ∷ act add_name ∷ nt 0 k_idents ∷ act set_using_names ∷ k) vs
using_names_row [] k vs e f = refl
using_names_row (T.mark x ∷ s) k vs e f = rw e refl
using_names_row (T.path p x ∷ s) k vs e f = refl
using_names_row (T.ident p x ∷ s) k vs e f = rw f (act_runs s (push_below (names [])) (act add_name ∷ nt 0 k_idents ∷ act set_using_names ∷ k) (a_name (named p x) ∷ vs))

definition_at : (b : Bool) (x : Mark) (s : List Token) (k : List Want) (vs : List Val) → passes (mark M.Assign) (T.mark x) ≡ false → passes (mark M.Stop) (T.mark x) ≡ b →
    run (T.mark x ∷ s) (nt 0 k_definition ∷ k) vs ≡ run (T.mark x ∷ s) (m M.Stop ∷ act (push (using not_said)) ∷ nt 0 k_proof ∷ act say_definition_by ∷ k) vs
definition_at true x s k vs e f = rw (e, f) refl
definition_at false x s k vs e f = rw (e, f) refl

pub definition_by : (s : List Token) (k : List Want) (vs : List Val) → begins (mark M.Assign) s ≡ false →
    run s (nt 0 k_definition ∷ k) vs ≡ run s (m M.Stop ∷ act (push (using not_said)) ∷ nt 0 k_proof ∷ act say_definition_by ∷ k) vs
definition_by [] k vs e = refl
definition_by (T.mark x ∷ s) k vs e = definition_at (passes (mark M.Stop) (T.mark x)) x s k vs e refl
definition_by (T.path p x ∷ s) k vs e = refl
definition_by (T.ident p x ∷ s) k vs e = refl

pub body_is_term : (s : List Token) (k : List Want) (vs : List Val) → begins (word "using") s ≡ false → begins (mark M.Stop) s ≡ false →
    run s (nt 0 k_proof_body ∷ k) vs ≡ run s (a_term 0 ∷ m M.Stop ∷ act (mk_proof qed) ∷ k) vs
body_is_term [] k vs e f = refl
body_is_term (T.ident p x ∷ s) k vs e f = rw e refl
body_is_term (T.path p x ∷ s) k vs e f = refl
body_is_term (T.mark M.Stop ∷ s) k vs e f = absurd (cc)
body_is_term (T.mark M.Forall ∷ s) k vs e f = refl
body_is_term (T.mark M.Fun ∷ s) k vs e f = refl
body_is_term (T.mark M.Let ∷ s) k vs e f = refl
body_is_term (T.mark M.Fix ∷ s) k vs e f = refl
body_is_term (T.mark M.At ∷ s) k vs e f = refl
body_is_term (T.mark M.Prop ∷ s) k vs e f = refl
body_is_term (T.mark M.Set ∷ s) k vs e f = refl
body_is_term (T.mark M.Typ ∷ s) k vs e f = refl
body_is_term (T.mark M.Open ∷ s) k vs e f = refl
body_is_term (T.mark M.Match ∷ s) k vs e f = refl
body_is_term (T.mark _ ∷ s) k vs e f = refl

pub import_row : (s : List Token) (k : List Want) (vs : List Val) → begins (word "Import") s ≡ true → run s (nt 0 k_required ∷ k) vs ≡ run s (w "Import" ∷ act (set_flag import) ∷ act (push (quals [])) ∷ tok qualid ∷ act add_qual ∷ nt 0 k_quals ∷ k) vs
import_row s k vs e = at_word (λ s. run s (nt 0 k_required ∷ k) vs ≡ run s (w "Import" ∷ act (set_flag import) ∷ act (push (quals [])) ∷ tok qualid ∷ act add_qual ∷ nt 0 k_quals ∷ k) vs) "Import" (λ p s. refl) s e

pub export_row : (s : List Token) (k : List Want) (vs : List Val) → begins (word "Export") s ≡ true → run s (nt 0 k_required ∷ k) vs ≡ run s (w "Export" ∷ act (set_flag export) ∷ act (push (quals [])) ∷ tok qualid ∷ act add_qual ∷ nt 0 k_quals ∷ k) vs
export_row s k vs e = at_word (λ s. run s (nt 0 k_required ∷ k) vs ≡ run s (w "Export" ∷ act (set_flag export) ∷ act (push (quals [])) ∷ tok qualid ∷ act add_qual ∷ nt 0 k_quals ∷ k) vs) "Export" (λ p s. refl) s e

pub required_plain : (s : List Token) (k : List Want) (vs : List Val) → begins (word "Import") s ≡ false → begins (word "Export") s ≡ false → run s (nt 0 k_required ∷ k) vs ≡ run s (act (push (quals [])) ∷ tok qualid ∷ act add_qual ∷ nt 0 k_quals ∷ k) vs
required_plain [] k vs e f = refl
required_plain (T.mark x ∷ s) k vs e f = refl
required_plain (T.path p x ∷ s) k vs e f = act_runs s (push_below (quals [])) (act add_qual ∷ nt 0 k_quals ∷ k) (a_qual (long p x) ∷ vs)
required_plain (T.ident p x ∷ s) k vs e f = rw (e, f) (act_runs s (push_below (quals [])) (act add_qual ∷ nt 0 k_quals ∷ k) (a_qual (short p x) ∷ vs))
