-- The rows of commands by their first words, and the end of a file's commands.
use Rattle.std.proofs.Common.{◌≡◌, ℕ, Bool, true, false, cond, List, [], ◌∷◌, ◌++◌, Option, Some, None, refl, sym, subst, codes}
use Prim.Native.String.{String}
use Rattle.std.specs.Str.{bytes_eq}
use Rattle.gal_lexer.specs.declared.token.Mark.TheVariants as M
use Rattle.gal_grammar.specs.Tokens.{Token}
use Rattle.gal_grammar.specs.Tokens as T
use Rattle.gal_grammar.specs.Tests.{word, ident, passes}
use Rattle.gal_grammar.specs.Values.{Val, flag, maybe_name}
use Rattle.gal_grammar.specs.Commands.{plain}
use Rattle.gal_grammar.specs.Actions.{push, set_name, say_require}
use Rattle.gal_grammar.specs.Kinds.{Want, Row, row, tok, act, nt, k_file, k_commands, k_required}
use Rattle.gal_grammar.specs.Rules.{m, w, rules}
use Rattle.gal_grammar.specs.Grammar.{pick}
use Rattle.gal_grammar.specs.calls.Machine.{run}
use Rattle.gal_file_parser.specs.declared.openings.Opening.{Opening}
use Rattle.gal_file_parser.specs.declared.openings.Opening.TheVariants as O
use Rattle.gal_file_parser.specs.calls.Openings.{words_of, behind, is_one, opening_in, early, late, first_found, opening_of}
use Rattle.gal_term_parser.specs.calls.Steps.{begins}
use Rattle.gal_file_parser.proofs.Rows.{is_word, at_word}

abbrev Each : (List ℕ → Type 0) → List String → Type 0
Each P [] = Unit {0}
Each P (u ∷ us) = P (codes u) × Each P us

one_by : (P : List ℕ → Type 0) (u : String) (x : List ℕ) (b rest : Bool) → bytes_eq (codes u) x ≡ b → cond b true rest ≡ true → P (codes u) → (rest ≡ true → P x) → P x
one_by P u x true rest e f h g = subst P (is_word u x e) h
one_by P u x false rest e f h g = g f

one_of : (P : List ℕ → Type 0) (us : List String) (x : List ℕ) → is_one us x ≡ true → Each P us → P x
one_of P [] x e h = absurd (cc)
one_of P (u ∷ us) x e h = one_by P u x (bytes_eq (codes u) x) (is_one us x) refl e h.0 (λ f. one_of P us x f h.1)

abbrev Opens : Opening → ℕ → List Token → List Want → List Val → List ℕ → Type 0
Opens o p s k vs y = run (T.ident p y ∷ s) (nt 0 k_commands ∷ k) vs ≡ run s (behind o ++ (nt 0 k_commands ∷ k)) vs

pub open_row : (o : Opening) (x : List ℕ) → is_one (words_of o) x ≡ true → (p : ℕ) (s : List Token) (k : List Want) (vs : List Val) →
    run (T.ident p x ∷ s) (nt 0 k_commands ∷ k) vs ≡ run s (behind o ++ (nt 0 k_commands ∷ k)) vs
open_row O.Universe x e p s k vs = one_of (Opens O.Universe p s k vs) (words_of O.Universe) x e (refl, (refl, tt))
open_row O.Constraint x e p s k vs = one_of (Opens O.Constraint p s k vs) (words_of O.Constraint) x e (refl, tt)
open_row O.Axiom x e p s k vs = one_of (Opens O.Axiom p s k vs) (words_of O.Axiom) x e (refl, (refl, (refl, (refl, (refl, tt)))))
open_row O.Variable x e p s k vs = one_of (Opens O.Variable p s k vs) (words_of O.Variable) x e (refl, (refl, (refl, (refl, tt))))
open_row O.Definition x e p s k vs = one_of (Opens O.Definition p s k vs) (words_of O.Definition) x e (refl, (refl, tt))
open_row O.Local x e p s k vs = one_of (Opens O.Local p s k vs) (words_of O.Local) x e (refl, tt)
open_row O.Fixpoint x e p s k vs = one_of (Opens O.Fixpoint p s k vs) (words_of O.Fixpoint) x e (refl, tt)
open_row O.Inductive x e p s k vs = one_of (Opens O.Inductive p s k vs) (words_of O.Inductive) x e (refl, tt)
open_row O.Theorem x e p s k vs = one_of (Opens O.Theorem p s k vs) (words_of O.Theorem) x e (refl, (refl, (refl, (refl, (refl, (refl, tt))))))
open_row O.Section x e p s k vs = one_of (Opens O.Section p s k vs) (words_of O.Section) x e (refl, tt)
open_row O.End x e p s k vs = one_of (Opens O.End p s k vs) (words_of O.End) x e (refl, tt)

-- the word is none of these
abbrev no_word : List String → List ℕ → Bool
no_word [] x = true
no_word (u ∷ us) x = cond (bytes_eq (codes u) x) false (no_word us x)

abbrev words_in : List Opening → List String
words_in [] = []
words_in (o ∷ os) = words_of o ++ words_in os

no_more_word : (b rest : Bool) → cond b true rest ≡ false → (b ≡ false) × (rest ≡ false)
no_more_word true rest e = absurd (cc)
no_more_word false rest e = (refl, e)

no_append : (us vs : List String) (x : List ℕ) → is_one us x ≡ false → no_word vs x ≡ true → no_word (us ++ vs) x ≡ true
no_append [] vs x e f = f
no_append (u ∷ us) vs x e f = let g = no_more_word (bytes_eq (codes u) x) (is_one us x) e in rw g.0 (no_append us vs x g.1 f)

none_split : (b : Bool) (o : Opening) (rest : Option Opening) → cond b (Some o) rest ≡ None → (b ≡ false) × (rest ≡ None)
none_split true o rest e = absurd (cc)
none_split false o rest e = (refl, e)

none_in : (os : List Opening) (x : List ℕ) → opening_in os x ≡ None → no_word (words_in os) x ≡ true
none_in [] x e = refl
none_in (o ∷ os) x e = let g = none_split (is_one (words_of o) x) o (opening_in os x) e in no_append (words_of o) (words_in os) x g.0 (none_in os x g.1)

abbrev all_fail : List Row → Token → Bool
all_fail [] t = true
all_fail (row c p ∷ rs) t = cond (passes c t) false (all_fail rs t)

pick_by : (b rest : Bool) (c : Option Row) (r : Row) → cond b false rest ≡ true → (rest ≡ true → c ≡ None) → cond b (Some r) c ≡ None
pick_by true rest c r e h = absurd (cc)
pick_by false rest c r e h = h e

pick_none : (rs : List Row) (t : Token) → all_fail rs t ≡ true → pick rs t ≡ None
pick_none [] t e = refl
pick_none (row c p ∷ rs) t e = pick_by (passes c t) (all_fail rs t) (pick rs t) (row c p) e (pick_none rs t)

not_here : (t : Token) (s : List Token) (k : List Want) (vs : List Val) → pick (rules 0 k_commands) t ≡ None → run (t ∷ s) (nt 0 k_commands ∷ k) vs ≡ run (t ∷ s) k vs
not_here t s k vs e = rw e refl

no_both_by : (b rest whole : Bool) → cond b false rest ≡ true → (rest ≡ true → whole ≡ true) → cond b false whole ≡ true
no_both_by true rest whole e h = absurd (cc)
no_both_by false rest whole e h = h e

no_both : (us vs : List String) (x : List ℕ) → no_word us x ≡ true → no_word vs x ≡ true → no_word (us ++ vs) x ≡ true
no_both [] vs x e f = f
no_both (u ∷ us) vs x e f = no_both_by (bytes_eq (codes u) x) (no_word us x) (no_word (us ++ vs) x) e (λ g. no_both us vs x g f)

found_none : (a r : Option Opening) → first_found a r ≡ None → (a ≡ None) × (r ≡ None)
found_none (Some o) r e = absurd (cc)
found_none None r e = (refl, e)

pub no_opening : (p : ℕ) (x : List ℕ) (s : List Token) (k : List Want) (vs : List Val) → opening_of x ≡ None → run (T.ident p x ∷ s) (nt 0 k_commands ∷ k) vs ≡ run (T.ident p x ∷ s) k vs
no_opening p x s k vs e =
    let g = found_none (opening_in early x) (opening_in late x) e in
    not_here (T.ident p x) s k vs (pick_none (rules 0 k_commands) (T.ident p x) (no_both (words_in early) (words_in late) x (none_in early x g.0) (none_in late x g.1)))

one_opening : (q o : Opening) → Some q ≡ Some o → q ≡ o
one_opening q o e = cc

opened_by : (q o : Opening) (x : List ℕ) (b : Bool) (rest : Option Opening) → is_one (words_of q) x ≡ b → cond b (Some q) rest ≡ Some o → (rest ≡ Some o → is_one (words_of o) x ≡ true) → is_one (words_of o) x ≡ true
opened_by q o x true rest e f h = let same = one_opening q o f in rw (sym same) e
opened_by q o x false rest e f h = h f

opened : (os : List Opening) (o : Opening) (x : List ℕ) → opening_in os x ≡ Some o → is_one (words_of o) x ≡ true
opened [] o x e = absurd (cc)
opened (q ∷ os) o x e = opened_by q o x (is_one (words_of q) x) (opening_in os x) refl e (opened os o x)

opened_first : (o : Opening) (x : List ℕ) (a r : Option Opening) → first_found a r ≡ Some o → (a ≡ Some o → is_one (words_of o) x ≡ true) → (r ≡ Some o → is_one (words_of o) x ≡ true) → is_one (words_of o) x ≡ true
opened_first o x (Some q) r e h g = h e
opened_first o x None r e h g = g e

pub opening_row : (o : Opening) (x : List ℕ) → opening_of x ≡ Some o → (p : ℕ) (s : List Token) (k : List Want) (vs : List Val) →
    run (T.ident p x ∷ s) (nt 0 k_commands ∷ k) vs ≡ run s (behind o ++ (nt 0 k_commands ∷ k)) vs
opening_row o x e p s k vs = open_row o x (opened_first o x (opening_in early x) (opening_in late x) e (opened early o x) (opened late o x)) p s k vs

pub file_is_commands : (s : List Token) (k : List Want) (vs : List Val) → begins (word "From") s ≡ false → begins (word "Require") s ≡ false → run s (nt 0 k_file ∷ k) vs ≡ run s (nt 0 k_commands ∷ k) vs
file_is_commands [] k vs e f = refl
file_is_commands (T.mark x ∷ s) k vs e f = refl
file_is_commands (T.path p x ∷ s) k vs e f = refl
file_is_commands (T.ident p x ∷ s) k vs e f = rw (e, f) refl

pub from_row : (s : List Token) (k : List Want) (vs : List Val) → begins (word "From") s ≡ true →
    run s (nt 0 k_file ∷ k) vs ≡ run s (w "From" ∷ act (push (maybe_name None)) ∷ tok ident ∷ act set_name ∷ w "Require" ∷ act (push (flag plain)) ∷ nt 0 k_required ∷ m M.Stop ∷ act say_require ∷ nt 0 k_file ∷ k) vs
from_row s k vs e = at_word (λ s. run s (nt 0 k_file ∷ k) vs ≡ run s (w "From" ∷ act (push (maybe_name None)) ∷ tok ident ∷ act set_name ∷ w "Require" ∷ act (push (flag plain)) ∷ nt 0 k_required ∷ m M.Stop ∷ act say_require ∷ nt 0 k_file ∷ k) vs) "From" (λ p s. refl) s e

pub require_row : (s : List Token) (k : List Want) (vs : List Val) → begins (word "Require") s ≡ true →
    run s (nt 0 k_file ∷ k) vs ≡ run s (w "Require" ∷ act (push (maybe_name None)) ∷ act (push (flag plain)) ∷ nt 0 k_required ∷ m M.Stop ∷ act say_require ∷ nt 0 k_file ∷ k) vs
require_row s k vs e = at_word (λ s. run s (nt 0 k_file ∷ k) vs ≡ run s (w "Require" ∷ act (push (maybe_name None)) ∷ act (push (flag plain)) ∷ nt 0 k_required ∷ m M.Stop ∷ act say_require ∷ nt 0 k_file ∷ k) vs) "Require" (λ p s. refl) s e
