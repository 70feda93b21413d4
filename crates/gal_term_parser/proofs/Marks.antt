-- Tests of the next token, and the parts that begin with one token or are absent.
use Rattle.std.proofs.Common.{◌≡◌, ℕ, true, false, List, [], ◌∷◌, ◌++◌, length, ◌-◌, map, Option, Some, refl, sym, ap, ◌∙◌}
use Rattle.std.proofs.lemmas.List.{length-map, map-append}
use Rattle.std.proofs.lemmas.Slice.Eq.{bytes_eq-Decides}
use Rattle.std.proofs.lemmas.Bool.{false_from_ne_true}
use Rattle.std.specs.Str.{bytes_eq}
use Rattle.gal_lexer.specs.declared.token.Mark.{Mark}
use Rattle.gal_lexer.specs.declared.token.Mark.TheVariants as M
use Rattle.gal_lexer.specs.declared.token.Token as lexed
use Rattle.gal_lexer.specs.Marks.{spelling, first_of, symbols, reserved}
use Rattle.gal_grammar.specs.Tokens.{Token, spelled, all_spelled}
use Rattle.gal_grammar.specs.Tokens as T
use Rattle.gal_grammar.specs.Tests.{Test, mark, name}
use Rattle.gal_grammar.specs.Values.{Val}
use Rattle.gal_grammar.specs.Actions.{add_binder}
use Rattle.gal_grammar.specs.Kinds.{Want, tok, act, nt, k_names, k_groups, k_struct, k_as, k_type_level}
use Rattle.gal_grammar.specs.Rules.{m}
use Rattle.gal_grammar.specs.calls.Machine.{Fail, syntax, nesting, run}
use Rattle.gal_grammar.specs.calls.Reading.{begins_open, begins_arrow, begins_with, begins_bar, begins_end}
use Rattle.gal_grammar.specs.Grammar.{IsSyntax, IsNesting}
use Rattle.gal_grammar.proofs.Exact.{syntax_fault_of, nesting_fault_of}
use Rattle.gal_grammar.specs.Terms.{Raw}
use Rattle.gal_grammar.specs.Values.{term}
use Rattle.gal_grammar.specs.Rules.{a_term}
use Rattle.gal_grammar.specs.calls.Machine.{Read, plainly}
use Rattle.gal_grammar.proofs.Fails.{runs_right}
use Rattle.gal_term_parser.specs.Left.{IsTerm}
use Rattle.gal_term_parser.specs.calls.Steps.{begins}

pub length_spelled : (source : List ℕ) (ts : List lexed.Token) → length (all_spelled source ts) ≡ length ts
length_spelled source ts = length-map ts (spelled source)

-- a mark is spelled as no other
unspelled : List ℕ → Option Mark
unspelled w = first_of (λ x. bytes_eq w (spelling x)) (M.Stop ∷ (symbols ++ reserved))

unspelled_same : (x : Mark) → unspelled (spelling x) ≡ Some x
unfolding unspelled
unspelled_same M.Assign = refl
unspelled_same M.Gives = refl
unspelled_same M.Arrow = refl
unspelled_same M.AtMost = refl
unspelled_same M.LevelOpen = refl
unspelled_same M.Open = refl
unspelled_same M.Close = refl
unspelled_same M.BraceOpen = refl
unspelled_same M.BraceClose = refl
unspelled_same M.Comma = refl
unspelled_same M.Colon = refl
unspelled_same M.Bar = refl
unspelled_same M.At = refl
unspelled_same M.Equal = refl
unspelled_same M.Less = refl
unspelled_same M.Blank = refl
unspelled_same M.Stop = refl
unspelled_same M.Prop = refl
unspelled_same M.Set = refl
unspelled_same M.Typ = refl
unspelled_same M.Forall = refl
unspelled_same M.Fun = refl
unspelled_same M.Let = refl
unspelled_same M.In = refl
unspelled_same M.Fix = refl
unspelled_same M.With = refl
unspelled_same M.For = refl
unspelled_same M.Match = refl
unspelled_same M.As = refl
unspelled_same M.Return = refl
unspelled_same M.End = refl

pub same_mark : (x : Mark) → bytes_eq (spelling x) (spelling x) ≡ true
same_mark x = (bytes_eq-Decides (spelling x) (spelling x)).1 refl

one_mark : (x y : Mark) → Option.Some x ≡ Some y → x ≡ y
one_mark x y e = cc

spelled_once : (x y : Mark) → spelling x ≡ spelling y → x ≡ y
spelled_once x y e = one_mark x y (sym (unspelled_same x) ∙ ap unspelled e ∙ unspelled_same y)

pub other_mark : (x y : Mark) → (y ≡ x → ⊥) → bytes_eq (spelling x) (spelling y) ≡ false
other_mark x y h = false_from_ne_true (bytes_eq (spelling x) (spelling y)) (λ e. h (sym (spelled_once x y ((bytes_eq-Decides (spelling x) (spelling y)).0 e))))

pub mark_taken : (x : Mark) (s : List Token) (k : List Want) (vs : List Val) → run (T.mark x ∷ s) (m x ∷ k) vs ≡ run s k vs
mark_taken x s k vs = rw (same_mark x) refl

pub refused : (c : Test) (s : List Token) (k : List Want) (vs : List Val) → begins c s ≡ false → run s (tok c ∷ k) vs ≡ Fail syntax (length s)
refused c [] k vs e = refl
refused c (t ∷ s) k vs e = rw e refl

-- parts that are absent
pub names_end : (d : ℕ) (s : List Token) (k : List Want) (vs : List Val) → begins name s ≡ false → run s (nt d k_names ∷ k) vs ≡ run s k vs
names_end d [] k vs e = refl
names_end d (t ∷ s) k vs e = rw e refl

pub names_more : (d : ℕ) (s : List Token) (k : List Want) (vs : List Val) → begins name s ≡ true → run s (nt d k_names ∷ k) vs ≡ run s (tok name ∷ act add_binder ∷ nt d k_names ∷ k) vs
names_more d [] k vs e = absurd (cc)
names_more d (t ∷ s) k vs e = rw e refl

pub struct_ends : (d : ℕ) (s : List Token) (k : List Want) (vs : List Val) → begins (mark M.BraceOpen) s ≡ false → run s (nt d k_struct ∷ k) vs ≡ run s k vs
struct_ends d [] k vs e = refl
struct_ends d (t ∷ s) k vs e = rw e refl

pub as_ends : (d : ℕ) (s : List Token) (k : List Want) (vs : List Val) → begins (mark M.As) s ≡ false → run s (nt d k_as ∷ k) vs ≡ run s k vs
as_ends d [] k vs e = refl
as_ends d (t ∷ s) k vs e = rw e refl

pub level_ends : (d : ℕ) (s : List Token) (k : List Want) (vs : List Val) → begins (mark M.LevelOpen) s ≡ false → run s (nt d k_type_level ∷ k) vs ≡ run s k vs
level_ends d [] k vs e = refl
level_ends d (t ∷ s) k vs e = rw e refl

pub groups_over : (d : ℕ) (s : List Token) (k : List Want) (vs : List Val) → begins (mark M.Open) s ≡ false → run s (nt d k_groups ∷ k) vs ≡ run s k vs
groups_over d [] k vs e = refl
groups_over d (t ∷ s) k vs e = rw e refl

-- marks by their own tests
pub not_open : (s : List Token) → begins (mark M.Open) s ≡ false → begins_open s ≡ false
not_open [] e = refl
not_open (T.mark M.Open ∷ s) e = absurd (cc)
not_open (_ ∷ s) e = refl

pub not_arrow : (s : List Token) → begins (mark M.Arrow) s ≡ false → begins_arrow s ≡ false
not_arrow [] e = refl
not_arrow (T.mark M.Arrow ∷ s) e = absurd (cc)
not_arrow (_ ∷ s) e = refl

pub not_with : (s : List Token) → begins (mark M.With) s ≡ false → begins_with s ≡ false
not_with [] e = refl
not_with (T.mark M.With ∷ s) e = absurd (cc)
not_with (_ ∷ s) e = refl

pub not_bar : (s : List Token) → begins (mark M.Bar) s ≡ false → begins_bar s ≡ false
not_bar [] e = refl
not_bar (T.mark M.Bar ∷ s) e = absurd (cc)
not_bar (_ ∷ s) e = refl

pub not_end : (s : List Token) → begins (mark M.End) s ≡ false → begins_end s ≡ false
not_end [] e = refl
not_end (T.mark M.End ∷ s) e = absurd (cc)
not_end (_ ∷ s) e = refl

pub map_more : {A B : Type 0} (f : A → B) (xs : List A) (x : A) → map f (xs ++ (x ∷ [])) ≡ map f xs ++ (f x ∷ [])
map_more f xs x = map-append f xs (x ∷ [])

pub term_read : (s : List Token) (t : Raw) → run s (a_term 0 ∷ []) [] ≡ Read (term t ∷ []) → IsTerm s t
term_read s t e = runs_right 0 s plainly (a_term 0 ∷ []) [] (term t ∷ []) e

-- where the machine fails over a term, the term's fault stands
pub term_syntax : (s : List Token) (n : ℕ) → run s (a_term 0 ∷ []) [] ≡ Fail syntax n → IsSyntax (a_term 0 ∷ []) [] s (length s - n)
term_syntax = syntax_fault_of (a_term 0 ∷ []) [] refl

pub term_nesting : (s : List Token) (n : ℕ) → run s (a_term 0 ∷ []) [] ≡ Fail nesting n → IsNesting (a_term 0 ∷ []) [] s (length s - n)
term_nesting = nesting_fault_of (a_term 0 ∷ []) [] refl
