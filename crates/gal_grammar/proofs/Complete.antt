-- What is of the grammar is read so: no token that could go on with a part stands behind it.
use Rattle.std.proofs.Common.{ℕ, zero, suc, Bool, true, false, cond, List, [], ◌∷◌, ◌++◌, ◌≡◌, ◌≤◌, ◌<◌, ◌+◌, length, Option, Some, None, refl, ap, sym, subst, ◌∙◌, append_assoc, arith, nat_eq, ◌&&◌, ◌||◌, not, codes, true≢false}
use Rattle.std.specs.Str.{bytes_eq}
use Rattle.std.proofs.lemmas.Bool.{eqb-true, and_from, or_right, or_left}
use Rattle.gal_lexer.specs.Marks.{spelling}
use Rattle.gal_grammar.specs.Tokens.{Token}
use Rattle.gal_grammar.specs.Tokens as T
use Rattle.gal_lexer.specs.declared.token.Mark.{Mark}
use Rattle.gal_lexer.specs.declared.token.Mark.TheVariants as M
use Rattle.gal_grammar.specs.Terms.{named, no_groups}
use Rattle.gal_grammar.specs.Tests.{Test, mark, word, ident, qualid, name, passes}
use Rattle.gal_grammar.specs.Values.{puts, Val, a_name, groups}
use Rattle.gal_grammar.specs.Actions.{Act, makes}
use Rattle.gal_grammar.specs.Kinds.{Row, row, Kind, k_file, k_commands, k_required, k_quals, k_level, k_relation, k_conses, k_assums, k_idents, k_bounds, k_bound_groups, k_names, k_groups, k_some_groups, k_binders, k_definition, k_function, k_struct, k_fixpoints, k_ind, k_inds, k_ctors, k_ctors_behind, k_more_ctors, k_ctor, k_ctor_type, k_proof, k_proof_body, k_using, k_ending, k_qed, k_term, k_atom, k_tail, k_type_level, k_functions, k_as, k_in, k_with, k_with_any, k_branches, k_any_branches, k_branch, k_more_branches, Want, tok, act, nt, fix_tail}
use Rattle.gal_grammar.specs.Rules.{rules, may_be_none, function_behind, function_rest}
use Rattle.gal_grammar.specs.Grammar.{pick, is_deep, begins_function, begins_with_function, Reads, at_end, token, action, by_row, by_none, no_more, one_more}
use Rattle.gal_grammar.specs.calls.Machine.{Why, syntax, nesting, Outcome, Read, Fail, Mode, plainly, asked, asked_name, Go, Look, usual, outer, behind, is_with, asks, refuses, chosen, step, answer, advance, finish, ends, runs, run}

-- the classes of tokens
abbrev pub a_word : List ℕ
a_word = codes "a"

abbrev pub a_path : List ℕ
a_path = codes "a.a"

abbrev pub class : Token → List ℕ
class (T.mark m) = spelling m
class (T.ident p x) = a_word
class (T.path p x) = a_path

abbrev pub member : List ℕ → List (List ℕ) → Bool
member c [] = false
member c (x ∷ xs) = bytes_eq x c || member c xs

abbrev pub classes : Test → List (List ℕ)
classes (mark m) = spelling m ∷ []
classes (word w) = a_word ∷ []
classes ident = a_word ∷ []
classes qualid = a_word ∷ a_path ∷ []
classes name = a_word ∷ spelling M.Blank ∷ []

abbrev pub fits : Test → List ℕ → Bool
fits x c = member c (classes x)

passes_fits : (c : Test) (t : Token) → passes c t ≡ true → fits c (class t) ≡ true
passes_fits (mark m) (T.mark n) e = or_left (bytes_eq (spelling m) (spelling n)) false e
passes_fits (word w) (T.ident p x) e = refl
passes_fits ident (T.ident p x) e = refl
passes_fits qualid (T.ident p x) e = refl
passes_fits qualid (T.path p x) e = refl
passes_fits name (T.ident p x) e = refl
passes_fits name (T.mark m) e = or_right (bytes_eq a_word (spelling m)) (bytes_eq (spelling M.Blank) (spelling m) || false) (or_left (bytes_eq (spelling M.Blank) (spelling m)) false e)
passes_fits _ _ e = absurd (cc)

abbrev pub any_fits : List Row → List ℕ → Bool
any_fits [] c = false
any_fits (row x p ∷ rs) c = fits x c || any_fits rs c

-- what the wants, and what is behind them, can start with; the tokens of F are not behind them
abbrev pub can_start : (List ℕ → Bool) → List Want → List ℕ → Bool
can_start F [] c = F c
can_start F (tok x ∷ k) c = fits x c
can_start F (act a ∷ k) c = can_start F k c
can_start F (nt d n ∷ k) c = any_fits (rules d n) c || (may_be_none n && can_start F k c)
can_start F (fix_tail d ∷ k) c = bytes_eq (spelling M.With) c || can_start F k c

abbrev pub nothing : List ℕ → Bool
nothing c = false

abbrev pub avoids : (List ℕ → Bool) → List (List ℕ) → List Want → Bool
avoids F [] k = true
avoids F (c ∷ cs) k = not (can_start F k c) && avoids F cs k

abbrev pub term_on : List (List ℕ)
term_on = spelling M.Arrow ∷ a_word ∷ a_path ∷ spelling M.At ∷ spelling M.Prop ∷ spelling M.Set ∷ spelling M.Typ ∷ spelling M.Open ∷ spelling M.Match ∷ spelling M.LevelOpen ∷ []

-- the tokens that could go on with a part
abbrev pub goes_on : Kind → List (List ℕ)
goes_on k_file = a_word ∷ []
goes_on k_commands = a_word ∷ []
goes_on k_required = a_word ∷ a_path ∷ []
goes_on k_quals = a_word ∷ a_path ∷ []
goes_on k_conses = spelling M.Comma ∷ []
goes_on k_assums = term_on
goes_on k_idents = a_word ∷ []
goes_on k_bounds = a_word ∷ []
goes_on k_bound_groups = spelling M.Open ∷ []
goes_on k_names = a_word ∷ spelling M.Blank ∷ []
goes_on k_groups = spelling M.Open ∷ []
goes_on k_some_groups = spelling M.Open ∷ []
goes_on k_binders = term_on
goes_on k_function = term_on
goes_on k_struct = spelling M.BraceOpen ∷ []
goes_on k_fixpoints = spelling M.With ∷ term_on
goes_on k_ind = spelling M.Bar ∷ spelling M.Colon ∷ term_on
goes_on k_inds = spelling M.With ∷ spelling M.Bar ∷ spelling M.Colon ∷ term_on
goes_on k_ctors = spelling M.Bar ∷ spelling M.Colon ∷ term_on
goes_on k_ctors_behind = spelling M.Bar ∷ spelling M.Colon ∷ term_on
goes_on k_more_ctors = spelling M.Bar ∷ spelling M.Colon ∷ term_on
goes_on k_ctor = spelling M.Colon ∷ term_on
goes_on k_ctor_type = spelling M.Colon ∷ term_on
goes_on k_using = a_word ∷ []
goes_on k_term = term_on
goes_on k_tail = term_on
goes_on k_type_level = spelling M.LevelOpen ∷ []
goes_on k_atom = spelling M.LevelOpen ∷ []
goes_on k_as = spelling M.As ∷ []
goes_on k_branch = term_on
goes_on _ = []

abbrev pub fine : (List ℕ → Bool) → List Want → Bool
fine F [] = true
fine F (tok c ∷ k) = not (fits c (spelling M.With)) && fine F k
fine F (act a ∷ k) = fine F k
fine F (nt d n ∷ k) = avoids F (goes_on n) k && fine F k
fine F (fix_tail d ∷ k) = fine F k

abbrev pub no_more_than : List (List ℕ) → List ℕ → Bool
no_more_than cs c = not (member c cs)

abbrev pub rows_fine : List (List ℕ) → List Row → Bool
rows_fine cs [] = true
rows_fine cs (row x p ∷ rs) = fine (no_more_than cs) p && rows_fine cs rs

rows_fine_of : (n : Kind) (d : ℕ) → rows_fine (goes_on n) (rules d n) ≡ true
rows_fine_of k_file d = refl
rows_fine_of k_commands d = refl
rows_fine_of k_required d = refl
rows_fine_of k_quals d = refl
rows_fine_of k_level d = refl
rows_fine_of k_relation d = refl
rows_fine_of k_conses d = refl
rows_fine_of k_assums d = refl
rows_fine_of k_idents d = refl
rows_fine_of k_bounds d = refl
rows_fine_of k_bound_groups d = refl
rows_fine_of k_names d = refl
rows_fine_of k_groups d = refl
rows_fine_of k_some_groups d = refl
rows_fine_of k_binders d = refl
rows_fine_of k_definition d = refl
rows_fine_of k_function d = refl
rows_fine_of k_struct d = refl
rows_fine_of k_fixpoints d = refl
rows_fine_of k_ind d = refl
rows_fine_of k_inds d = refl
rows_fine_of k_ctors d = refl
rows_fine_of k_ctors_behind d = refl
rows_fine_of k_more_ctors d = refl
rows_fine_of k_ctor d = refl
rows_fine_of k_ctor_type d = refl
rows_fine_of k_proof d = refl
rows_fine_of k_proof_body d = refl
rows_fine_of k_using d = refl
rows_fine_of k_ending d = refl
rows_fine_of k_qed d = refl
rows_fine_of k_term d = refl
rows_fine_of k_atom d = refl
rows_fine_of k_tail d = refl
rows_fine_of k_type_level d = refl
rows_fine_of k_functions d = refl
rows_fine_of k_as d = refl
rows_fine_of k_in d = refl
rows_fine_of k_with d = refl
rows_fine_of k_with_any d = refl
rows_fine_of k_branches d = refl
rows_fine_of k_any_branches d = refl
rows_fine_of k_branch d = refl
rows_fine_of k_more_branches d = refl

and_left : (a b : Bool) → (a && b) ≡ true → a ≡ true
and_left true b h = refl
and_left false b h = absurd (cc)

and_right : (a b : Bool) → (a && b) ≡ true → b ≡ true
and_right true b h = h
and_right false b h = absurd (cc)

not_true : (a : Bool) → not a ≡ true → a ≡ true → ⊥
not_true true e h = absurd (cc)
not_true false e h = absurd (cc)

true_not : (a : Bool) → (a ≡ true → ⊥) → not a ≡ true
true_not true h = absurd (h refl)
true_not false h = refl

or_elim : (a b : Bool) (P : Type 0) → (a || b) ≡ true → (a ≡ true → P) → (b ≡ true → P) → P
or_elim true b P e f g = f refl
or_elim false b P e f g = g e

some_row : (x : Test) (q : List Want) (c : Test) (p : List Want) → Some (row x q) ≡ Some (row c p) → q ≡ p
some_row x q c p e = cc

cons_same : (a b : ℕ) (x c : List ℕ) → a ≡ b → x ≡ c → a ∷ x ≡ b ∷ c
cons_same a b x c e f = ap (λ y. y ∷ x) e ∙ ap (λ y. b ∷ y) f

same_text : (x c : List ℕ) → bytes_eq x c ≡ true → x ≡ c
same_text [] [] e = refl
same_text [] (b ∷ c) e = absurd (true≢false (sym e))
same_text (a ∷ x) [] e = absurd (true≢false (sym e))
same_text (a ∷ x) (b ∷ c) e = cons_same a b x c (eqb-true a b (and_left _ _ e)) (same_text x c (and_right _ _ e))

-- what is behind takes its place among what may start
module _ (F G : List ℕ → Bool) (k : List Want) (covers : (c : List ℕ) → can_start F k c ≡ true → G c ≡ true) where
  starts_behind : (p : List Want) (c : List ℕ) → can_start F (p ++ k) c ≡ true → can_start G p c ≡ true
  starts_behind [] c h = covers c h
  starts_behind (tok x ∷ p) c h = h
  starts_behind (act a ∷ p) c h = starts_behind p c h
  starts_behind (nt d n ∷ p) c h =
      or_elim (any_fits (rules d n) c) (may_be_none n && can_start F (p ++ k) c) ((any_fits (rules d n) c || (may_be_none n && can_start G p c)) ≡ true) h
      (λ e. or_left (any_fits (rules d n) c) (may_be_none n && can_start G p c) e)
      (λ e. or_right (any_fits (rules d n) c) (may_be_none n && can_start G p c)
      (and_from (may_be_none n) (can_start G p c) (and_left (may_be_none n) (can_start F (p ++ k) c) e) (starts_behind p c (and_right (may_be_none n) (can_start F (p ++ k) c) e))))
  starts_behind (fix_tail d ∷ p) c h =
      or_elim (bytes_eq (spelling M.With) c) (can_start F (p ++ k) c) ((bytes_eq (spelling M.With) c || can_start G p c) ≡ true) h
      (λ e. or_left (bytes_eq (spelling M.With) c) (can_start G p c) e)
      (λ e. or_right (bytes_eq (spelling M.With) c) (can_start G p c) (starts_behind p c e))

  avoids_behind : (cs : List (List ℕ)) (p : List Want) → avoids G cs p ≡ true → avoids F cs (p ++ k) ≡ true
  avoids_behind [] p h = refl
  avoids_behind (c ∷ cs) p h =
      and_from (not (can_start F (p ++ k) c)) (avoids F cs (p ++ k))
      (true_not (can_start F (p ++ k) c) (λ e. not_true (can_start G p c) (and_left (not (can_start G p c)) (avoids G cs p) h) (starts_behind p c e)))
      (avoids_behind cs p (and_right (not (can_start G p c)) (avoids G cs p) h))

  fine_behind : (p : List Want) → fine G p ≡ true → fine F k ≡ true → fine F (p ++ k) ≡ true
  fine_behind [] h e = e
  fine_behind (tok x ∷ p) h e = and_from (not (fits x (spelling M.With))) (fine F (p ++ k)) (and_left (not (fits x (spelling M.With))) (fine G p) h) (fine_behind p (and_right (not (fits x (spelling M.With))) (fine G p) h) e)
  fine_behind (act a ∷ p) h e = fine_behind p h e
  fine_behind (nt d n ∷ p) h e =
      and_from (avoids F (goes_on n) (p ++ k)) (fine F (p ++ k))
      (avoids_behind (goes_on n) p (and_left (avoids G (goes_on n) p) (fine G p) h))
      (fine_behind p (and_right (avoids G (goes_on n) p) (fine G p) h) e)
  fine_behind (fix_tail d ∷ p) h e = fine_behind p h e

avoids_covers : (F : List ℕ → Bool) (cs : List (List ℕ)) (k : List Want) → avoids F cs k ≡ true → (c : List ℕ) → can_start F k c ≡ true → member c cs ≡ true → ⊥
avoids_covers F [] k h c e g = absurd (cc)
avoids_covers F (x ∷ cs) k h c e g =
    or_elim (bytes_eq x c) (member c cs) ⊥ g
    (λ q. not_true (can_start F k x) (and_left (not (can_start F k x)) (avoids F cs k) h) (let same = same_text x c q in subst (λ y. can_start F k y ≡ true) (sym same) e))
    (λ q. avoids_covers F cs k (and_right (not (can_start F k x)) (avoids F cs k) h) c e q)

pick_fine_at : (cs : List (List ℕ)) (x : Test) (q : List Want) (rs : List Row) (t : Token) (c : Test) (p : List Want) (b : Bool) →
    (pick rs t ≡ Some (row c p) → rows_fine cs rs ≡ true → fine (no_more_than cs) p ≡ true) →
    cond b (Some (row x q)) (pick rs t) ≡ Some (row c p) → fine (no_more_than cs) q ≡ true → rows_fine cs rs ≡ true → fine (no_more_than cs) p ≡ true
pick_fine_at cs x q rs t c p true next e h g = let same : q ≡ p = some_row x q c p e in subst (λ l. fine (no_more_than cs) l ≡ true) same h
pick_fine_at cs x q rs t c p false next e h g = next e g

pick_fine : (cs : List (List ℕ)) (rs : List Row) (t : Token) (c : Test) (p : List Want) → pick rs t ≡ Some (row c p) → rows_fine cs rs ≡ true → fine (no_more_than cs) p ≡ true
pick_fine cs [] t c p e h = absurd (cc)
pick_fine cs (row x q ∷ rs) t c p e h = pick_fine_at cs x q rs t c p (passes x t) (λ g i. pick_fine cs rs t c p g i) e (and_left (fine (no_more_than cs) q) (rows_fine cs rs) h) (and_right (fine (no_more_than cs) q) (rows_fine cs rs) h)

pick_fits_at : (x : Test) (q : List Want) (rs : List Row) (t : Token) (r : Row) (b : Bool) → passes x t ≡ b →
    (pick rs t ≡ Some r → any_fits rs (class t) ≡ true) → cond b (Some (row x q)) (pick rs t) ≡ Some r → (fits x (class t) || any_fits rs (class t)) ≡ true
pick_fits_at x q rs t r true e next h = or_left (fits x (class t)) (any_fits rs (class t)) (passes_fits x t e)
pick_fits_at x q rs t r false e next h = or_right (fits x (class t)) (any_fits rs (class t)) (next h)

pick_fits : (rs : List Row) (t : Token) (r : Row) → pick rs t ≡ Some r → any_fits rs (class t) ≡ true
pick_fits [] t r e = absurd (cc)
pick_fits (row x q ∷ rs) t r e = pick_fits_at x q rs t r (passes x t) refl (λ h. pick_fits rs t r h) e

row_fine : (d : ℕ) (n : Kind) (t : Token) (c : Test) (p k : List Want) → pick (rules d n) t ≡ Some (row c p) → fine nothing (nt d n ∷ k) ≡ true → fine nothing (p ++ k) ≡ true
row_fine d n t c p k e h =
    let apart = and_left (avoids nothing (goes_on n) k) (fine nothing k) h in
    fine_behind nothing (no_more_than (goes_on n)) k
    (λ x s. true_not (member x (goes_on n)) (λ g. avoids_covers nothing (goes_on n) k apart x s g)) p
    (pick_fine (goes_on n) (rules d n) t c p e (rows_fine_of n d))
    (and_right (avoids nothing (goes_on n) k) (fine nothing k) h)

-- a stack that reads a token can start with it
reads_starts : {late : ℕ} {k : List Want} {vs f : List Val} {t : Token} {s : List Token} → Reads late k vs (t ∷ s) f → can_start nothing k (class t) ≡ true
reads_starts {t = t} (token {c = c} e r) = passes_fits c t e
reads_starts (action r) = reads_starts r
reads_starts {t = t} (by_row {d = d} {n = n} {c = c} {p = p} {k = k} e g r) = or_left (any_fits (rules d n) (class t)) (may_be_none n && can_start nothing k (class t)) (pick_fits (rules d n) t (row c p) e)
reads_starts {t = t} (by_none {d = d} {n = n} {k = k} e r) = or_right (any_fits (rules d n) (class t)) (may_be_none n && can_start nothing k (class t)) (and_from (may_be_none n) (can_start nothing k (class t)) e (reads_starts r))
reads_starts {t = t} (no_more {k = k} e r) = or_right (bytes_eq (spelling M.With) (class t)) (can_start nothing k (class t)) (reads_starts r)
reads_starts (one_more {k = k} r) = refl

abbrev pub within : List (List ℕ) → List (List ℕ) → Bool
within [] cs = true
within (x ∷ xs) cs = member x cs && within xs cs

within_member : (xs cs : List (List ℕ)) (c : List ℕ) → within xs cs ≡ true → member c xs ≡ true → member c cs ≡ true
within_member [] cs c h e = absurd (cc)
within_member (x ∷ xs) cs c h e =
    or_elim (bytes_eq x c) (member c xs) (member c cs ≡ true) e
    (λ q. subst (λ y. member y cs ≡ true) (same_text x c q) (and_left (member x cs) (within xs cs) h))
    (λ q. within_member xs cs c (and_right (member x cs) (within xs cs) h) q)

abbrev pub rows_within : List Row → List (List ℕ) → Bool
rows_within [] cs = true
rows_within (row x p ∷ rs) cs = within (classes x) cs && rows_within rs cs

rows_member : (rs : List Row) (cs : List (List ℕ)) (c : List ℕ) → rows_within rs cs ≡ true → any_fits rs c ≡ true → member c cs ≡ true
rows_member [] cs c h e = absurd (cc)
rows_member (row x p ∷ rs) cs c h e =
    or_elim (fits x c) (any_fits rs c) (member c cs ≡ true) e
    (λ q. within_member (classes x) cs c (and_left (within (classes x) cs) (rows_within rs cs) h) q)
    (λ q. rows_member rs cs c (and_right (within (classes x) cs) (rows_within rs cs) h) q)

-- where a part that may be absent can start, it could go on
nullable_goes_on : (n : Kind) (d : ℕ) → may_be_none n ≡ true → rows_within (rules d n) (goes_on n) ≡ true
nullable_goes_on k_file d e = refl
nullable_goes_on k_commands d e = refl
nullable_goes_on k_quals d e = refl
nullable_goes_on k_conses d e = refl
nullable_goes_on k_idents d e = refl
nullable_goes_on k_bounds d e = refl
nullable_goes_on k_bound_groups d e = refl
nullable_goes_on k_names d e = refl
nullable_goes_on k_groups d e = refl
nullable_goes_on k_struct d e = refl
nullable_goes_on k_fixpoints d e = refl
nullable_goes_on k_inds d e = refl
nullable_goes_on k_ctors d e = refl
nullable_goes_on k_ctors_behind d e = refl
nullable_goes_on k_more_ctors d e = refl
nullable_goes_on k_ctor_type d e = refl
nullable_goes_on k_tail d e = refl
nullable_goes_on k_type_level d e = refl
nullable_goes_on k_as d e = refl
nullable_goes_on _ d e = absurd (cc)

-- nothing that follows could be the part that is not there
absent : (d : ℕ) (n : Kind) {late : ℕ} {k : List Want} {vs f : List Val} {t : Token} {s : List Token} {r : Row} →
    may_be_none n ≡ true → fine nothing (nt d n ∷ k) ≡ true → Reads late k vs (t ∷ s) f → pick (rules d n) t ≡ Some r → ⊥
absent d n {k = k} {t = t} {r = r} e h reads p =
    avoids_covers nothing (goes_on n) k (and_left (avoids nothing (goes_on n) k) (fine nothing k) h) (class t) (reads_starts reads)
    (rows_member (rules d n) (goes_on n) (class t) (nullable_goes_on n d e) (pick_fits (rules d n) t r p))

pub Good : ℕ → Outcome → List Val → Type 0
Good late (Read g) f = g ≡ f
Good late (Fail nesting n) f = n ≤ late
Good late (Fail syntax n) f = ⊥

move_good : (late : ℕ) (f : List Val) (o l : Outcome) → o ≡ l → Good late l f → Good late o f
move_good late f o l e h = subst (λ x. Good late x f) (sym e) h

no_name_open : (d d' p : ℕ) (x : List ℕ) (t : Token) (s : List Token) (k l : List Want) (vs ws : List Val) → begins_function (T.ident p x ∷ t ∷ s) ≡ false →
    ((go : Go) (bad : Why → Outcome) → step outer k (T.mark M.With) go bad vs ≡ step outer l (T.mark M.With) go bad ws) →
    runs (T.ident p x ∷ t ∷ s) (asked d) k vs ≡ runs (T.ident p x ∷ t ∷ s) (asked d') l ws
no_name_open d d' p x (T.mark M.Open) s k l vs ws h e = absurd (cc)
no_name_open d d' p x _ s k l vs ws h e = e _ _

-- behind a `with` that goes on with no fix only what is further out counts
pub asked_same : (d d' : ℕ) (s : List Token) (k l : List Want) (vs ws : List Val) → begins_function s ≡ false →
    ((go : Go) (bad : Why → Outcome) → step outer k (T.mark M.With) go bad vs ≡ step outer l (T.mark M.With) go bad ws) →
    runs s (asked d) k vs ≡ runs s (asked d') l ws
asked_same d d' [] k l vs ws h e = refl
asked_same d d' (T.ident p x ∷ []) k l vs ws h e = refl
asked_same d d' (T.ident p x ∷ t ∷ s) k l vs ws h e = no_name_open d d' p x t s k l vs ws h e
asked_same d d' (_ ∷ s) k l vs ws h e = e _ _

k_fixpoints_open : (late d d' p : ℕ) (x : List ℕ) (t : Token) (s : List Token) (k : List Want) (vs f : List Val) → begins_function (T.ident p x ∷ t ∷ s) ≡ false →
    Good late (run (T.mark M.With ∷ T.ident p x ∷ t ∷ s) (nt d' k_fixpoints ∷ k) vs) f → Good late (runs (T.ident p x ∷ t ∷ s) (asked d) (nt d' k_fixpoints ∷ k) vs) f
unfolding Good
k_fixpoints_open late d d' p x (T.mark M.Open) s k vs f h g = absurd (cc)
k_fixpoints_open late d d' p x _ s k vs f h g = g

k_fixpoints_asked : (late d d' : ℕ) (s : List Token) (k : List Want) (vs f : List Val) → begins_function s ≡ false →
    Good late (run (T.mark M.With ∷ s) (nt d' k_fixpoints ∷ k) vs) f → Good late (runs s (asked d) (nt d' k_fixpoints ∷ k) vs) f
unfolding Good
k_fixpoints_asked late d d' [] k vs f h g = absurd g
k_fixpoints_asked late d d' (T.ident p x ∷ []) k vs f h g = absurd g
k_fixpoints_asked late d d' (T.ident p x ∷ t ∷ s) k vs f h g = k_fixpoints_open late d d' p x t s k vs f h g
k_fixpoints_asked late d d' (_ ∷ s) k vs f h g = g

k_inds_open : (late d d' p : ℕ) (x : List ℕ) (t : Token) (s : List Token) (k : List Want) (vs f : List Val) → begins_function (T.ident p x ∷ t ∷ s) ≡ false →
    Good late (run (T.mark M.With ∷ T.ident p x ∷ t ∷ s) (nt d' k_inds ∷ k) vs) f → Good late (runs (T.ident p x ∷ t ∷ s) (asked d) (nt d' k_inds ∷ k) vs) f
unfolding Good
k_inds_open late d d' p x (T.mark M.Open) s k vs f h g = absurd (cc)
k_inds_open late d d' p x _ s k vs f h g = g

k_inds_asked : (late d d' : ℕ) (s : List Token) (k : List Want) (vs f : List Val) → begins_function s ≡ false →
    Good late (run (T.mark M.With ∷ s) (nt d' k_inds ∷ k) vs) f → Good late (runs s (asked d) (nt d' k_inds ∷ k) vs) f
unfolding Good
k_inds_asked late d d' [] k vs f h g = absurd g
k_inds_asked late d d' (T.ident p x ∷ []) k vs f h g = absurd g
k_inds_asked late d d' (T.ident p x ∷ t ∷ s) k vs f h g = k_inds_open late d d' p x t s k vs f h g
k_inds_asked late d d' (_ ∷ s) k vs f h g = g

k_with_open : (late d d' p : ℕ) (x : List ℕ) (t : Token) (s : List Token) (k : List Want) (vs f : List Val) → begins_function (T.ident p x ∷ t ∷ s) ≡ false →
    Good late (run (T.mark M.With ∷ T.ident p x ∷ t ∷ s) (nt d' k_with ∷ k) vs) f → Good late (runs (T.ident p x ∷ t ∷ s) (asked d) (nt d' k_with ∷ k) vs) f
unfolding Good
k_with_open late d d' p x (T.mark M.Open) s k vs f h g = absurd (cc)
k_with_open late d d' p x _ s k vs f h g = g

k_with_asked : (late d d' : ℕ) (s : List Token) (k : List Want) (vs f : List Val) → begins_function s ≡ false →
    Good late (run (T.mark M.With ∷ s) (nt d' k_with ∷ k) vs) f → Good late (runs s (asked d) (nt d' k_with ∷ k) vs) f
unfolding Good
k_with_asked late d d' [] k vs f h g = absurd g
k_with_asked late d d' (T.ident p x ∷ []) k vs f h g = absurd g
k_with_asked late d d' (T.ident p x ∷ t ∷ s) k vs f h g = k_with_open late d d' p x t s k vs f h g
k_with_asked late d d' (_ ∷ s) k vs f h g = g

k_with_any_open : (late d d' p : ℕ) (x : List ℕ) (t : Token) (s : List Token) (k : List Want) (vs f : List Val) → begins_function (T.ident p x ∷ t ∷ s) ≡ false →
    Good late (run (T.mark M.With ∷ T.ident p x ∷ t ∷ s) (nt d' k_with_any ∷ k) vs) f → Good late (runs (T.ident p x ∷ t ∷ s) (asked d) (nt d' k_with_any ∷ k) vs) f
unfolding Good
k_with_any_open late d d' p x (T.mark M.Open) s k vs f h g = absurd (cc)
k_with_any_open late d d' p x _ s k vs f h g = g

k_with_any_asked : (late d d' : ℕ) (s : List Token) (k : List Want) (vs f : List Val) → begins_function s ≡ false →
    Good late (run (T.mark M.With ∷ s) (nt d' k_with_any ∷ k) vs) f → Good late (runs s (asked d) (nt d' k_with_any ∷ k) vs) f
unfolding Good
k_with_any_asked late d d' [] k vs f h g = absurd g
k_with_any_asked late d d' (T.ident p x ∷ []) k vs f h g = absurd g
k_with_any_asked late d d' (T.ident p x ∷ t ∷ s) k vs f h g = k_with_any_open late d d' p x t s k vs f h g
k_with_any_asked late d d' (_ ∷ s) k vs f h g = g

k_functions_open : (late d d' p : ℕ) (x : List ℕ) (t : Token) (s : List Token) (k : List Want) (vs f : List Val) → begins_function (T.ident p x ∷ t ∷ s) ≡ false →
    Good late (run (T.mark M.With ∷ T.ident p x ∷ t ∷ s) (nt d' k_functions ∷ k) vs) f → Good late (runs (T.ident p x ∷ t ∷ s) (asked d) (nt d' k_functions ∷ k) vs) f
unfolding Good
k_functions_open late d d' p x (T.mark M.Open) s k vs f h g = absurd (cc)
k_functions_open late d d' p x _ s k vs f h g = g

k_functions_asked : (late d d' : ℕ) (s : List Token) (k : List Want) (vs f : List Val) → begins_function s ≡ false →
    Good late (run (T.mark M.With ∷ s) (nt d' k_functions ∷ k) vs) f → Good late (runs s (asked d) (nt d' k_functions ∷ k) vs) f
unfolding Good
k_functions_asked late d d' [] k vs f h g = absurd g
k_functions_asked late d d' (T.ident p x ∷ []) k vs f h g = absurd g
k_functions_asked late d d' (T.ident p x ∷ t ∷ s) k vs f h g = k_functions_open late d d' p x t s k vs f h g
k_functions_asked late d d' (_ ∷ s) k vs f h g = g

-- what a token wanted is no `with`
tok_with : (c : Test) (k : List Want) → fine nothing (tok c ∷ k) ≡ true → passes c (T.mark M.With) ≡ true → ⊥
tok_with c k h e = not_true (fits c (spelling M.With)) (and_left (not (fits c (spelling M.With))) (fine nothing k) h) (passes_fits c (T.mark M.With) e)

tok_asked : (late d : ℕ) (s : List Token) (b : Bool) (o l : Outcome) (f : List Val) → (b ≡ true → ⊥) → (n : ℕ) → l ≡ cond b o (Fail syntax n) → Good late l f → ⊥
unfolding Good
tok_asked late d s true o l f h n e g = h refl
tok_asked late d s false o l f h n e g = subst (λ x. Good late x f) e g

-- A question that was put is answered as the stack below would.
asked_runs : (late d : ℕ) (k : List Want) (s : List Token) (vs f : List Val) → begins_function s ≡ false → fine nothing k ≡ true →
    Good late (run (T.mark M.With ∷ s) k vs) f → Good late (runs s (asked d) k vs) f
unfolding Good
asked_runs late d [] s vs f h e g = absurd g
asked_runs late d (tok c ∷ k) s vs f h e g = absurd (tok_asked late d s (passes c (T.mark M.With)) (runs s plainly k (puts c (T.mark M.With) vs)) _ f (tok_with c k e) (suc (length s)) refl g)
asked_runs late d (act a ∷ k) s vs f h e g =
    move_good late f (runs s (asked d) (act a ∷ k) vs) (runs s (asked d) k (makes a vs)) (asked_same d d s (act a ∷ k) k vs (makes a vs) h (λ go bad. refl)) (asked_runs late d k s (makes a vs) f h e g)
asked_runs late d (fix_tail d' ∷ k) s vs f h e g =
    move_good late f (runs s (asked d) (fix_tail d' ∷ k) vs) (runs s (asked d') k vs) (asked_same d d' s (fix_tail d' ∷ k) k vs vs h (λ go bad. refl)) g
asked_runs late d (nt d' k_file ∷ k) s vs f h e g =
    move_good late f (runs s (asked d) (nt d' k_file ∷ k) vs) (runs s (asked d) k vs) (asked_same d d s (nt d' k_file ∷ k) k vs vs h (λ go bad. refl)) (asked_runs late d k s vs f h (and_right (avoids nothing (goes_on k_file) k) (fine nothing k) e) g)
asked_runs late d (nt d' k_commands ∷ k) s vs f h e g =
    move_good late f (runs s (asked d) (nt d' k_commands ∷ k) vs) (runs s (asked d) k vs) (asked_same d d s (nt d' k_commands ∷ k) k vs vs h (λ go bad. refl)) (asked_runs late d k s vs f h (and_right (avoids nothing (goes_on k_commands) k) (fine nothing k) e) g)
asked_runs late d (nt d' k_required ∷ k) s vs f h e g = absurd g
asked_runs late d (nt d' k_quals ∷ k) s vs f h e g =
    move_good late f (runs s (asked d) (nt d' k_quals ∷ k) vs) (runs s (asked d) k vs) (asked_same d d s (nt d' k_quals ∷ k) k vs vs h (λ go bad. refl)) (asked_runs late d k s vs f h (and_right (avoids nothing (goes_on k_quals) k) (fine nothing k) e) g)
asked_runs late d (nt d' k_level ∷ k) s vs f h e g = absurd g
asked_runs late d (nt d' k_relation ∷ k) s vs f h e g = absurd g
asked_runs late d (nt d' k_conses ∷ k) s vs f h e g =
    move_good late f (runs s (asked d) (nt d' k_conses ∷ k) vs) (runs s (asked d) k vs) (asked_same d d s (nt d' k_conses ∷ k) k vs vs h (λ go bad. refl)) (asked_runs late d k s vs f h (and_right (avoids nothing (goes_on k_conses) k) (fine nothing k) e) g)
asked_runs late d (nt d' k_assums ∷ k) s vs f h e g = absurd g
asked_runs late d (nt d' k_idents ∷ k) s vs f h e g =
    move_good late f (runs s (asked d) (nt d' k_idents ∷ k) vs) (runs s (asked d) k vs) (asked_same d d s (nt d' k_idents ∷ k) k vs vs h (λ go bad. refl)) (asked_runs late d k s vs f h (and_right (avoids nothing (goes_on k_idents) k) (fine nothing k) e) g)
asked_runs late d (nt d' k_bounds ∷ k) s vs f h e g =
    move_good late f (runs s (asked d) (nt d' k_bounds ∷ k) vs) (runs s (asked d) k vs) (asked_same d d s (nt d' k_bounds ∷ k) k vs vs h (λ go bad. refl)) (asked_runs late d k s vs f h (and_right (avoids nothing (goes_on k_bounds) k) (fine nothing k) e) g)
asked_runs late d (nt d' k_bound_groups ∷ k) s vs f h e g =
    move_good late f (runs s (asked d) (nt d' k_bound_groups ∷ k) vs) (runs s (asked d) k vs) (asked_same d d s (nt d' k_bound_groups ∷ k) k vs vs h (λ go bad. refl)) (asked_runs late d k s vs f h (and_right (avoids nothing (goes_on k_bound_groups) k) (fine nothing k) e) g)
asked_runs late d (nt d' k_names ∷ k) s vs f h e g =
    move_good late f (runs s (asked d) (nt d' k_names ∷ k) vs) (runs s (asked d) k vs) (asked_same d d s (nt d' k_names ∷ k) k vs vs h (λ go bad. refl)) (asked_runs late d k s vs f h (and_right (avoids nothing (goes_on k_names) k) (fine nothing k) e) g)
asked_runs late d (nt d' k_groups ∷ k) s vs f h e g =
    move_good late f (runs s (asked d) (nt d' k_groups ∷ k) vs) (runs s (asked d) k vs) (asked_same d d s (nt d' k_groups ∷ k) k vs vs h (λ go bad. refl)) (asked_runs late d k s vs f h (and_right (avoids nothing (goes_on k_groups) k) (fine nothing k) e) g)
asked_runs late d (nt d' k_binders ∷ k) s vs f h e g = absurd g
asked_runs late d (nt d' k_definition ∷ k) s vs f h e g = absurd g
asked_runs late d (nt d' k_function ∷ k) s vs f h e g = absurd g
asked_runs late d (nt d' k_struct ∷ k) s vs f h e g =
    move_good late f (runs s (asked d) (nt d' k_struct ∷ k) vs) (runs s (asked d) k vs) (asked_same d d s (nt d' k_struct ∷ k) k vs vs h (λ go bad. refl)) (asked_runs late d k s vs f h (and_right (avoids nothing (goes_on k_struct) k) (fine nothing k) e) g)
asked_runs late d (nt d' k_fixpoints ∷ k) s vs f h e g = k_fixpoints_asked late d d' s k vs f h g
asked_runs late d (nt d' k_ind ∷ k) s vs f h e g = absurd g
asked_runs late d (nt d' k_inds ∷ k) s vs f h e g = k_inds_asked late d d' s k vs f h g
asked_runs late d (nt d' k_ctors ∷ k) s vs f h e g =
    move_good late f (runs s (asked d) (nt d' k_ctors ∷ k) vs) (runs s (asked d) k vs) (asked_same d d s (nt d' k_ctors ∷ k) k vs vs h (λ go bad. refl)) (asked_runs late d k s vs f h (and_right (avoids nothing (goes_on k_ctors) k) (fine nothing k) e) g)
asked_runs late d (nt d' k_ctors_behind ∷ k) s vs f h e g =
    move_good late f (runs s (asked d) (nt d' k_ctors_behind ∷ k) vs) (runs s (asked d) k vs) (asked_same d d s (nt d' k_ctors_behind ∷ k) k vs vs h (λ go bad. refl)) (asked_runs late d k s vs f h (and_right (avoids nothing (goes_on k_ctors_behind) k) (fine nothing k) e) g)
asked_runs late d (nt d' k_more_ctors ∷ k) s vs f h e g =
    move_good late f (runs s (asked d) (nt d' k_more_ctors ∷ k) vs) (runs s (asked d) k vs) (asked_same d d s (nt d' k_more_ctors ∷ k) k vs vs h (λ go bad. refl)) (asked_runs late d k s vs f h (and_right (avoids nothing (goes_on k_more_ctors) k) (fine nothing k) e) g)
asked_runs late d (nt d' k_ctor ∷ k) s vs f h e g = absurd g
asked_runs late d (nt d' k_ctor_type ∷ k) s vs f h e g =
    move_good late f (runs s (asked d) (nt d' k_ctor_type ∷ k) vs) (runs s (asked d) k vs) (asked_same d d s (nt d' k_ctor_type ∷ k) k vs vs h (λ go bad. refl)) (asked_runs late d k s vs f h (and_right (avoids nothing (goes_on k_ctor_type) k) (fine nothing k) e) g)
asked_runs late d (nt d' k_proof ∷ k) s vs f h e g = absurd g
asked_runs late d (nt d' k_proof_body ∷ k) s vs f h e g = absurd g
asked_runs late d (nt d' k_using ∷ k) s vs f h e g = absurd g
asked_runs late d (nt d' k_ending ∷ k) s vs f h e g = absurd g
asked_runs late d (nt d' k_qed ∷ k) s vs f h e g = absurd g
asked_runs late d (nt d' k_term ∷ k) s vs f h e g = absurd g
asked_runs late d (nt d' k_atom ∷ k) s vs f h e g = absurd g
asked_runs late d (nt d' k_some_groups ∷ k) s vs f h e g = absurd g
asked_runs late d (nt d' k_tail ∷ k) s vs f h e g =
    move_good late f (runs s (asked d) (nt d' k_tail ∷ k) vs) (runs s (asked d) k vs) (asked_same d d s (nt d' k_tail ∷ k) k vs vs h (λ go bad. refl)) (asked_runs late d k s vs f h (and_right (avoids nothing (goes_on k_tail) k) (fine nothing k) e) g)
asked_runs late d (nt d' k_type_level ∷ k) s vs f h e g =
    move_good late f (runs s (asked d) (nt d' k_type_level ∷ k) vs) (runs s (asked d) k vs) (asked_same d d s (nt d' k_type_level ∷ k) k vs vs h (λ go bad. refl)) (asked_runs late d k s vs f h (and_right (avoids nothing (goes_on k_type_level) k) (fine nothing k) e) g)
asked_runs late d (nt d' k_functions ∷ k) s vs f h e g = k_functions_asked late d d' s k vs f h g
asked_runs late d (nt d' k_as ∷ k) s vs f h e g =
    move_good late f (runs s (asked d) (nt d' k_as ∷ k) vs) (runs s (asked d) k vs) (asked_same d d s (nt d' k_as ∷ k) k vs vs h (λ go bad. refl)) (asked_runs late d k s vs f h (and_right (avoids nothing (goes_on k_as) k) (fine nothing k) e) g)
asked_runs late d (nt d' k_in ∷ k) s vs f h e g = absurd g
asked_runs late d (nt d' k_with ∷ k) s vs f h e g = k_with_asked late d d' s k vs f h g
asked_runs late d (nt d' k_with_any ∷ k) s vs f h e g = k_with_any_asked late d d' s k vs f h g
asked_runs late d (nt d' k_branches ∷ k) s vs f h e g = absurd g
asked_runs late d (nt d' k_any_branches ∷ k) s vs f h e g = absurd g
asked_runs late d (nt d' k_branch ∷ k) s vs f h e g = absurd g
asked_runs late d (nt d' k_more_branches ∷ k) s vs f h e g = absurd g

take_name : (late d p : ℕ) (x : List ℕ) (t : Token) (s : List Token) (k : List Want) (vs f : List Val) →
    Good late (run (T.ident p x ∷ t ∷ s) (nt d k_function ∷ nt d k_functions ∷ k) vs) f → Good late (runs (T.ident p x ∷ t ∷ s) (asked d) k vs) f
unfolding Good
take_name late d p x (T.mark M.Open) s k vs f g = g
take_name late d p x (T.mark _) s k vs f g = absurd g
take_name late d p x (T.ident q y) s k vs f g = absurd g
take_name late d p x (T.path q y) s k vs f g = absurd g

take_with : (late d : ℕ) (s : List Token) (k : List Want) (vs f : List Val) →
    Good late (run s (nt d k_function ∷ nt d k_functions ∷ k) vs) f → Good late (runs s (asked d) k vs) f
unfolding Good
take_with late d [] k vs f g = absurd g
take_with late d (T.ident p x ∷ []) k vs f g = absurd g
take_with late d (T.ident p x ∷ t ∷ s) k vs f g = take_name late d p x t s k vs f g
take_with late d (T.mark m ∷ s) k vs f g = absurd g
take_with late d (T.path p x ∷ s) k vs f g = absurd g

pub act_runs : (s : List Token) (a : Act) (k : List Want) (vs : List Val) → run s (act a ∷ k) vs ≡ run s k (makes a vs)
act_runs [] a k vs = refl
act_runs (t ∷ s) a k vs = refl

tok_good : (late : ℕ) (c : Test) (t : Token) (s : List Token) (k : List Want) (vs f : List Val) (b : Bool) → b ≡ true → Good late (run s k (puts c t vs)) f →
    Good late (cond b (run s k (puts c t vs)) (Fail syntax (suc (length s)))) f
tok_good late c t s k vs f true e g = g
tok_good late c t s k vs f false e g = absurd (cc)

row_good : (late : ℕ) (b : Bool) (o : Outcome) (n : ℕ) (f : List Val) → (b ≡ true → n ≤ late) → Good late o f → Good late (cond b (Fail nesting n) o) f
unfolding Good
row_good late true o n f h g = h refl
row_good late false o n f h g = g

by_row_good : (late d : ℕ) (n : Kind) (c : Test) (p k : List Want) (t : Token) (s : List Token) (vs f : List Val) (o : Option Row) → o ≡ Some (row c p) →
    (is_deep d n ≡ true → suc (length s) ≤ late) → Good late (run s (p ++ k) (puts c t vs)) f → (bad : Outcome) →
    Good late (chosen o (λ c p. cond (is_deep d n) (Fail nesting (suc (length s))) (run s (p ++ k) (puts c t vs))) bad) f
by_row_good late d n c p k t s vs f None e h g bad = absurd (cc)
by_row_good late d n c p k t s vs f (Some (row c' p')) e h g bad =
    subst (λ r. Good late (chosen r (λ c p. cond (is_deep d n) (Fail nesting (suc (length s))) (run s (p ++ k) (puts c t vs))) bad) f) (sym e)
    (row_good late (is_deep d n) (run s (p ++ k) (puts c t vs)) (suc (length s)) f h g)

by_none_good : (late : ℕ) (o : Option Row) (go : Test → List Want → Outcome) (b : Bool) (l bad : Outcome) (f : List Val) →
    ((r : Row) → o ≡ Some r → ⊥) → b ≡ true → Good late l f → Good late (chosen o go (cond b l bad)) f
by_none_good late None go true l bad f never e g = g
by_none_good late None go false l bad f never e g = absurd (cc)
by_none_good late (Some r) go b l bad f never e g = absurd (never r refl)

finish_good : (late : ℕ) (b : Bool) (o : Outcome) (f : List Val) → b ≡ true → Good late o f → Good late (cond b o (Fail syntax 0)) f
finish_good late true o f e g = g
finish_good late false o f e g = absurd (cc)

skip_good : (late d : ℕ) (t : Token) (s : List Token) (k : List Want) (vs f : List Val) → begins_with_function (t ∷ s) ≡ false → fine nothing k ≡ true →
    Good late (run (t ∷ s) k vs) f → Good late (run (t ∷ s) (fix_tail d ∷ k) vs) f
skip_good late d (T.mark M.With) s k vs f e h g = asked_runs late d k s vs f e h g
skip_good late d _ s k vs f e h g = g

fix_fine : (d : ℕ) (k : List Want) → fine nothing k ≡ true → fine nothing (nt d k_function ∷ nt d k_functions ∷ k) ≡ true
fix_fine d k h = h

-- What is of the grammar is read so, or the reading fails at a term past the deepest nesting.
pub complete : {late : ℕ} {k : List Want} {vs f : List Val} {s : List Token} → Reads late k vs s f → fine nothing k ≡ true → Good late (run s k vs) f
unfolding Good
complete at_end h = refl
complete {late = late} {f = f} (token {c = c} {k = k} {vs = vs} {t = t} {s = s} e r) h = tok_good late c t s k vs f (passes c t) e (complete r (and_right (not (fits c (spelling M.With))) (fine nothing k) h))
complete {late = late} {f = f} {s = s} (action {a = a} {k = k} {vs = vs} r) h = move_good late f (run s (act a ∷ k) vs) (run s k (makes a vs)) (act_runs s a k vs) (complete r h)
complete {late = late} {f = f} (by_row {d = d} {n = n} {c = c} {p = p} {k = k} {vs = vs} {t = t} {s = s} e w r) h =
    by_row_good late d n c p k t s vs f (pick (rules d n) t) e w (complete r (row_fine d n t c p k e h)) _
complete {late = late} {f = f} {s = []} (by_none {d = d} {n = n} {k = k} {vs = vs} e r) h = finish_good late (may_be_none n) (finish k vs) f e (complete r (and_right (avoids nothing (goes_on n) k) (fine nothing k) h))
complete {late = late} {f = f} {s = t ∷ s} (by_none {d = d} {n = n} {k = k} {vs = vs} e r) h =
    by_none_good late (pick (rules d n) t) _ (may_be_none n) _ _ f (λ q p. absent d n e h r p) e (complete r (and_right (avoids nothing (goes_on n) k) (fine nothing k) h))
complete {s = []} (no_more e r) h = complete r h
complete {late = late} {f = f} {s = t ∷ s} (no_more {d = d} {k = k} {vs = vs} e r) h = skip_good late d t s k vs f e h (complete r h)
complete {late = late} {f = f} (one_more {d = d} {k = k} {vs = vs} {s = s} r) h = take_with late d s k vs f (complete r (fix_fine d k h))

pub good_read : (o : Outcome) (f g : List Val) → Good 0 o f → o ≡ Read g → g ≡ f
unfolding Good
good_read o f g h e = let l : Good 0 (Read g) f = subst (λ x. Good 0 x f) e h in l

pub good_syntax : (late : ℕ) (o : Outcome) (f : List Val) (n : ℕ) → Good late o f → o ≡ Fail syntax n → ⊥
unfolding Good
good_syntax late o f n h e = let l : Good late (Fail syntax n) f = subst (λ x. Good late x f) e h in l

pub good_nesting : (late : ℕ) (o : Outcome) (f : List Val) (n : ℕ) → Good late o f → o ≡ Fail nesting n → n ≤ late
unfolding Good
good_nesting late o f n h e = let l : Good late (Fail nesting n) f = subst (λ x. Good late x f) e h in l
