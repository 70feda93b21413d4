-- How many sentences of a file begin a command: as many as it has commands.
use Rattle.std.proofs.Common.{ℕ, Bool, true, false, cond, List, [], ◌∷◌, ◌++◌, ◌≡◌, ◌+◌, length, Option, Some, None, map, not, refl, ap, sym, subst, ◌∙◌, arith, codes, ◌&&◌}
use Rattle.std.specs.Str.{bytes_eq}
use Rattle.std.proofs.lemmas.Option.{same_Some}
use Rattle.std.proofs.lemmas.Bool.{and_parts, eqb-true}
use Rattle.gal_lexer.specs.declared.token.Mark.TheVariants as M
use Rattle.gal_lexer.specs.Marks.{spelling}
use Rattle.gal_grammar.specs.Tokens.{Token}
use Rattle.gal_grammar.specs.Tokens as T
use Rattle.gal_grammar.specs.Tests.{Test, mark, word, ident, qualid, name, passes}
use Rattle.gal_grammar.specs.Commands.{Command}
use Rattle.gal_grammar.specs.Values.{puts, Val}
use Rattle.gal_grammar.specs.Kinds.{Row, row, Kind, Want, nt, fix_tail, k_file, k_function, k_functions}
use Rattle.gal_grammar.specs.Rules.{rules}
use Rattle.gal_grammar.specs.Grammar.{pick, Reads, at_end, token, action, by_row, by_none, no_more, one_more, File}
use Rattle.gal_lines.specs.Sentences.{is_proof_word, goes_on}
use Rattle.gal_lines.proofs.Tags.{Tag, act_fits, act_tags, no_count, t_commands, t_functions, t_maybe_name, tag}
use Rattle.gal_lines.proofs.Wants.{AllFit, RowFits, check, count_if, none_fits, on_tags, opens, opens_none, rows_fit, stops, tok_tags}

pub text_same : (x y : List ℕ) → bytes_eq x y ≡ true → x ≡ y
text_same [] [] e = refl
text_same [] (b ∷ y) e = absurd (cc)
text_same (a ∷ x) [] e = absurd (cc)
text_same (a ∷ x) (b ∷ y) e = let p = and_parts _ _ e in let h : a ≡ b = eqb-true a b p.0 in let r : x ≡ y = text_same x y p.1 in (cc)

-- the stop of a sentence
abbrev pub ends_token : Token → Bool
ends_token (T.mark m) = bytes_eq (spelling M.Stop) (spelling m)
ends_token _ = false

abbrev pub count_first : Bool → Token → ℕ → ℕ
count_first true t n = count_if (not (goes_on t)) n
count_first false t n = n

-- how many sentences begin a command, of tokens before which a sentence ends or not
abbrev pub begun : Bool → List Token → ℕ
begun b [] = 0
begun b (t ∷ s) = count_first b t (begun (ends_token t) s)

-- whether a sentence ends before or with the last of the tokens
abbrev pub at_start : Bool → List Token → Bool
at_start b [] = b
at_start b (t ∷ s) = at_start (ends_token t) s

pub pass_stops : (c : Test) (t : Token) → passes c t ≡ true → ends_token t ≡ stops c
pass_stops (mark m) (T.mark n) e = ap (λ x. bytes_eq (spelling M.Stop) x) (sym (text_same (spelling m) (spelling n) e))
pass_stops (word w) (T.ident p x) e = refl
pass_stops ident (T.ident p x) e = refl
pass_stops qualid (T.ident p x) e = refl
pass_stops qualid (T.path p x) e = refl
pass_stops name (T.ident p x) e = refl
pass_stops name (T.mark n) e = ap (λ x. bytes_eq (spelling M.Stop) x) (sym (text_same (spelling M.Blank) (spelling n) e))
pass_stops c t e = absurd (cc)

pub pass_tags : (c : Test) (t : Token) (vs : List Val) → passes c t ≡ true → map tag (puts c t vs) ≡ tok_tags c ++ map tag vs
pass_tags (mark m) (T.mark n) vs e = refl
pass_tags (word w) (T.ident p x) vs e = refl
pass_tags ident (T.ident p x) vs e = refl
pass_tags qualid (T.ident p x) vs e = refl
pass_tags qualid (T.path p x) vs e = refl
pass_tags name (T.ident p x) vs e = refl
pass_tags name (T.mark n) vs e = refl
pass_tags c t vs e = absurd (cc)

pub pass_begun : (b : Bool) (c : Test) (t : Token) (s : List Token) (o : Bool) → opens b c ≡ Some o → passes c t ≡ true → begun b (t ∷ s) ≡ count_if o (begun (stops c) s)
pass_begun false c t s o e p = ap (λ x. begun x s) (pass_stops c t p) ∙ ap (λ x. count_if x (begun (stops c) s)) (same_Some _ _ e)
pass_begun true (word w) (T.ident q x) s o e p =
    ap (λ y. count_if (not (is_proof_word y)) (begun false s)) (sym (text_same (codes w) x p)) ∙ ap (λ v. count_if v (begun false s)) (same_Some _ _ e)
pass_begun true c t s o e p = absurd (cc)

pub open_some : (o : Option Bool) (x : Option ℕ) (N : ℕ) → opens_none o x ≡ Some N → (o ≡ Some false) × (x ≡ Some N)
open_some (Some false) x N e = (refl, e)
open_some o x N e = absurd (cc)

pub tags_some : (o : Option (List Tag)) (g : List Tag → Option ℕ) (N : ℕ) → on_tags o g ≡ Some N → (τ : List Tag) × (o ≡ Some τ) × (g τ ≡ Some N)
tags_some None g N e = absurd (cc)
tags_some (Some τ) g N e = (τ, refl, e)

pub same_test : (x c : Test) (q p : List Want) → Some (row x q) ≡ Some (row c p) → (x ≡ c) × (q ≡ p)
same_test x c q p e = (cc, cc)

pub picked : (rs : List Row) (t : Token) (c : Test) (p : List Want) (b : Bool) (σ : List Tag) (N : ℕ) (k : List Want) → pick rs t ≡ Some (row c p) → AllFit rs b σ N k →
    (passes c t ≡ true) × (RowFits c p b σ N k)
picked [] t c p b σ N k e h = absurd (cc)
picked (row x q ∷ rs) t c p b σ N k e h = by (passes x t) refl e (λ f. picked rs t c p b σ N k f h.1)
  where
    by : (v : Bool) → passes x t ≡ v → cond v (Some (row x q)) (pick rs t) ≡ Some (row c p) → (pick rs t ≡ Some (row c p) → (passes c t ≡ true) × (RowFits c p b σ N k)) → (passes c t ≡ true) × (RowFits c p b σ N k)
    by true u f further = let same = same_test x c q p f in
        (subst (λ y. passes y t ≡ true) same.0 u, subst (λ y. RowFits c y b σ N k) same.1 (subst (λ y. RowFits y q b σ N k) same.0 h.0))
    by false u f further = further f

pub tail_fits : (d : ℕ) (b : Bool) (σ : List Tag) (k : List Want) (N : ℕ) → check (fix_tail d ∷ k) b σ ≡ Some N →
    (b ≡ false) × (check k b σ ≡ Some N) × (check (nt d k_function ∷ nt d k_functions ∷ k) b σ ≡ Some N)
tail_fits d false (t_functions ∷ t_maybe_name ∷ σ) k N e = (refl, e, e)
tail_fits d b σ k N e = absurd (no_count N e)

pub last_fits : (b : Bool) (σ : List Tag) (N : ℕ) → check [] b σ ≡ Some N → (σ ≡ t_commands N ∷ []) × (b ≡ true)
last_fits true (t_commands n ∷ []) N e = (ap (λ x. t_commands x ∷ []) (same_Some n N e), refl)
last_fits b σ N e = absurd (no_count N e)

pub moved_count : (o : Bool) (N x : ℕ) → count_if o N + x ≡ N + count_if o x
moved_count true N x = omega arith
moved_count false N x = refl

pub record Counted (N : ℕ) (b : Bool) (s : List Token) (f : List Val) : Type 0 where
  pub made : map tag f ≡ t_commands (N + begun b s) ∷ []
  pub ended : at_start b s ≡ true

pub counted : {k : List Want} {vs f : List Val} {s : List Token} → Reads 0 k vs s f → (b : Bool) (N : ℕ) → check k b (map tag vs) ≡ Some N → Counted N b s f
counted {vs = vs} at_end b N e = let h = last_fits b (map tag vs) N e in let zero_more : N ≡ N + 0 = omega arith in record { made = h.0 ∙ ap (λ n. t_commands n ∷ []) zero_more; ended = h.1 }
counted (token {c} {k} {vs} {f} {t} {s} p r) b N e =
    let o = open_some (opens b c) (check k (stops c) (tok_tags c ++ map tag vs)) N e in
    let rest = counted r (stops c) N (ap (λ σ. check k (stops c) σ) (pass_tags c t vs p) ∙ o.1) in
    record {
      made = rest.made ∙ ap (λ n. t_commands (N + n) ∷ []) (sym (pass_begun b c t s false o.0 p));
      ended = ap (λ x. at_start x s) (pass_stops c t p) ∙ rest.ended;
    }
counted (action {a} {k} {vs} r) b N e =
    let h = tags_some (act_tags a (map tag vs)) (λ τ. check k b τ) N e in counted r b N (ap (λ σ. check k b σ) (act_fits a vs h.0 h.1) ∙ h.2)
counted (by_row {d} {n} {c} {p} {k} {vs} {f} {t} {s} pk deep r) b N e =
    let h = picked (rules d n) t c p b (map tag vs) N k pk (rows_fit d n b (map tag vs) k N e) in
    let (o, first, fits) = h.1 in
    let rest = counted r (stops c) (count_if o N) (ap (λ σ. check (p ++ k) (stops c) σ) (pass_tags c t vs h.0) ∙ fits) in
    record {
      made = rest.made ∙ ap (λ n. t_commands n ∷ []) (moved_count o N (begun (stops c) s) ∙ ap (λ n. N + n) (sym (pass_begun b c t s o first h.0)));
      ended = ap (λ x. at_start x s) (pass_stops c t h.0) ∙ rest.ended;
    }
counted (by_none {d} {n} {k} {vs} m r) b N e = counted r b N (none_fits d n b (map tag vs) k N m e)
counted (no_more {d} {k} {vs} x r) b N e = counted r b N (tail_fits d b (map tag vs) k N e).1
counted (one_more {d} {k} {vs} {f} {s} r) b N e =
    let h = tail_fits d b (map tag vs) k N e in
    let rest = counted r b N h.2 in
    record {
      made = rest.made ∙ ap (λ n. t_commands (N + n) ∷ []) (ap (λ x. begun x s) h.0 ∙ sym (ap (λ x. count_first x (T.mark M.With) (begun false s)) h.0));
      ended = ap (λ x. at_start x s) (sym h.0) ∙ rest.ended;
    }

pub commands_same : (m n : ℕ) → t_commands m ∷ [] ≡ t_commands (0 + n) ∷ [] → m ≡ n
commands_same m n e = let h : m ≡ 0 + n = (cc) in (omega (arith, h))

-- A file has as many commands as sentences that begin one, and ends with a sentence.
pub count_file : (s : List Token) (cs : List Command) → File s cs → (length cs ≡ begun true s) × (at_start true s ≡ true)
count_file s cs r = let h = counted r true 0 refl in (commands_same (length cs) (begun true s) h.made, h.ended)

abbrev pub is_opening : Test → Bool
is_opening (word w) = not (is_proof_word (codes w))
is_opening _ = false

abbrev pub all_open : List Row → Bool
all_open [] = true
all_open (row c p ∷ rs) = is_opening c && all_open rs

pub not_true : (b : Bool) → not b ≡ true → b ≡ false
not_true true e = absurd (cc)
not_true false e = refl

pub word_opens : (c : Test) (t : Token) → is_opening c ≡ true → passes c t ≡ true → goes_on t ≡ false
word_opens (word w) (T.ident q x) o p = ap is_proof_word (sym (text_same (codes w) x p)) ∙ not_true (is_proof_word (codes w)) o
word_opens c t o p = absurd (cc)

pub picked_opens : (rs : List Row) (t : Token) (r : Row) → all_open rs ≡ true → pick rs t ≡ Some r → goes_on t ≡ false
picked_opens [] t r o e = absurd (cc)
picked_opens (row x q ∷ rs) t r o e = by (passes x t) refl e (λ f. picked_opens rs t r (and_parts _ _ o).1 f)
  where
    by : (v : Bool) → passes x t ≡ v → cond v (Some (row x q)) (pick rs t) ≡ Some r → (pick rs t ≡ Some r → goes_on t ≡ false) → goes_on t ≡ false
    by true u f further = word_opens x t (and_parts _ _ o).0 u
    by false u f further = further f

pub rules_open : (d : ℕ) → all_open (rules d k_file) ≡ true
rules_open d = refl

pub nothing_more : {w : List Want} {vs f : List Val} {u : List Token} → Reads 0 w vs u f → (t : Token) (s : List Token) → w ≡ [] → u ≡ t ∷ s → ⊥
nothing_more at_end t s e g = absurd (cc)
nothing_more (token p r) t s e g = absurd (cc)
nothing_more (action r) t s e g = absurd (cc)
nothing_more (by_row pk deep r) t s e g = absurd (cc)
nothing_more (by_none m r) t s e g = absurd (cc)
nothing_more (no_more x r) t s e g = absurd (cc)
nothing_more (one_more r) t s e g = absurd (cc)

pub file_wants : (d d' : ℕ) (n : Kind) (k : List Want) → nt d' n ∷ k ≡ nt d k_file ∷ [] → (d' ≡ d) × (n ≡ k_file) × (k ≡ [])
file_wants d d' n k e = (cc, cc, cc)

pub first_opens : {w : List Want} {vs f : List Val} {u : List Token} → Reads 0 w vs u f → (d : ℕ) (t : Token) (s : List Token) → w ≡ nt d k_file ∷ [] → u ≡ t ∷ s → goes_on t ≡ false
first_opens at_end d t s e g = absurd (cc)
first_opens (token p r) d t s e g = absurd (cc)
first_opens (action r) d t s e g = absurd (cc)
first_opens (by_row {d = d'} {n = n} {c = c} {p = p} {k = k} {t = t'} pk deep r) d t s e g =
    let h = file_wants d d' n k e in
    let here : t' ≡ t = (cc) in
    picked_opens (rules d' k_file) t (row c p) (rules_open d') (subst (λ x. pick (rules d' k_file) x ≡ Some (row c p)) here (subst (λ x. pick (rules d' x) t' ≡ Some (row c p)) h.1 pk))
first_opens (by_none {d = d'} {n = n} {k = k} m r) d t s e g = absurd (nothing_more r t s (file_wants d d' n k e).2 g)
first_opens (no_more x r) d t s e g = absurd (cc)
first_opens (one_more r) d t s e g = absurd (cc)

-- a file does not begin with a sentence that goes on with a command
pub file_opens : (t : Token) (s : List Token) (cs : List Command) → File (t ∷ s) cs → goes_on t ≡ false
file_opens t s cs r = first_opens r 0 t s refl refl
