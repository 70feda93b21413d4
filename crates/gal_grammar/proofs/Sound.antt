-- What the machine reads is of the grammar, every stack can be completed, and where it fails the front cannot go on.
use Rattle.std.proofs.Common.{ℕ, zero, suc, Bool, true, false, cond, List, [], ◌∷◌, ◌++◌, ◌≡◌, ◌≤◌, ◌<◌, ◌+◌, length, Option, Some, None, refl, ap, sym, subst, ◌∙◌, append_assoc, arith, nat_eq, ◌&&◌, codes}
use Rattle.std.specs.Str.{bytes_eq}
use Rattle.std.proofs.lemmas.Bool.{and_from}
use Rattle.gal_lexer.specs.Marks.{spelling}
use Rattle.gal_grammar.specs.Tokens.{Token}
use Rattle.gal_grammar.specs.Tokens as T
use Rattle.gal_lexer.specs.declared.token.Mark.{Mark}
use Rattle.gal_lexer.specs.declared.token.Mark.TheVariants as M
use Rattle.gal_grammar.specs.Terms.{named, no_groups}
use Rattle.gal_grammar.specs.Tests.{Test, mark, word, ident, qualid, name, passes}
use Rattle.gal_grammar.specs.Values.{puts, Val, a_name, groups}
use Rattle.gal_grammar.specs.Actions.{Act, makes}
use Rattle.gal_grammar.specs.Kinds.{Row, row, Kind, k_file, k_commands, k_required, k_quals, k_level, k_relation, k_conses, k_assums, k_idents, k_bounds, k_bound_groups, k_names, k_groups, k_some_groups, k_binders, k_definition, k_function, k_struct, k_fixpoints, k_ind, k_inds, k_ctors, k_ctors_behind, k_more_ctors, k_ctor, k_ctor_type, k_proof, k_proof_body, k_using, k_ending, k_qed, k_term, k_atom, k_tail, k_type_level, k_functions, k_as, k_in, k_with, k_with_any, k_branches, k_any_branches, k_branch, k_more_branches, Want, tok, act, nt, fix_tail}
use Rattle.gal_grammar.specs.Rules.{rules, may_be_none, function_behind, function_rest}
use Rattle.gal_grammar.specs.Grammar.{pick, is_deep, begins_function, begins_with_function, Reads, at_end, token, action, by_row, by_none, no_more, one_more}
use Rattle.gal_grammar.specs.calls.Machine.{Why, syntax, nesting, Outcome, Read, Fail, Mode, plainly, asked, asked_name, Go, Look, usual, outer, behind, is_with, asks, refuses, chosen, step, answer, advance, finish, ends, runs, run}

-- some tokens are what a stack wants, with any terms past the deepest nesting among them
abbrev pub Completes : List Want → List Val → Type 0
Completes k vs = (x : List Token) × (f : List Val) × ((late : ℕ) → length x ≤ late → Reads late k vs x f)

abbrev pub All : List Want → Type 0
All k = (vs : List Val) → Completes k vs

same_nat : (n : ℕ) → nat_eq n n ≡ true
same_nat n = grind arith

same_text : (x : List ℕ) → bytes_eq x x ≡ true
same_text [] = refl
same_text (a ∷ x) = and_from _ _ (same_nat a) (same_text x)

example : Test → Token
example (mark m) = T.mark m
example (word w) = T.ident 0 (codes w)
example _ = T.ident 0 []

example_passes : (c : Test) → passes c (example c) ≡ true
unfolding example
example_passes (mark m) = same_text (spelling m)
example_passes (word w) = same_text (codes w)
example_passes ident = refl
example_passes qualid = refl
example_passes name = refl

pub later : {a n : ℕ} → suc a ≤ n → a ≤ n
later h = omega arith

c_end : All []
c_end vs = ([], vs, λ late h. at_end)

c_tok : {c : Test} {k : List Want} → All k → All (tok c ∷ k)
c_tok {c = c} h vs = let (x, f, r) = h (puts c (example c) vs) in (example c ∷ x, f, λ late lt. token (example_passes c) (r late (later lt)))

c_act : {a : Act} {k : List Want} → All k → All (act a ∷ k)
c_act {a = a} h vs = let (x, f, r) = h (makes a vs) in (x, f, λ late lt. action (r late lt))

c_none : {d : ℕ} {n : Kind} {k : List Want} → may_be_none n ≡ true → All k → All (nt d n ∷ k)
c_none e h vs = let (x, f, r) = h vs in (x, f, λ late lt. by_none e (r late lt))

abbrev pub OnPick : Option Row → (Test → List Want → Type 0) → Type 0
OnPick None P = ⊥
OnPick (Some (row c p)) P = P c p

row_completes : (d : ℕ) (n : Kind) (t : Token) (o : Option Row) (k : List Want) → pick (rules d n) t ≡ o → OnPick o (λ c p. All (p ++ k)) → All (nt d n ∷ k)
row_completes d n t None k e h vs = absurd h
row_completes d n t (Some (row c p)) k e h vs = let (x, f, r) = h (puts c t vs) in (t ∷ x, f, λ late lt. by_row e (λ deep. lt) (r late (later lt)))

-- by the row of this token
c_row : (d : ℕ) (n : Kind) (t : Token) (k : List Want) → OnPick (pick (rules d n) t) (λ c p. All (p ++ k)) → All (nt d n ∷ k)
c_row d n t k h = row_completes d n t (pick (rules d n) t) k refl h

an_ident : Token
an_ident = T.ident 0 []

c_term : (d : ℕ) (k : List Want) → All k → All (nt d k_term ∷ k)
c_term d k h = c_row d k_term (T.mark M.Prop) k (c_act (c_none refl h))

c_some_groups : (d : ℕ) (k : List Want) → All k → All (nt d k_some_groups ∷ k)
c_some_groups d k h = c_row d k_some_groups (T.mark M.Open) k (c_act (c_tok (c_act (c_none refl (c_tok (c_term (d + 1) _ (c_tok (c_act (c_none refl h)))))))))

c_function : (d : ℕ) (k : List Want) → All k → All (nt d k_function ∷ k)
unfolding an_ident
c_function d k h = c_row d k_function an_ident k (c_act (c_some_groups d _ (c_act (c_none refl (c_tok (c_term (d + 1) _ (c_tok (c_term (d + 1) _ (c_act h)))))))))

c_ctor : (d : ℕ) (k : List Want) → All k → All (nt d k_ctor ∷ k)
unfolding an_ident
c_ctor d k h = c_row d k_ctor an_ident k (c_act (c_none refl (c_act (c_none refl (c_act h)))))

c_ind : (d : ℕ) (k : List Want) → All k → All (nt d k_ind ∷ k)
unfolding an_ident
c_ind d k h = c_row d k_ind an_ident k (c_act (c_none refl (c_tok (c_term (d + 1) _ (c_tok (c_act (c_none refl (c_act h))))))))

c_qed : (d : ℕ) (k : List Want) → All k → All (nt d k_qed ∷ k)
c_qed d k h = c_row d k_qed (T.ident 0 (codes "Qed")) k (c_tok (c_act h))

c_ending : (d : ℕ) (k : List Want) → All k → All (nt d k_ending ∷ k)
c_ending d k h = c_row d k_ending (T.ident 0 (codes "Admitted")) k (c_tok (c_act h))

c_proof : (d : ℕ) (k : List Want) → All k → All (nt d k_proof ∷ k)
c_proof d k h = c_row d k_proof (T.ident 0 (codes "Admitted")) k (c_tok (c_act h))

c_more_branches : (d : ℕ) (k : List Want) → All k → All (nt d k_more_branches ∷ k)
c_more_branches d k h = c_row d k_more_branches (T.mark M.End) k h

c_branch : (d : ℕ) (k : List Want) → All k → All (nt d k_branch ∷ k)
unfolding an_ident
c_branch d k h = c_row d k_branch an_ident k (c_act (c_none refl (c_tok (c_term (d + 1) _ (c_act h)))))

c_branches : (d : ℕ) (k : List Want) → All k → All (nt d k_branches ∷ k)
unfolding an_ident
c_branches d k h = c_row d k_branches an_ident k (c_act (c_none refl (c_tok (c_term (d + 1) _ (c_act (c_more_branches d k h))))))

c_with : (d : ℕ) (k : List Want) → All k → All (nt d k_with ∷ k)
c_with d k h = c_row d k_with (T.mark M.With) k (c_act (c_branches d k h))

c_functions : (d : ℕ) (k : List Want) → All k → All (nt d k_functions ∷ k)
c_functions d k h = c_row d k_functions (T.mark M.For) k (c_tok (c_act h))

c_level : (d : ℕ) (k : List Want) → All k → All (nt d k_level ∷ k)
c_level d k h = c_row d k_level (T.mark M.Set) k (c_act h)

c_kind : (n : Kind) (d : ℕ) (k : List Want) → All k → All (nt d n ∷ k)
unfolding an_ident
c_kind k_required d k h = c_row d k_required (T.ident 0 []) k (c_act (c_act (c_none refl h)))
c_kind k_level d k h = c_level d k h
c_kind k_relation d k h = c_row d k_relation (T.mark M.Less) k (c_act h)
c_kind k_assums d k h = c_row d k_assums (T.ident 0 []) k (c_act (c_act (c_act (c_none refl (c_tok (c_term (d + 1) _ (c_act h)))))))
c_kind k_binders d k h = c_row d k_binders (T.ident 0 []) k (c_act (c_act (c_none refl (c_tok (c_term (d + 1) _ (c_act h))))))
c_kind k_definition d k h = c_row d k_definition (T.mark M.Assign) k (c_term (d + 1) _ (c_tok (c_act h)))
c_kind k_function d k h = c_function d k h
c_kind k_ind d k h = c_ind d k h
c_kind k_ctor d k h = c_ctor d k h
c_kind k_proof d k h = c_proof d k h
c_kind k_proof_body d k h = c_row d k_proof_body (T.mark M.Stop) k (c_ending d k h)
c_kind k_using d k h = c_row d k_using (T.mark M.Typ) k (c_act h)
c_kind k_ending d k h = c_ending d k h
c_kind k_qed d k h = c_qed d k h
c_kind k_term d k h = c_term d k h
c_kind k_atom d k h = c_row d k_atom (T.mark M.Prop) k (c_act h)
c_kind k_some_groups d k h = c_some_groups d k h
c_kind k_functions d k h = c_functions d k h
c_kind k_in d k h = c_row d k_in (T.mark M.Return) k (c_term (d + 1) _ (c_with d k h))
c_kind k_with d k h = c_with d k h
c_kind k_with_any d k h = c_row d k_with_any (T.mark M.With) k (c_act (c_row d k_any_branches (T.mark M.End) k h))
c_kind k_branches d k h = c_branches d k h
c_kind k_any_branches d k h = c_row d k_any_branches (T.mark M.End) k h
c_kind k_branch d k h = c_branch d k h
c_kind k_more_branches d k h = c_more_branches d k h
c_kind k_file d k h = c_none refl h
c_kind k_commands d k h = c_none refl h
c_kind k_quals d k h = c_none refl h
c_kind k_conses d k h = c_none refl h
c_kind k_idents d k h = c_none refl h
c_kind k_bounds d k h = c_none refl h
c_kind k_bound_groups d k h = c_none refl h
c_kind k_names d k h = c_none refl h
c_kind k_groups d k h = c_none refl h
c_kind k_struct d k h = c_none refl h
c_kind k_fixpoints d k h = c_none refl h
c_kind k_inds d k h = c_none refl h
c_kind k_ctors d k h = c_none refl h
c_kind k_ctors_behind d k h = c_none refl h
c_kind k_more_ctors d k h = c_none refl h
c_kind k_ctor_type d k h = c_none refl h
c_kind k_tail d k h = c_none refl h
c_kind k_type_level d k h = c_none refl h
c_kind k_as d k h = c_none refl h

with_completes : (d : ℕ) (k : List Want) → All k → All (fix_tail d ∷ k)
with_completes d k h vs =
    let (x, f, r) = c_function d _ (c_functions d k h) vs in
    (T.mark M.With ∷ x, f, λ late lt. one_more (r late (later lt)))

-- every stack can be completed
pub completes : (k : List Want) → All k
completes [] = c_end
completes (tok c ∷ k) = c_tok (completes k)
completes (act a ∷ k) = c_act (completes k)
completes (nt d n ∷ k) = c_kind n d k (completes k)
completes (fix_tail d ∷ k) = with_completes d k (completes k)

-- what a mode and a stack want
abbrev pub ReadsIn : ℕ → Mode → List Want → List Val → List Token → List Val → Type 0
ReadsIn late plainly k vs s f = Reads late k vs s f
ReadsIn late (asked d) k vs s f = Reads late (fix_tail d ∷ k) vs (T.mark M.With ∷ s) f
ReadsIn late (asked_name d p x) k vs s f = Reads late (fix_tail d ∷ k) vs (T.mark M.With ∷ T.ident p x ∷ s) f

abbrev pub CompletesIn : Mode → List Want → List Val → Type 0
CompletesIn m k vs = (x : List Token) × (f : List Val) × ((late : ℕ) → length x ≤ late → ReadsIn late m k vs x f)

-- the first function that stands behind the word with
pub function_reads : (late d p : ℕ) (x : List ℕ) (k : List Want) (vs f : List Val) (s : List Token) →
    Reads late (function_rest d ++ (nt d k_functions ∷ k)) (groups no_groups ∷ a_name (named p x) ∷ vs) s f →
    Reads late (fix_tail d ∷ k) vs (T.mark M.With ∷ T.ident p x ∷ T.mark M.Open ∷ s) f
function_reads late d p x k vs f s h =
    one_more (by_row {d = d} {n = k_function} {c = ident} {p = function_behind d} refl (λ deep. absurd (cc)) (action (by_row {d = d} {n = k_some_groups} {c = mark M.Open} refl (λ deep. absurd (cc)) h)))

completes_name : (d p : ℕ) (x : List ℕ) (k : List Want) (vs : List Val) → CompletesIn (asked_name d p x) k vs
completes_name d p x k vs =
    let (y, f, r) = completes (function_rest d ++ (nt d k_functions ∷ k)) (groups no_groups ∷ a_name (named p x) ∷ vs) in
    (T.mark M.Open ∷ y, f, λ late lt. function_reads late d p x k vs f y (r late (later lt)))

pub completes_in : (m : Mode) (k : List Want) (vs : List Val) → CompletesIn m k vs
completes_in plainly k vs = completes k vs
completes_in (asked d) k vs = let (y, f, r) = completes_name d 0 [] k vs in (T.ident 0 [] ∷ y, f, λ late lt. r late (later lt))
completes_in (asked_name d p x) k vs = completes_name d p x k vs

-- what must stand behind a token that is looked at so
abbrev pub Guard : Look → List Token → Type 0
Guard outer s = begins_function s ≡ false
Guard _ s = Unit {0}

-- a token leads on, whatever comes behind it
pub record Led (u : Look) (k : List Want) (t : Token) (vs : List Val) (k' : List Want) (vs' : List Val) : Type 0 where
  pub goes : (go : Go) (bad : Why → Outcome) → step u k t go bad vs ≡ go plainly k' vs'
  pub right : (late : ℕ) (s : List Token) (f : List Val) → Guard u s → Reads late k' vs' s f → Reads late k vs (t ∷ s) f

pub record Asking (u : Look) (k : List Want) (t : Token) (vs : List Val) (d : ℕ) (k' : List Want) (vs' : List Val) : Type 0 where
  pub goes : (go : Go) (bad : Why → Outcome) → step u k t go bad vs ≡ go (asked d) k' vs'
  pub asks : asks u t ≡ true
  pub right : (late : ℕ) (s : List Token) (f : List Val) → Reads late (fix_tail d ∷ k') vs' (T.mark M.With ∷ s) f → Reads late k vs (t ∷ s) f

pub record Deep (u : Look) (k : List Want) (t : Token) (vs : List Val) : Type 0 where
  pub goes : (go : Go) (bad : Why → Outcome) → step u k t go bad vs ≡ bad nesting
  pub not_behind : u ≡ behind → ⊥
  pub not_with : is_with t ≡ true → ⊥
  pub rest : List Token
  pub made : List Val
  pub right : (late : ℕ) → suc (length rest) ≤ late → Reads late k vs (t ∷ rest) made

pub data Step (u : Look) (k : List Want) (t : Token) (vs : List Val) : Type 0 where
  stuck : ((go : Go) (bad : Why → Outcome) → step u k t go bad vs ≡ bad syntax) → Step u k t vs
  deep : Deep u k t vs → Step u k t vs
  led : (k' : List Want) (vs' : List Val) → Led u k t vs k' vs' → Step u k t vs
  asking : (d : ℕ) (k' : List Want) (vs' : List Val) → Asking u k t vs d k' vs' → Step u k t vs

step_tok : (u : Look) (c : Test) (t : Token) (b : Bool) → passes c t ≡ b → (k : List Want) (vs : List Val) → Step u (tok c ∷ k) t vs
step_tok u c t true e k vs = led k (puts c t vs) (record { goes = λ go bad. rw e refl; right = λ late s f g h. token e h })
step_tok u c t false e k vs = stuck (λ go bad. rw e refl)

-- what is read below an action, or below what is not there
step_below : (u : Look) (k l : List Want) (t : Token) (vs ws : List Val) →
    ((go : Go) (bad : Why → Outcome) → step u k t go bad vs ≡ step u l t go bad ws) →
    ((late : ℕ) (s : List Token) (f : List Val) → Reads late l ws (t ∷ s) f → Reads late k vs (t ∷ s) f) →
    Step u l t ws → Step u k t vs
step_below u k l t vs ws same right (stuck h) = stuck (λ go bad. same go bad ∙ h go bad)
step_below u k l t vs ws same right (deep h) = deep (record {
  goes = λ go bad. same go bad ∙ h.goes go bad;
  not_behind = h.not_behind;
  not_with = h.not_with;
  rest = h.rest;
  made = h.made;
  right = λ late lt. right late h.rest h.made (h.right late lt);
})
step_below u k l t vs ws same right (led k' vs' h) = led k' vs' (record {
  goes = λ go bad. same go bad ∙ h.goes go bad;
  right = λ late s f g r. right late s f (h.right late s f g r);
})
step_below u k l t vs ws same right (asking d k' vs' h) = asking d k' vs' (record {
  goes = λ go bad. same go bad ∙ h.goes go bad;
  asks = h.asks;
  right = λ late s f r. right late s f (h.right late s f r);
})

pub not_with : (t : Token) (s : List Token) → is_with t ≡ false → begins_with_function (t ∷ s) ≡ false
not_with (T.mark M.With) s e = absurd (cc)
not_with _ s e = refl

no_with : (t : Token) → (is_with t ≡ true → ⊥) → is_with t ≡ false
no_with (T.mark M.With) h = absurd (h refl)
no_with _ h = refl

-- a `with` that is not asked about is looked at as one that belongs further out
pub guard_outer : (t : Token) (s : List Token) → begins_function s ≡ false → begins_with_function (t ∷ s) ≡ false
guard_outer (T.mark M.With) s g = g
guard_outer _ s g = refl

guarded : (u : Look) (t : Token) (s : List Token) → asks u t ≡ false → Guard u s → begins_with_function (t ∷ s) ≡ false
guarded outer t s e g = guard_outer t s g
guarded usual t s e g = not_with t s e
guarded behind t s e g = not_with t s e

asked_with : (u : Look) (t : Token) → asks u t ≡ true → (d : ℕ) (k : List Want) (vs : List Val) (late : ℕ) (s : List Token) (f : List Val) →
    Reads late (fix_tail d ∷ k) vs (T.mark M.With ∷ s) f → Reads late (fix_tail d ∷ k) vs (t ∷ s) f
asked_with usual (T.mark M.With) e d k vs late s f r = r
asked_with behind (T.mark M.With) e d k vs late s f r = r
asked_with usual _ e d k vs late s f r = absurd (cc)
asked_with behind _ e d k vs late s f r = absurd (cc)
asked_with outer t e d k vs late s f r = absurd (cc)

step_fix : (u : Look) (d : ℕ) (k : List Want) (t : Token) (vs : List Val) (b : Bool) → asks u t ≡ b → Step u k t vs → Step u (fix_tail d ∷ k) t vs
step_fix u d k t vs true e h = asking d k vs (record {
  goes = λ go bad. rw e refl;
  asks = e;
  right = λ late s f r. asked_with u t e d k vs late s f r;
})
step_fix u d k t vs false e (stuck h) = stuck (λ go bad. rw e (h go bad))
step_fix u d k t vs false e (deep h) = deep (record {
  goes = λ go bad. rw e (h.goes go bad);
  not_behind = h.not_behind;
  not_with = h.not_with;
  rest = h.rest;
  made = h.made;
  right = λ late lt. no_more (not_with t h.rest (no_with t h.not_with)) (h.right late lt);
})
step_fix u d k t vs false e (led k' vs' h) = led k' vs' (record {
  goes = λ go bad. rw e (h.goes go bad);
  right = λ late s f g r. no_more (guarded u t s e g) (h.right late s f g r);
})
step_fix u d k t vs false e (asking d' k' vs' h) = absurd (let no = h.asks in cc)

not_both : (u : Look) (d : ℕ) (n : Kind) → refuses u n ≡ false → is_deep d n ≡ true → u ≡ behind → ⊥
not_both usual d n e f h = absurd (cc)
not_both outer d n e f h = absurd (cc)
not_both behind d k_term e f h = absurd (cc)
not_both behind d _ e f h = absurd (cc)

deep_not_with : (d : ℕ) (n : Kind) (t : Token) (r : Row) → is_deep d n ≡ true → pick (rules d n) t ≡ Some r → is_with t ≡ true → ⊥
deep_not_with d k_term (T.mark M.With) r e f h = absurd (cc)
deep_not_with d k_term _ r e f h = absurd (cc)
deep_not_with d _ t r e f h = absurd (cc)

step_absent : (u : Look) (d : ℕ) (n : Kind) (k : List Want) (t : Token) (vs : List Val) → refuses u n ≡ false → pick (rules d n) t ≡ None → (b : Bool) → may_be_none n ≡ b → Step u k t vs → Step u (nt d n ∷ k) t vs
step_absent u d n k t vs e p true b h = step_below u (nt d n ∷ k) k t vs vs (λ go bad. rw (e, p, b) refl) (λ late s f r. by_none b r) h
step_absent u d n k t vs e p false b h = stuck (λ go bad. rw (e, p, b) refl)

deep_completes : (u : Look) (d : ℕ) (n : Kind) (c : Test) (q k : List Want) (t : Token) (vs : List Val) → refuses u n ≡ false → pick (rules d n) t ≡ Some (row c q) → is_deep d n ≡ true → Step u (nt d n ∷ k) t vs
deep_completes u d n c q k t vs e p b =
    let (x, f, r) = completes (q ++ k) (puts c t vs) in
    deep (record {
      goes = λ go bad. rw (e, p, b) refl;
      not_behind = not_both u d n e b;
      not_with = deep_not_with d n t (row c q) b p;
      rest = x;
      made = f;
      right = λ late lt. by_row p (λ _. lt) (r late (later lt));
    })

not_deep : {a : ℕ} {n : ℕ} {b : Bool} → b ≡ false → b ≡ true → a ≤ n
not_deep e h = absurd (cc)

step_row : (u : Look) (d : ℕ) (n : Kind) (c : Test) (q k : List Want) (t : Token) (vs : List Val) → refuses u n ≡ false → pick (rules d n) t ≡ Some (row c q) → (b : Bool) → is_deep d n ≡ b → Step u (nt d n ∷ k) t vs
step_row u d n c q k t vs e p true b = deep_completes u d n c q k t vs e p b
step_row u d n c q k t vs e p false b = led (q ++ k) (puts c t vs) (record {
  goes = λ go bad. rw (e, p, b) refl;
  right = λ late s f g r. by_row p (λ h. not_deep b h) r;
})

step_pick : (u : Look) (d : ℕ) (n : Kind) (k : List Want) (t : Token) (vs : List Val) → refuses u n ≡ false → (o : Option Row) → pick (rules d n) t ≡ o → Step u k t vs → Step u (nt d n ∷ k) t vs
step_pick u d n k t vs e None p h = step_absent u d n k t vs e p (may_be_none n) refl h
step_pick u d n k t vs e (Some (row c q)) p h = step_row u d n c q k t vs e p (is_deep d n) refl

step_kind : (u : Look) (d : ℕ) (n : Kind) (k : List Want) (t : Token) (vs : List Val) → (b : Bool) → refuses u n ≡ b → Step u k t vs → Step u (nt d n ∷ k) t vs
step_kind u d n k t vs true e h = stuck (λ go bad. rw e refl)
step_kind u d n k t vs false e h = step_pick u d n k t vs e (pick (rules d n) t) refl h

pub step_of : (u : Look) (k : List Want) (t : Token) (vs : List Val) → Step u k t vs
step_of u [] t vs = stuck (λ go bad. refl)
step_of u (tok c ∷ k) t vs = step_tok u c t (passes c t) refl k vs
step_of u (act a ∷ k) t vs = step_below u (act a ∷ k) k t vs (makes a vs) (λ go bad. refl) (λ late s f r. action r) (step_of u k t (makes a vs))
step_of u (fix_tail d ∷ k) t vs = step_fix u d k t vs (asks u t) refl (step_of u k t vs)
step_of u (nt d n ∷ k) t vs = step_kind u d n k t vs (refuses u n) refl (step_of u k t vs)
