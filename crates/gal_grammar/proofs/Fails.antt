-- One token in any mode; what a whole reading gives, and where it fails.
use Rattle.std.proofs.Common.{ℕ, zero, suc, Bool, true, false, cond, List, [], ◌∷◌, ◌++◌, ◌≡◌, ◌≤◌, ◌<◌, ◌+◌, length, Option, Some, None, refl, ap, sym, subst, ◌∙◌, append_assoc, arith}
use Rattle.gal_grammar.specs.Tokens.{Token}
use Rattle.gal_grammar.specs.Tokens as T
use Rattle.gal_lexer.specs.declared.token.Mark.TheVariants as M
use Rattle.gal_grammar.specs.Terms.{named, no_groups}
use Rattle.gal_grammar.specs.Tests.{passes}
use Rattle.gal_grammar.specs.Values.{puts, Val, a_name, groups}
use Rattle.gal_grammar.specs.Actions.{makes}
use Rattle.gal_grammar.specs.Kinds.{Row, row, Kind, k_functions, Want, tok, act, nt, fix_tail}
use Rattle.gal_grammar.specs.Rules.{rules, may_be_none, function_behind, function_rest}
use Rattle.gal_grammar.specs.Grammar.{pick, is_deep, begins_function, begins_with_function, Reads, at_end, token, action, by_row, by_none, no_more, one_more}
use Rattle.gal_grammar.specs.calls.Machine.{Why, syntax, nesting, Outcome, Read, Fail, Mode, plainly, asked, asked_name, Go, Look, usual, outer, behind, is_with, asks, chosen, step, answer, advance, finish, ends, runs, run}
use Rattle.gal_grammar.proofs.Sound.{ReadsIn, CompletesIn, completes_in, function_reads, Led, Asking, Deep, Step, stuck, deep, led, asking, step_of}

pub record Goes (m : Mode) (k : List Want) (t : Token) (vs : List Val) (m' : Mode) (k' : List Want) (vs' : List Val) : Type 0 where
  pub goes : (go : Go) (bad : Why → Outcome) → advance m k t go bad vs ≡ go m' k' vs'
  pub right : (late : ℕ) (s : List Token) (f : List Val) → ReadsIn late m' k' vs' s f → ReadsIn late m k vs (t ∷ s) f

pub record Deepens (m : Mode) (k : List Want) (t : Token) (vs : List Val) : Type 0 where
  pub goes : (go : Go) (bad : Why → Outcome) → advance m k t go bad vs ≡ bad nesting
  pub rest : List Token
  pub made : List Val
  pub right : (late : ℕ) → suc (length rest) ≤ late → ReadsIn late m k vs (t ∷ rest) made

-- one token: it cannot come, or begins a term past the deepest nesting, or leads on
pub data Move (m : Mode) (k : List Want) (t : Token) (vs : List Val) : Type 0 where
  halts : ((go : Go) (bad : Why → Outcome) → advance m k t go bad vs ≡ bad syntax) → Move m k t vs
  deepens : Deepens m k t vs → Move m k t vs
  goes_to : (m' : Mode) (k' : List Want) (vs' : List Val) → Goes m k t vs m' k' vs' → Move m k t vs

plain_move : (k : List Want) (t : Token) (vs : List Val) → Step usual k t vs → Move plainly k t vs
plain_move k t vs (stuck h) = halts h
plain_move k t vs (deep h) = deepens (record { goes = h.goes; rest = h.rest; made = h.made; right = h.right })
plain_move k t vs (led k' vs' h) = goes_to plainly k' vs' (record { goes = h.goes; right = λ late s f r. h.right late s f tt r })
plain_move k t vs (asking d k' vs' h) = goes_to (asked d) k' vs' (record { goes = h.goes; right = h.right })

no_name : Token → Bool
no_name (T.ident p x) = false
no_name _ = true

-- behind the `with`, a token that is no identifier
abbrev pub Out : ℕ → List Want → Token → List Val → Type 0
Out d k t vs = (go : Go) (bad : Why → Outcome) → advance (asked d) k t go bad vs ≡ answer t k go bad vs

out_behind : (d : ℕ) (k : List Want) (t : Token) (vs : List Val) → Out d k t vs → ((s : List Token) → begins_function (t ∷ s) ≡ false) →
    (k' : List Want) (vs' : List Val) → Led outer k (T.mark M.With) vs k' vs' → Step behind k' t vs' → Move (asked d) k t vs
out_behind d k t vs out other k' vs' o (stuck h) = halts (λ go bad. out go bad ∙ o.goes (λ m l ws. step behind l t go bad ws) bad ∙ h go bad)
out_behind d k t vs out other k' vs' o (deep h) = absurd (h.not_behind refl)
out_behind d k t vs out other k' vs' o (led k'' vs'' h) = goes_to plainly k'' vs'' (record {
  goes = λ go bad. out go bad ∙ o.goes (λ m l ws. step behind l t go bad ws) bad ∙ h.goes go bad;
  right = λ late s f r. no_more (other s) (o.right late (t ∷ s) f (other s) (h.right late s f tt r));
})
out_behind d k t vs out other k' vs' o (asking d' k'' vs'' h) = goes_to (asked d') k'' vs'' (record {
  goes = λ go bad. out go bad ∙ o.goes (λ m l ws. step behind l t go bad ws) bad ∙ h.goes go bad;
  right = λ late s f r. no_more (other s) (o.right late (t ∷ s) f (other s) (h.right late s f r));
})

out_move : (d : ℕ) (k : List Want) (t : Token) (vs : List Val) → Out d k t vs → ((s : List Token) → begins_function (t ∷ s) ≡ false) → Step outer k (T.mark M.With) vs → Move (asked d) k t vs
out_move d k t vs out other (stuck h) = halts (λ go bad. out go bad ∙ h (λ m l ws. step behind l t go bad ws) bad)
out_move d k t vs out other (deep h) = absurd (h.not_with refl)
out_move d k t vs out other (led k' vs' o) = out_behind d k t vs out other k' vs' o (step_of behind k' t vs')
out_move d k t vs out other (asking d' k' vs' h) = absurd (let no = h.asks in cc)

-- behind the `with` and an identifier, a token that is no opening bracket
abbrev pub OutName : ℕ → ℕ → List ℕ → List Want → Token → List Val → Type 0
OutName d p x k t vs = (go : Go) (bad : Why → Outcome) → advance (asked_name d p x) k t go bad vs ≡ answer (T.ident p x) k (λ m k' vs'. step usual k' t go bad vs') bad vs

abbrev pub after_name : Token → Go → (Why → Outcome) → Go
after_name t go bad = λ m l ws. step usual l t go bad ws

abbrev pub after_with : ℕ → List ℕ → Token → Go → (Why → Outcome) → Go
after_with p x t go bad = λ m l ws. step behind l (T.ident p x) (after_name t go bad) bad ws

abbrev pub Other : ℕ → List ℕ → Token → Type 0
Other p x t = (s : List Token) → begins_function (T.ident p x ∷ t ∷ s) ≡ false

name_last : (d p : ℕ) (x : List ℕ) (k : List Want) (t : Token) (vs : List Val) → OutName d p x k t vs → Other p x t →
    (k' : List Want) (vs' : List Val) → Led outer k (T.mark M.With) vs k' vs' →
    (l : List Want) (ws : List Val) → Led behind k' (T.ident p x) vs' l ws → Step usual l t ws → Move (asked_name d p x) k t vs
name_last d p x k t vs out other k' vs' o l ws n (stuck h) = halts (λ go bad. out go bad ∙ o.goes (after_with p x t go bad) bad ∙ n.goes (after_name t go bad) bad ∙ h go bad)
name_last d p x k t vs out other k' vs' o l ws n (deep h) = deepens (record {
  goes = λ go bad. out go bad ∙ o.goes (after_with p x t go bad) bad ∙ n.goes (after_name t go bad) bad ∙ h.goes go bad;
  rest = h.rest;
  made = h.made;
  right = λ late lt. no_more (other h.rest) (o.right late (T.ident p x ∷ t ∷ h.rest) h.made (other h.rest) (n.right late (t ∷ h.rest) h.made tt (h.right late lt)));
})
name_last d p x k t vs out other k' vs' o l ws n (led l' ws' h) = goes_to plainly l' ws' (record {
  goes = λ go bad. out go bad ∙ o.goes (after_with p x t go bad) bad ∙ n.goes (after_name t go bad) bad ∙ h.goes go bad;
  right = λ late s f r. no_more (other s) (o.right late (T.ident p x ∷ t ∷ s) f (other s) (n.right late (t ∷ s) f tt (h.right late s f tt r)));
})
name_last d p x k t vs out other k' vs' o l ws n (asking d' l' ws' h) = goes_to (asked d') l' ws' (record {
  goes = λ go bad. out go bad ∙ o.goes (after_with p x t go bad) bad ∙ n.goes (after_name t go bad) bad ∙ h.goes go bad;
  right = λ late s f r. no_more (other s) (o.right late (T.ident p x ∷ t ∷ s) f (other s) (n.right late (t ∷ s) f tt (h.right late s f r)));
})

name_behind : (d p : ℕ) (x : List ℕ) (k : List Want) (t : Token) (vs : List Val) → OutName d p x k t vs → Other p x t →
    (k' : List Want) (vs' : List Val) → Led outer k (T.mark M.With) vs k' vs' → Step behind k' (T.ident p x) vs' → Move (asked_name d p x) k t vs
name_behind d p x k t vs out other k' vs' o (stuck h) = halts (λ go bad. out go bad ∙ o.goes (after_with p x t go bad) bad ∙ h (after_name t go bad) bad)
name_behind d p x k t vs out other k' vs' o (deep h) = absurd (h.not_behind refl)
name_behind d p x k t vs out other k' vs' o (led l ws n) = name_last d p x k t vs out other k' vs' o l ws n (step_of usual l t ws)
name_behind d p x k t vs out other k' vs' o (asking d' l ws h) = absurd (let no = h.asks in cc)

name_move : (d p : ℕ) (x : List ℕ) (k : List Want) (t : Token) (vs : List Val) → OutName d p x k t vs → Other p x t → Step outer k (T.mark M.With) vs → Move (asked_name d p x) k t vs
name_move d p x k t vs out other (stuck h) = halts (λ go bad. out go bad ∙ h (after_with p x t go bad) bad)
name_move d p x k t vs out other (deep h) = absurd (h.not_with refl)
name_move d p x k t vs out other (led k' vs' o) = name_behind d p x k t vs out other k' vs' o (step_of behind k' (T.ident p x) vs')
name_move d p x k t vs out other (asking d' k' vs' h) = absurd (let no = h.asks in cc)

asked_move : (d : ℕ) (k : List Want) (t : Token) (vs : List Val) → Move (asked d) k t vs
asked_move d k (T.ident p x) vs = goes_to (asked_name d p x) k vs (record { goes = λ go bad. refl; right = λ late s f r. r })
asked_move d k (T.path p x) vs = out_move d k (T.path p x) vs (λ go bad. refl) (λ s. refl) (step_of outer k (T.mark M.With) vs)
asked_move d k (T.mark m) vs = out_move d k (T.mark m) vs (λ go bad. refl) (λ s. refl) (step_of outer k (T.mark M.With) vs)

name_moves : (d p : ℕ) (x : List ℕ) (k : List Want) (t : Token) (vs : List Val) → Move (asked_name d p x) k t vs
name_moves d p x k (T.mark M.Open) vs = goes_to plainly _ _ (record { goes = λ go bad. refl; right = λ late s f r. function_reads late d p x k vs f s r })
name_moves d p x k t vs = name_move d p x k t vs (λ go bad. refl) (λ s. refl) (step_of outer k (T.mark M.With) vs)

pub moves : (m : Mode) (k : List Want) (t : Token) (vs : List Val) → Move m k t vs
moves plainly k t vs = plain_move k t vs (step_of usual k t vs)
moves (asked d) k t vs = asked_move d k t vs
moves (asked_name d p x) k t vs = name_moves d p x k t vs

finish_none : (b : Bool) (k : List Want) (vs f : List Val) → cond b (finish k vs) (Fail syntax 0) ≡ Read f → (finish k vs ≡ Read f) × (b ≡ true)
finish_none true k vs f h = (h, refl)
finish_none false k vs f h = absurd (cc)

finish_right : (late : ℕ) (k : List Want) (vs f : List Val) → finish k vs ≡ Read f → Reads late k vs [] f
finish_right late [] vs f e = let same : vs ≡ f = (cc) in subst (λ w. Reads late [] w [] f) (sym same) at_end
finish_right late (tok c ∷ k) vs f e = absurd (cc)
finish_right late (act a ∷ k) vs f e = action (finish_right late k (makes a vs) f e)
finish_right late (fix_tail d ∷ k) vs f e = no_more refl (finish_right late k vs f e)
finish_right late (nt d n ∷ k) vs f e = let h = finish_none (may_be_none n) k vs f e in by_none h.1 (finish_right late k vs f h.0)

none_zero : (b : Bool) (o : Outcome) (w : Why) (n : ℕ) → cond b o (Fail syntax 0) ≡ Fail w n → (o ≡ Fail w n → (n ≡ 0) × (w ≡ syntax)) → (n ≡ 0) × (w ≡ syntax)
none_zero true o w n e h = h e
none_zero false o w n e h = (cc, cc)

finish_zero : (k : List Want) (vs : List Val) (w : Why) (n : ℕ) → finish k vs ≡ Fail w n → (n ≡ 0) × (w ≡ syntax)
finish_zero [] vs w n e = absurd (cc)
finish_zero (tok c ∷ k) vs w n e = (cc, cc)
finish_zero (act a ∷ k) vs w n e = finish_zero k (makes a vs) w n e
finish_zero (fix_tail d ∷ k) vs w n e = finish_zero k vs w n e
finish_zero (nt d x ∷ k) vs w n e = none_zero (may_be_none x) (finish k vs) w n e (λ h. finish_zero k vs w n h)

ends_right : (late : ℕ) (m : Mode) (k : List Want) (vs f : List Val) → ends m k vs ≡ Read f → ReadsIn late m k vs [] f
ends_right late plainly k vs f e = finish_right late k vs f e
ends_right late (asked d) k vs f e = absurd (cc)
ends_right late (asked_name d p x) k vs f e = absurd (cc)

ends_zero : (m : Mode) (k : List Want) (vs : List Val) (w : Why) (n : ℕ) → ends m k vs ≡ Fail w n → (n ≡ 0) × (w ≡ syntax)
ends_zero plainly k vs w n e = finish_zero k vs w n e
ends_zero (asked d) k vs w n e = (cc, cc)
ends_zero (asked_name d p x) k vs w n e = (cc, cc)

abbrev pub go_on : List Token → Go
go_on s m k vs = runs s m k vs

abbrev pub bad_at : List Token → Why → Outcome
bad_at s w = Fail w (suc (length s))

pub clash : (o : Outcome) (w : Why) (n : ℕ) (f : List Val) → o ≡ Fail w n → o ≡ Read f → ⊥
clash o w n f e h = absurd (cc)

pub same_why : (o : Outcome) (w v : Why) (n l : ℕ) → o ≡ Fail w n → o ≡ Fail v l → w ≡ v
same_why o w v n l e h = cc

pub same_left : (o : Outcome) (w v : Why) (n l : ℕ) → o ≡ Fail w n → o ≡ Fail v l → n ≡ l
same_left o w v n l e h = cc

not_nested : (w : Why) → syntax ≡ w → w ≡ nesting → ⊥
not_nested w e h = absurd (cc)

head_same : (t b : Token) (s l : List Token) → t ∷ s ≡ b ∷ l → t ≡ b
head_same t b s l e = cc

-- What is read is what the stack wants.
pub runs_right : (late : ℕ) (s : List Token) (m : Mode) (k : List Want) (vs f : List Val) → runs s m k vs ≡ Read f → ReadsIn late m k vs s f
runs_right late [] m k vs f e = ends_right late m k vs f e
runs_right late (t ∷ s) m k vs f e = elim (moves m k t vs) [
  | halts h ↦ absurd (clash (runs (t ∷ s) m k vs) syntax (suc (length s)) f (h (go_on s) (bad_at s)) e)
  | deepens h ↦ absurd (clash (runs (t ∷ s) m k vs) nesting (suc (length s)) f (h.goes (go_on s) (bad_at s)) e)
  | goes_to m' k' vs' h ↦ h.right late s f (runs_right late s m' k' vs' f (sym (h.goes (go_on s) (bad_at s)) ∙ e))
]

pub record Failing (s : List Token) (m : Mode) (k : List Want) (vs : List Val) (w : Why) (n : ℕ) : Type 0 where
  pub before : List Token
  pub after : List Token
  pub cut : s ≡ before ++ after
  pub count : n ≡ length after
  pub viable : (x : List Token) × (f : List Val) × ((late : ℕ) → length x ≤ late → ReadsIn late m k vs (before ++ x) f)
  pub dead : (b : Token) (l x : List Token) → after ≡ b ∷ l → runs (before ++ (b ∷ x)) m k vs ≡ Fail w (suc (length x))
  pub nested : w ≡ nesting → (b : Token) × (l : List Token) × (after ≡ b ∷ l) × (x : List Token) × (f : List Val) × ((late : ℕ) → suc (length x) ≤ late → ReadsIn late m k vs (before ++ (b ∷ x)) f)

-- Where it fails, what came before is the front of something, and with the next token it fails whatever comes.
pub fails : (s : List Token) (m : Mode) (k : List Want) (vs : List Val) (w : Why) (n : ℕ) → runs s m k vs ≡ Fail w n → Failing s m k vs w n
fails [] m k vs w n e = let z = ends_zero m k vs w n e in record { before = []; after = []; cut = refl; count = z.0; viable = completes_in m k vs; dead = λ b l x h. absurd (cc); nested = λ h. absurd (let no = z.1 in cc) }
fails (t ∷ s) m k vs w n e = elim (moves m k t vs) [
  | halts h ↦ let why : syntax ≡ w = same_why (runs (t ∷ s) m k vs) syntax w (suc (length s)) n (h (go_on s) (bad_at s)) e in record {
    before = [];
    after = t ∷ s;
    cut = refl;
    count = same_left (runs (t ∷ s) m k vs) w syntax n (suc (length s)) e (h (go_on s) (bad_at s));
    viable = completes_in m k vs;
    dead = λ b l x same. let here = head_same t b s l same in
        subst (λ c. runs (c ∷ x) m k vs ≡ Fail w (suc (length x))) here (h (go_on x) (bad_at x) ∙ ap (λ v. Fail v (suc (length x))) why);
    nested = λ q. absurd (not_nested w why q);
  }
  | deepens h ↦ let why : nesting ≡ w = same_why (runs (t ∷ s) m k vs) nesting w (suc (length s)) n (h.goes (go_on s) (bad_at s)) e in record {
    before = [];
    after = t ∷ s;
    cut = refl;
    count = same_left (runs (t ∷ s) m k vs) w nesting n (suc (length s)) e (h.goes (go_on s) (bad_at s));
    viable = completes_in m k vs;
    dead = λ b l x same. let here = head_same t b s l same in
        subst (λ c. runs (c ∷ x) m k vs ≡ Fail w (suc (length x))) here (h.goes (go_on x) (bad_at x) ∙ ap (λ v. Fail v (suc (length x))) why);
    nested = λ q. (t, s, refl, h.rest, h.made, h.right);
  }
  | goes_to m' k' vs' h ↦
      let rest = fails s m' k' vs' w n (sym (h.goes (go_on s) (bad_at s)) ∙ e) in record {
        before = t ∷ rest.before;
        after = rest.after;
        cut = ap (λ l. t ∷ l) rest.cut;
        count = rest.count;
        viable = let (x, f, d) = rest.viable in (x, f, λ late lt. h.right late (rest.before ++ x) f (d late lt));
        dead = λ b l x same. h.goes (go_on (rest.before ++ (b ∷ x))) (bad_at (rest.before ++ (b ∷ x))) ∙ rest.dead b l x same;
        nested = λ q. let (b, l, same, x, f, d) = rest.nested q in (b, l, same, x, f, λ late lt. h.right late (rest.before ++ (b ∷ x)) f (d late lt));
      }
]
