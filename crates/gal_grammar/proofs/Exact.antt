-- What a whole reading says of a file, and of the place where it fails.
use Rattle.std.proofs.Common.{ℕ, zero, suc, Bool, true, false, cond, List, [], ◌∷◌, ◌++◌, ◌≡◌, ◌≤◌, ◌<◌, ◌+◌, ◌-◌, length, take, refl, ap, sym, subst, ◌∙◌, append_assoc, append-nil, arith, length-append}
use Rattle.std.proofs.Math.Seq.{take-append_seam, take-append-add}
use Rattle.gal_grammar.specs.Tokens.{Token}
use Rattle.gal_grammar.specs.Commands.{Command}
use Rattle.gal_grammar.specs.Values.{Val, commands}
use Rattle.gal_grammar.specs.Kinds.{Want}
use Rattle.gal_grammar.specs.Grammar.{Reads, file, nothing_said, File, Begins, BeginsNothing, IsSyntax, IsNesting}
use Rattle.gal_grammar.specs.calls.Machine.{Why, syntax, nesting, Outcome, Read, Fail, plainly, run}
use Rattle.gal_grammar.proofs.Fails.{fails, runs_right, clash, same_why, same_left}
use Rattle.gal_grammar.proofs.Complete.{Good, fine, nothing, complete, good_read, good_syntax, good_nesting}

pub found : (s : List Token) (cs : List Command) → run s file nothing_said ≡ Read (commands cs ∷ []) → File s cs
found s cs e = runs_right 0 s plainly file nothing_said (commands cs ∷ []) e

one_command_list : (cs ds : List Command) (vs ws : List Val) → commands cs ∷ vs ≡ commands ds ∷ ws → cs ≡ ds
one_command_list cs ds vs ws e = cc

pub only : (s : List Token) (cs ds : List Command) → run s file nothing_said ≡ Read (commands cs ∷ []) → File s ds → cs ≡ ds
only s cs ds e h = one_command_list cs ds [] [] (good_read (run s file nothing_said) (commands ds ∷ []) (commands cs ∷ []) (complete h refl) e)

-- Of all wants whose lists end where they must.
module _ (wants : List Want) (said : List Val) (fits : fine nothing wants ≡ true) where
  no_syntax : (s : List Token) (n late : ℕ) (f : List Val) → run s wants said ≡ Fail syntax n → Reads late wants said s f → ⊥
  no_syntax s n late f e h = good_syntax late (run s wants said) f n (complete h fits) e

  deep_late : (s : List Token) (n late : ℕ) (f : List Val) → run s wants said ≡ Fail nesting n → Reads late wants said s f → n ≤ late
  deep_late s n late f e h = good_nesting late (run s wants said) f n (complete h fits) e

  -- the next token's place
  cut_place : (p l : List Token) (b : Token) → take (length p + 1) (p ++ (b ∷ l)) ≡ p ++ (b ∷ [])
  cut_place p l b = take-append-add p (b ∷ l) 1

  Dead : Why → List Token → List Token → Type 0
  Dead w p q = (b : Token) (l x : List Token) → q ≡ b ∷ l → run (p ++ (b ∷ x)) wants said ≡ Fail w (suc (length x))

  no_next : (p q : List Token) → Dead syntax p q → length p < length (p ++ q) → BeginsNothing wants said (take (length p + 1) (p ++ q))
  unfolding Dead
  no_next p [] dead lt = absurd (omega (arith, length-append p []))
  no_next p (b ∷ l) dead lt = λ late x f h.
      let same : take (length p + 1) (p ++ (b ∷ l)) ++ x ≡ p ++ (b ∷ x) = rw (cut_place p l b) (append_assoc p (b ∷ []) x) in
      no_syntax (p ++ (b ∷ x)) (suc (length x)) late f (dead b l x refl) (subst (λ y. Reads late wants said y f) same h)

  Front : List Token → Type 0
  Front p = (x : List Token) × (f : List Val) × ((late : ℕ) → length x ≤ late → Reads late wants said (p ++ x) f)

  begins_of : (p : List Token) → Front p → Begins wants said 0 p
  unfolding Front
  begins_of p h = let (x, f, r) = h in (x, f, r (0 + length x) (omega arith))

  syntax_at : (p q : List Token) → Front p → Dead syntax p q → ((late : ℕ) (f : List Val) → Reads late wants said (p ++ q) f → ⊥) → IsSyntax wants said (p ++ q) (length p)
  syntax_at p q front dead never = record {
    inside = omega (arith, length-append p q);
    before = rw (take-append_seam p q) (begins_of p front);
    with_it = no_next p q dead;
    no_reading = never;
  }

  pub syntax_fault_of : (s : List Token) (n : ℕ) → run s wants said ≡ Fail syntax n → IsSyntax wants said s (length s - n)
  unfolding Dead Front
  syntax_fault_of s n e =
      let f = fails s plainly wants said syntax n e in
      let place : length s - n ≡ length f.before = omega (arith, f.count, ap length f.cut, length-append f.before f.after) in
      let fault = syntax_at f.before f.after f.viable f.dead (λ late g h. no_syntax s n late g e (subst (λ l. Reads late wants said l g) (sym f.cut) h)) in
      rw place (subst (λ l. IsSyntax wants said l (length f.before)) (sym f.cut) fault)

  no_shallow : (p l : List Token) (b : Token) → Dead nesting p (b ∷ l) → Begins wants said 0 (take (length p + 1) (p ++ (b ∷ l))) → ⊥
  unfolding Dead
  no_shallow p l b dead h =
      let (x, f, r) = h in
      let same : take (length p + 1) (p ++ (b ∷ l)) ++ x ≡ p ++ (b ∷ x) = rw (cut_place p l b) (append_assoc p (b ∷ []) x) in
      let lt = deep_late (p ++ (b ∷ x)) (suc (length x)) (0 + length x) f (dead b l x refl) (subst (λ y. Reads (0 + length x) wants said y f) same r) in
      absurd (omega (arith, lt))

  deep_next : (p l : List Token) (b : Token) (x : List Token) (f : List Val) → ((late : ℕ) → suc (length x) ≤ late → Reads late wants said (p ++ (b ∷ x)) f) → Begins wants said 1 (take (length p + 1) (p ++ (b ∷ l)))
  deep_next p l b x f r =
      let same : take (length p + 1) (p ++ (b ∷ l)) ++ x ≡ p ++ (b ∷ x) = rw (cut_place p l b) (append_assoc p (b ∷ []) x) in
      (x, f, subst (λ y. Reads (1 + length x) wants said y f) (sym same) (r (1 + length x) (omega arith)))

  nesting_at : (p q l : List Token) (b : Token) → q ≡ b ∷ l → Front p → Dead nesting p q →
      (x : List Token) (f : List Val) → ((late : ℕ) → suc (length x) ≤ late → Reads late wants said (p ++ (b ∷ x)) f) →
      ((f : List Val) → Reads 0 wants said (p ++ q) f → ⊥) → IsNesting wants said (p ++ q) (length p)
  nesting_at p q l b same front dead x f r never = record {
    inside = let g = ap length same in omega (arith, length-append p q, g);
    before = rw (take-append_seam p q) (begins_of p front);
    deep = subst (λ y. Begins wants said 1 (take (length p + 1) (p ++ y))) (sym same) (deep_next p l b x f r);
    with_it = subst (λ y. Begins wants said 0 (take (length p + 1) (p ++ y)) → ⊥) (sym same) (no_shallow p l b (subst (λ y. Dead nesting p y) same dead));
    no_reading = never;
  }

  pub nesting_fault_of : (s : List Token) (n : ℕ) → run s wants said ≡ Fail nesting n → IsNesting wants said s (length s - n)
  unfolding Dead Front
  nesting_fault_of s n e =
      let f = fails s plainly wants said nesting n e in
      let (b, l, same, x, g, r) = f.nested refl in
      let count = ap length same in
      let place : length s - n ≡ length f.before = omega (arith, f.count, ap length f.cut, length-append f.before f.after) in
      let fault = nesting_at f.before f.after l b same f.viable f.dead x g r
      (λ v h. let lt = deep_late s n 0 v e (subst (λ y. Reads 0 wants said y v) (sym f.cut) h) in absurd (omega (arith, lt, f.count, count))) in
      rw place (subst (λ y. IsNesting wants said y (length f.before)) (sym f.cut) fault)

-- Of a file.
pub syntax_fault : (s : List Token) (n : ℕ) → run s file nothing_said ≡ Fail syntax n → IsSyntax file nothing_said s (length s - n)
syntax_fault = syntax_fault_of file nothing_said refl

pub nesting_fault : (s : List Token) (n : ℕ) → run s file nothing_said ≡ Fail nesting n → IsNesting file nothing_said s (length s - n)
nesting_fault = nesting_fault_of file nothing_said refl

nesting_left : (s : List Token) (n : ℕ) → run s file nothing_said ≡ Fail nesting n → 0 < n
nesting_left s n e =
    let f = fails s plainly file nothing_said nesting n e in
    let (b, l, same, x, g, r) = f.nested refl in
    let count = ap length same in
    omega (arith, f.count, count)

reads_as : (s : List Token) (cs : List Command) (o : Outcome) → run s file nothing_said ≡ o → Good 0 o (commands cs ∷ []) → o ≡ Read (commands cs ∷ [])
reads_as s cs (Read g) e h = ap Read (good_read (Read g) (commands cs ∷ []) g h refl)
reads_as s cs (Fail syntax n) e h = absurd (good_syntax 0 (Fail syntax n) (commands cs ∷ []) n h refl)
reads_as s cs (Fail nesting n) e h = absurd (let l = good_nesting 0 (Fail nesting n) (commands cs ∷ []) n h refl in let g = nesting_left s n e in omega (arith, l, g))

-- the machine reads each file
pub reads_file : (s : List Token) (cs : List Command) → File s cs → run s file nothing_said ≡ Read (commands cs ∷ [])
reads_file s cs h = reads_as s cs (run s file nothing_said) refl (complete h refl)

-- a file has one reading
pub one_file : (s : List Token) (cs ds : List Command) → File s cs → File s ds → cs ≡ ds
one_file s cs ds h g = only s cs ds (reads_file s cs h) g
