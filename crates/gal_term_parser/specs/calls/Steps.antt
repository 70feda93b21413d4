-- What one function of the parser answers, beside the machine.
use Rattle.std.specs.Prelude.{ℕ, List, [], ◌∷◌, ◌++◌, ◌≡◌, ◌≤◌, ◌<◌, length, Result, Ok, Err, Option, Some, None, Bool, true, false}
use Rattle.gal_grammar.specs.Tokens.{Token}
use Rattle.gal_grammar.specs.Tests.{Test, ident, passes}
use Rattle.gal_grammar.specs.Values.{Val, maybe_within}
use Rattle.gal_grammar.specs.Actions.{set_for}
use Rattle.gal_grammar.specs.Kinds.{Want, nt, tok, act, fix_tail, k_function, k_functions, k_in, k_with, k_with_any, k_more_branches, k_branch}
use Rattle.gal_grammar.specs.Rules.{a_term}
use Rattle.gal_grammar.specs.calls.Machine.{syntax, nesting, Outcome, Fail, run}
use Rattle.gal_grammar.specs.calls.Reading.{owner}
use Rattle.gal_raw.specs.Denotes.{within}
use Rattle.gal_raw.specs.declared.names.Within.{Within}
use Rattle.gal_term_parser.specs.declared.fault.Fault.{Fault}
use Rattle.gal_term_parser.specs.declared.fault.Fault.TheVariants.{NoMemory, Syntax, Nesting}

-- the next token passes the test
abbrev pub begins : Test → List Token → Bool
begins c [] = false
begins c (t ∷ s) = passes c t

-- Where a part fails the whole fails so, whatever is wanted afterwards.
abbrev pub Fails : (List Val → List Val) → Fault → List Want → List Token → Type 0
Fails over NoMemory ws old = Unit {0}
Fails over (Syntax left) ws old = ((k : List Want) (vs : List Val) → run old (ws ++ k) (over vs) ≡ Fail syntax left) × (left ≤ length old)
Fails over (Nesting left) ws old = ((k : List Want) (vs : List Val) → run old (ws ++ k) (over vs) ≡ Fail nesting left) × (left ≤ length old)

-- Reading from old to new takes the place of what is wanted, over some values, and puts others.
abbrev pub Takes : {X : Type 0} → (List Val → List Val) → (X → List Val → List Val) → Result X Fault → List Want → List Token → List Token → Type 0
Takes over put (Ok x) ws old new = (k : List Want) (vs : List Val) → run old (ws ++ k) (over vs) ≡ run new k (put x vs)
Takes over put (Err e) ws old new = Fails over e ws old

-- The same under wants where w says whether a `with` that no function follows can come.
abbrev pub FailsAt : Bool → (List Val → List Val) → Fault → List Want → List Token → Type 0
FailsAt w over NoMemory ws old = Unit {0}
FailsAt w over (Syntax left) ws old = ((k : List Want) (vs : List Val) → owner k ≡ Some w → run old (ws ++ k) (over vs) ≡ Fail syntax left) × (left ≤ length old)
FailsAt w over (Nesting left) ws old = ((k : List Want) (vs : List Val) → owner k ≡ Some w → run old (ws ++ k) (over vs) ≡ Fail nesting left) × (left ≤ length old)

abbrev pub TakesAt : {X : Type 0} → Bool → (List Val → List Val) → (X → List Val → List Val) → Result X Fault → List Want → List Token → List Token → Type 0
TakesAt w over put (Ok x) ws old new = (k : List Want) (vs : List Val) → owner k ≡ Some w → run old (ws ++ k) (over vs) ≡ run new k (put x vs)
TakesAt w over put (Err e) ws old new = FailsAt w over e ws old

-- a token that may come
abbrev pub TakesIf : {X : Type 0} → Test → (X → List Val → List Val) → Option X → List Token → List Token → Type 0
TakesIf c put (Some x) old new = (begins c old ≡ true) × ((k : List Want) (vs : List Val) → run old (tok c ∷ k) vs ≡ run new k (put x vs)) × (length new < length old)
TakesIf c put None old new = (begins c old ≡ false) × (new ≡ old)

-- a part that may come, before the wants ws' ; or it is not there
abbrev pub MayTake : {X : Type 0} → (X → List Val → List Val) → Option X → List Want → List Want → List Token → List Token → Type 0
MayTake put (Some x) ws ws' old new = ((k : List Want) (vs : List Val) → run old (ws ++ k) vs ≡ run new (ws' ++ k) (put x vs)) × (length new < length old)
MayTake put None ws ws' old new = ((k : List Want) (vs : List Val) → run old (ws ++ k) vs ≡ run new k vs) × (new ≡ old)

-- the same where what is wanted stays wanted
abbrev pub Keeps : {X : Type 0} → (List Val → List Val) → (X → List Val → List Val) → Result X Fault → List Want → List Token → List Token → Type 0
Keeps over put (Ok x) ws old new = (k : List Want) (vs : List Val) → run old (ws ++ k) (over vs) ≡ run new (ws ++ k) (put x vs)
Keeps over put (Err e) ws old new = Fails over e ws old

-- whether a fix goes on behind a function; then the word `with` is read
abbrev pub GoesOn : Bool → ℕ → Result Bool Fault → List Token → List Token → Type 0
GoesOn w d (Ok true) old new = ((k : List Want) (vs : List Val) → run old (fix_tail d ∷ k) vs ≡ run new (nt d k_function ∷ nt d k_functions ∷ k) vs) × (length new < length old)
GoesOn w d (Ok false) old new = ((k : List Want) (vs : List Val) → owner k ≡ Some w → run old (fix_tail d ∷ k) vs ≡ run new k vs) × (length new ≤ length old)
GoesOn w d (Err e) old new = FailsAt w (λ vs. vs) e (fix_tail d ∷ []) old

abbrev pub GoesFurther : ℕ → Result Bool Fault → List Token → List Token → Type 0
GoesFurther d (Ok true) old new = ((k : List Want) (vs : List Val) → run old (nt d k_functions ∷ k) vs ≡ run new (nt d k_function ∷ nt d k_functions ∷ k) vs) × (length new < length old)
GoesFurther d (Ok false) old new = ((k : List Want) (vs : List Val) → run old (nt d k_functions ∷ k) vs ≡ run new (tok ident ∷ act set_for ∷ k) vs) × (length new < length old)
GoesFurther d (Err e) old new = Fails (λ vs. vs) e (nt d k_functions ∷ []) old

-- what stands between a match's value and its motive, the word `return` with it
abbrev pub TakesInside : ℕ → Result (Option Within) Fault → List Token → List Token → Type 0
TakesInside d (Ok (Some i)) old new = (k : List Want) (vs : List Val) → run old (nt d k_in ∷ k) (maybe_within None ∷ vs) ≡ run new (a_term d ∷ nt d k_with_any ∷ k) (maybe_within (Some (within i)) ∷ vs)
TakesInside d (Ok None) old new = (k : List Want) (vs : List Val) → run old (nt d k_in ∷ k) (maybe_within None ∷ vs) ≡ run new (a_term d ∷ nt d k_with ∷ k) (maybe_within None ∷ vs)
TakesInside d (Err e) old new = Fails (λ vs. maybe_within None ∷ vs) e (nt d k_in ∷ []) old

-- whether a further branch stands here; then the bar, or the word `end`, is read
abbrev pub NextBranch : ℕ → Result Bool Fault → List Token → List Token → Type 0
NextBranch d (Ok true) old new = ((k : List Want) (vs : List Val) → run old (nt d k_more_branches ∷ k) vs ≡ run new (nt d k_branch ∷ nt d k_more_branches ∷ k) vs) × (length new < length old)
NextBranch d (Ok false) old new = ((k : List Want) (vs : List Val) → run old (nt d k_more_branches ∷ k) vs ≡ run new k vs) × (length new < length old)
NextBranch d (Err e) old new = Fails (λ vs. vs) e (nt d k_more_branches ∷ []) old
