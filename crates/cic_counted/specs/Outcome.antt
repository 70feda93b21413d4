-- What a counted call answers, and how counted calls follow one another (this project's own: the
-- checker counts its calls and its reduction steps against a budget).
use Rattle.std.specs.Prelude.{◌+◌, min, true, false, Option, Some, None, ℕ, zero, suc, Bool, if◌then◌else◌, nat_le, ◌&&◌, List, [], ◌∷◌}
use Rattle.cic_terms.specs.Tree.{TreeSort, Tree}
use Rattle.cic_terms.specs.Sizes.{depth_tree, max_rel}
use Rattle.cic_names.specs.declared.name.GlobalId.{GlobalId}
use Rattle.cic_names.specs.declared.constraint.Constraint.{Constraint}
use Rattle.cic_names.specs.Orders.{insert_constraint}

-- What is missing: a declaration, or variable `k` of the context.
pub data Missing : Type 0 where
  global : (id : GlobalId) → Missing
  local : (k : ℕ) → Missing

-- Why a term or a declaration is refused. A form is a term that stands in a context of length `depth`.
pub data Cause : Type 0 where
  unbound : (what : Missing) → Cause
  not_function : (depth : ℕ) → (form : Tree) → Cause
  not_sort : (depth : ℕ) → (form : Tree) → Cause
  mismatch : (depth : ℕ) → (found wanted : Tree) → Cause
  not_inductive : (depth : ℕ) → (form : Tree) → Cause
  bad_elimination : (ind : GlobalId) → Cause
  bad_branch_count : (ind : GlobalId) → Cause
  universe_form : (found wanted : TreeSort) → Cause
  unguarded : (f call : ℕ) → Cause
  not_positive : (ctor : GlobalId) → (argument : ℕ) → Cause
  bad_arity : (ind : GlobalId) → Cause
  bad_constructor : (ctor : GlobalId) → Cause

-- Why a call has no value: it refuses its terms, the budget is spent, or a term or the nesting of
-- calls is too deep.
pub data Stopped : Type 0 where
  refused : Cause → Stopped
  spent deep : Stopped

-- What is left of the budget, and the set of constraints found so far.
pub record Budget : Type 0 where
  pub rest : ℕ
  pub found : List Constraint

-- A value with what is left after it, or why there is none.
pub data Outcome (A : Type 0) : Type 0 where
  done : A → Budget → Outcome A
  stops : Stopped → Outcome A

-- A counted call: its outcome from what is left before it.
abbrev pub Counted : Type 0 → Type 0
Counted A = Budget → Outcome A

-- The number of an argument, and of a call, after that of another. It stands still at 2^32 - 1.
abbrev pub next_number : ℕ → ℕ
next_number n = min (n + 1) 4294967295

-- One after the other: the first stop ends everything.
abbrev pub follow : {A B : Type 0} → Outcome A → (A → Counted B) → Outcome B
follow (done a b) f = f a b
follow (stops s) f = stops s

infixl 10 ◌>>=◌
abbrev pub ◌>>=◌ : {A B : Type 0} → Counted A → (A → Counted B) → Counted B
m >>= f = λ b. follow (m b) f

infixl 10 ◌>>◌
abbrev pub ◌>>◌ : {A B : Type 0} → Counted A → Counted B → Counted B
m >> n = λ b. follow (m b) (λ _. n)

abbrev pub give : {A : Type 0} → A → Counted A
give a = λ b. done a b

abbrev pub stop : {A : Type 0} → Stopped → Counted A
stop s = λ b. stops s

abbrev pub refuse : {A : Type 0} → Cause → Counted A
refuse c = stop (refused c)

-- The value of an option, or a refusal where there is none; a refusal where a test fails; and a refusal
-- where there is a cause.
abbrev pub or_refuse : {A : Type 0} → Option A → Cause → Counted A
or_refuse None cause = refuse cause
or_refuse (Some a) cause = give a

abbrev pub require : Bool → Cause → Counted (Unit {0})
require true cause = give tt
require false cause = refuse cause

abbrev pub refuse_for : Option Cause → Counted (Unit {0})
refuse_for None = give tt
refuse_for (Some cause) = refuse cause

-- Takes one from the rest, where there is one.
abbrev pub spend : ℕ → List Constraint → Outcome (Unit {0})
spend zero found = stops spent
spend (suc rest) found = done tt (record { rest = rest; found = found })

abbrev pub tick : Counted (Unit {0})
tick b = spend b.rest b.found

-- Finds a constraint.
abbrev pub note : Constraint → Counted (Unit {0})
note c = λ b. done tt (record { rest = b.rest; found = insert_constraint b.found c })

-- Whether a term is within the limits: its depth at most 4,000, its Rel numbers at most 2^20.
abbrev pub is_small : Tree → Bool
is_small t = nat_le (depth_tree t) 4000 && nat_le (max_rel t) 1048576

-- A term that a lift or a substitution made, which may be too deep.
abbrev pub fitting : Tree → Counted Tree
fitting t = if is_small t then give t else stop deep

-- The same of each of several terms, in order.
abbrev pub fitting_all : List Tree → Counted (List Tree)
fitting_all [] = give []
fitting_all (t ∷ ts) = do
  u ← fitting t
  us ← fitting_all ts
  give (u ∷ us)
