-- The numbers of the binders around a term, as the code keeps them.
use Rattle.std.specs.Prelude.{ℕ, zero, suc, ◌+◌, ◌≤◌, List, [], ◌∷◌, ◌++◌, codes, decimal, Bool, false, cond, ◌==◌}
use Rattle.cic_terms.specs.Tree.{Tree}
use Rattle.gal_print.specs.Printing.{under, is_used, name_text}
use Rattle.gal_print.specs.declared.names.Names.{Names, Outside, Run'}
use Rattle.gal_print.specs.declared.names.Variable.{Variable}
use Rattle.gal_print.specs.declared.names.Variable.TheVariants.{Bound, Free}

abbrev pub numbers : Names → List ℕ
numbers Outside = []
numbers (Run' first count _ outer) = under first count (numbers outer)

abbrev pub next_number : Names → ℕ
next_number Outside = 0
next_number (Run' first count _ outer) = first + count

-- The numbers grow inwards.
abbrev pub Ordered : Names → Type 0
Ordered Outside = Unit {0}
Ordered (Run' first count _ outer) = (next_number outer ≤ first) × Ordered outer

-- Which binder a variable stands for.
abbrev pub variable : (names : List ℕ) → (x : ℕ) → Variable
variable [] x = Free x
variable (n ∷ names) zero = Bound n
variable (n ∷ names) (suc x) = variable names x

abbrev pub variable_as_text : Variable → List ℕ
variable_as_text (Bound n) = name_text n
variable_as_text (Free x) = codes "?" ++ decimal x

-- What holds of the variable that stands for the binder of a number, if one does.
abbrev pub at : (names : List ℕ) → (number : ℕ) → (ℕ → Bool) → Bool
at [] i P = false
at (n ∷ names) i P = cond (i == n) (P 0) (at names i (λ x. P (x + 1)))

-- The binder of a number is used in a term under so many further binders.
abbrev pub uses_under : (count : ℕ) → (names : List ℕ) → Tree → (number : ℕ) → Bool
uses_under count names t i = at names i (λ x. is_used (x + count) t)

abbrev pub uses : (names : List ℕ) → Tree → (number : ℕ) → Bool
uses names t i = at names i (λ x. is_used x t)
