-- Numbers for universe levels: when constraints between levels hold (Coq Reference Manual, "Universes").
use Rattle.std.specs.Prelude.{ℕ, ◌+◌, ◌<◌, ◌≤◌, ◌≡◌, ◌≢◌, max, Bool, true, false, if◌then◌else◌, Option, Some, None, List, [], ◌∷◌, Contains}
use Rattle.std.specs.declared.cmp.Ordering.TheVariants.{Less}
use Rattle.cic_terms.specs.Tree.{TreeSort, prop, set, typ, own}
use Rattle.cic_names.specs.declared.level.LevelName.{LevelName}
use Rattle.cic_names.specs.declared.level.Level.{Level}
use Rattle.cic_names.specs.declared.level.Level.TheVariants.{Set, Named}
use Rattle.cic_names.specs.declared.level.Atom.{Atom}
use Rattle.cic_names.specs.Sameness.{same_level_name}
use Rattle.cic_names.specs.declared.constraint.Constraint.{Constraint}
use Rattle.cic_names.specs.Orders.{level_order}

-- A named level with its number.
pub record Numbered : Type 0 where
  pub level : LevelName
  pub number : ℕ

-- A numbering: numbers for finitely many named levels. Set has number 0 and a level that is not in the
-- list has 1.
abbrev pub Numbering : Type 0
Numbering = List Numbered

abbrev pub level_number : Numbering → Level → ℕ
level_number N Set = 0
level_number [] (Named l) = 1
level_number (a ∷ N) (Named l) = if same_level_name a.level l then a.number else level_number N (Named l)

-- The levels of a numbering are distinct, and their numbers are at least 1.
abbrev pub NotNumbered : LevelName → Numbering → Type 0
NotNumbered l [] = Unit {0}
NotNumbered l (a ∷ N) = (a.level ≢ l) × NotNumbered l N

abbrev pub IsNumbering : Numbering → Type 0
IsNumbering [] = Unit {0}
IsNumbering (a ∷ N) = (1 ≤ a.number) × NotNumbered a.level N × IsNumbering N

-- The number of an atom, which is one more where it has plus, and of an expression, the greatest
-- number of its atoms.
abbrev pub atom_number : Numbering → Atom → ℕ
atom_number N a = if a.plus then level_number N a.level + 1 else level_number N a.level

abbrev pub expression_number : Numbering → List Atom → ℕ
expression_number N [] = 0
expression_number N (a ∷ as_) = max (atom_number N a) (expression_number N as_)

-- The level of an expression that is one level without plus.
abbrev pub plain_level : List Atom → Option Level
plain_level (a ∷ []) = if a.plus then None else Some a.level
plain_level _ = None

-- The number of a sort that is a Typ; Prop and Set are none. `own i` is the universe of number i + 1
-- that a derivation brings.
abbrev pub sort_number : Numbering → TreeSort → Option ℕ
sort_number N prop = None
sort_number N set = None
sort_number N (typ e) = Some (expression_number N e)
sort_number N (own i) = Some (i + 1)

-- A numbering meets a constraint: left is at most right, or below it where strict.
abbrev pub MeetsAt : (strict : Bool) → (left right : ℕ) → Type 0
MeetsAt true left right = left < right
MeetsAt false left right = left ≤ right

abbrev pub Meets : Numbering → Constraint → Type 0
Meets N c = MeetsAt c.strict (level_number N c.left) (level_number N c.right)

abbrev pub MeetsAll : Numbering → List Constraint → Type 0
MeetsAll N [] = Unit {0}
MeetsAll N (c ∷ cs) = Meets N c × MeetsAll N cs

-- Constraints are consistent where some numbering meets them all.
pub record Consistent (K : List Constraint) : Type 0 where
  pub numbering : Numbering
  pub is_numbering : IsNumbering numbering
  pub meets : MeetsAll numbering K

-- A cycle of constraints (this project's own): each begins at the level where the one before ends, the
-- first where the last ends; one is strict; no level is a left end twice; and it begins at its least
-- level in the order of levels. No numbering meets a cycle.
abbrev pub Chain : (from : Level) → List Constraint → (to : Level) → Type 0
Chain from [] to = from ≡ to
Chain from (c ∷ cs) to = (c.left ≡ from) × Chain c.right cs to

abbrev pub LeftOfNone : Level → List Constraint → Type 0
LeftOfNone l [] = Unit {0}
LeftOfNone l (c ∷ cs) = (c.left ≢ l) × LeftOfNone l cs

abbrev pub DistinctLefts : List Constraint → Type 0
DistinctLefts [] = Unit {0}
DistinctLefts (c ∷ cs) = LeftOfNone c.left cs × DistinctLefts cs

abbrev pub NoneBelow : Level → List Constraint → Type 0
NoneBelow l [] = Unit {0}
NoneBelow l (c ∷ cs) = (level_order c.left l ≢ Less) × NoneBelow l cs

pub record IsCycle (cycle : List Constraint) : Type 0 where
  pub start : Level
  pub chain : Chain start cycle start
  pub strict : (c : Constraint) × Contains cycle c × (c.strict ≡ true)
  pub distinct : DistinctLefts cycle
  pub least : NoneBelow start cycle
