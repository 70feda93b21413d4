-- What a library file can hold: the names, levels, constraints and terms that have a spelling.
use Rattle.std.specs.Prelude.{ℕ, suc, zero, ◌≡◌, ◌+◌, ◌<◌, ◌≤◌, ◌^◌, List, [], ◌∷◌, ◌++◌, length, Bool, false}
use Rattle.std.specs.List.Sorted.{IsStrictlySortedBy}
use Rattle.cic_names.specs.declared.name.GlobalId.{GlobalId}
use Rattle.cic_names.specs.declared.level.Part.{Part}
use Rattle.cic_names.specs.declared.level.Part.TheVariants.{Declared, Visible, Proof}
use Rattle.cic_names.specs.declared.level.LevelName.{LevelName}
use Rattle.cic_names.specs.declared.level.Level.{Level}
use Rattle.cic_names.specs.declared.level.Level.TheVariants.{Set, Named}
use Rattle.cic_names.specs.declared.level.Atom.{Atom}
use Rattle.cic_names.specs.declared.constraint.Constraint.{Constraint}
use Rattle.cic_names.specs.Identifier.{IsIdentifier}
use Rattle.cic_names.specs.Orders.{constraint_order}
use Rattle.cic_terms.specs.Tree.{TreeSort, prop, set, typ, Shape, Binders, many, Tree, rel, Children, no_child, child, sort, prod, lam, let_in, app, const, ind, ctor, case, fix}
use Rattle.cic_terms.specs.Sizes.{depth_tree}
use Rattle.cic_terms.specs.WellShaped.{HaveDomains}
use Rattle.term_format.specs.Spelling.{count_of}

-- The most levels that a term has, and the greatest number of a variable, an arity and a number of binders.
abbrev pub most_levels : ℕ
most_levels = 4000

abbrev pub most_number : ℕ
most_number = 1048576

-- Names are the identifiers of at most 255 bytes.
abbrev pub IsName : List ℕ → Type 0
IsName name = IsIdentifier name × (length name ≤ 255)

abbrev pub IsId : GlobalId → Type 0
IsId id = IsName id.lib × IsName id.name

-- The number of an anonymous level has four bytes.
abbrev pub IsPart : Part → Type 0
IsPart Declared = Unit {0}
IsPart (Visible n) = n < 2 ^ 32
IsPart (Proof n) = n < 2 ^ 32

abbrev pub IsLevelName : LevelName → Type 0
IsLevelName l = IsName l.lib × IsName l.owner × IsPart l.part

abbrev pub IsLevel : Level → Type 0
IsLevel Set = Unit {0}
IsLevel (Named l) = IsLevelName l

abbrev pub IsConstraint : Constraint → Type 0
IsConstraint c = IsLevel c.left × IsLevel c.right

abbrev pub AreConstraints : List Constraint → Type 0
AreConstraints [] = Unit {0}
AreConstraints (c ∷ cs) = IsConstraint c × AreConstraints cs

-- A list of constraints: fewer than 2^32, each above the one before as a byte string.
pub record AreStorable (cs : List Constraint) : Type 0 where
  pub each : AreConstraints cs
  pub increasing : IsStrictlySortedBy constraint_order cs
  pub few : length cs < 2 ^ 32

-- A level that has a name, and not the next one after it.
abbrev pub PlainLevel : (plus : Bool) → Level → Type 0
PlainLevel false (Named l) = IsLevelName l
PlainLevel _ _ = ⊥

abbrev pub IsPlain : Atom → Type 0
IsPlain atom = PlainLevel atom.plus atom.level

-- The sorts: Prop, Set, and Type at one plain level.
abbrev pub IsSort : TreeSort → Type 0
IsSort prop = Unit {0}
IsSort set = Unit {0}
IsSort (typ (atom ∷ [])) = IsPlain atom
IsSort _ = ⊥

-- The binders that `n` domains stand under, the first of them under `above`.
abbrev pub domain_binders : (above n : ℕ) → List Binders
domain_binders above zero = []
domain_binders above (suc n) = many above ∷ domain_binders (above + 1) n

-- The binders that the parts of functions stand under, where a fix has `all` of them.
abbrev pub function_binders : (all : ℕ) → List Shape → List Binders
function_binders all [] = []
function_binders all (s ∷ shapes) =
    domain_binders 0 s.domains ++ (many s.domains ∷ (many (all + s.domains) ∷ function_binders all shapes))

-- The binders that parts stand under.
abbrev pub binders_of : Children → List Binders
binders_of no_child = []
binders_of (child b t parts) = b ∷ binders_of parts

-- Each function has fewer than 2^32 domains.
abbrev pub FewDomains : List Shape → Type 0
FewDomains [] = Unit {0}
FewDomains (s ∷ shapes) = (s.domains < 2 ^ 32) × FewDomains shapes

-- The functions of a fix: at least one, each with its recursive domain among its domains, and their parts in order.
pub record AreFunctions (which : ℕ) (shapes : List Shape) (parts : Children) : Type 0 where
  pub one_of_them : which < length shapes
  pub few : length shapes < 2 ^ 32
  pub recursive : HaveDomains shapes
  pub few_domains : FewDomains shapes
  pub in_order : binders_of parts ≡ function_binders (length shapes) shapes

abbrev mutual
  -- Each former has a row in the table, and each number stands within its limit.
  pub HasRow : Tree → Type 0
  HasRow (rel n) = n ≤ most_number
  HasRow (sort s) = IsSort s
  HasRow (prod a b) = HasRow a × HasRow b
  HasRow (lam a b) = HasRow a × HasRow b
  HasRow (let_in t a u) = HasRow t × HasRow a × HasRow u
  HasRow (app f u) = HasRow f × HasRow u
  HasRow (const id) = IsId id
  HasRow (ind id) = IsId id
  HasRow (ctor id) = IsId id
  HasRow (case id arity motive value branches) =
      IsId id × (arity ≤ most_number) × HasRow motive × HasRow value × (count_of branches < 2 ^ 32) × AreBranches branches
  HasRow (fix which shapes parts) = AreFunctions which shapes parts × HaveRows parts
  HasRow _ = ⊥

  -- The branches of a match.
  pub AreBranches : Children → Type 0
  AreBranches no_child = Unit {0}
  AreBranches (child (many n) t branches) = (n ≤ most_number) × HasRow t × AreBranches branches
  AreBranches _ = ⊥

  -- Each of these parts.
  pub HaveRows : Children → Type 0
  HaveRows no_child = Unit {0}
  HaveRows (child b t parts) = HasRow t × HaveRows parts

-- A term that a library file can hold.
pub record IsStorable (t : Tree) : Type 0 where
  pub depth : depth_tree t ≤ most_levels
  pub rows : HasRow t
