-- Applications, products and abstractions in a row, and terms put in for several binders at once.
use Rattle.std.specs.Prelude.{ℕ, zero, suc, ◌+◌, ◌≡◌, Bool, Option, Some, None, List, [], ◌∷◌, length, map}
use Rattle.cic_terms.specs.Tree.{Shape, many, over, Tree, rel, Children, no_child, child, prod, lam, app, fix, join}
use Rattle.cic_terms.specs.Lift.{lift_tree, subst_tree}
use Rattle.cic_rules.specs.Environment.{Context, assumed}
use Rattle.cic_names.specs.Sameness.{same_id}
use Rattle.cic_names.specs.declared.name.GlobalId.{GlobalId}
use Rattle.std.specs.List.{list_any}

-- A function applied to arguments, the first innermost.
abbrev pub apply : Tree → List Tree → Tree
apply f [] = f
apply f (u ∷ us) = apply (app f u) us

-- The head of an application as written.
abbrev pub head_of : Tree → Tree
head_of (app f u) = head_of f
head_of t = t

-- Products, and abstractions, over domains, each of which stands under the earlier ones.
abbrev pub products : List Tree → Tree → Tree
products [] t = t
products (a ∷ as_) t = prod a (products as_ t)

abbrev pub abstractions : List Tree → Tree → Tree
abstractions [] t = t
abstractions (a ∷ as_) t = lam a (abstractions as_ t)

-- The domains of a type as written, and what stands after its last product.
abbrev pub domains_of : Tree → List Tree
domains_of (prod a b) = a ∷ domains_of b
domains_of t = []

abbrev pub conclusion_of : Tree → Tree
conclusion_of (prod a b) = conclusion_of b
conclusion_of t = t

-- The context under binders with these types, each of which stands under the earlier ones.
abbrev pub extend : Context → List Tree → Context
extend G [] = G
extend G (a ∷ as_) = extend (assumed a ∷ G) as_

-- The terms put in for as many innermost binders at once, the first for the outermost of them.
abbrev pub substitute_all : List Tree → Tree → Tree
substitute_all [] t = t
substitute_all (u ∷ us) t = substitute_all us (subst_tree (length us) u t)

-- The variables of the n innermost binders, the outermost first.
abbrev pub variables : ℕ → List Tree
variables zero = []
variables (suc n) = rel n ∷ variables n

-- Each term lifted past n binders.
abbrev pub lift_all : ℕ → List Tree → List Tree
lift_all n = map (lift_tree 0 n)

-- Each domain lifted past n binders that stand outside all of them; the first stands under `place`
-- binders of its own.
abbrev pub lift_domains : (place n : ℕ) → List Tree → List Tree
lift_domains place n [] = []
lift_domains place n (a ∷ as_) = lift_tree place n a ∷ lift_domains (place + 1) n as_

-- Arguments put in for the first products of a type as written, one after the other, and what is left.
pub data Instantiated : Tree → List Tree → Tree → Type 0 where
  no_argument : {t : Tree} →
      Instantiated t [] t
  one_argument : {a b u t t' : Tree} {us : List Tree} →
      t ≡ subst_tree 0 u b →
      Instantiated t us t' →
      Instantiated (prod a b) (u ∷ us) t'

-- A branch of a match: how many arguments it binds, and its term under them.
pub record BranchParts : Type 0 where
  pub binders : ℕ
  pub body : Tree

-- Branch `i` of a match.
abbrev pub branch_at : Children → ℕ → Option BranchParts
branch_at no_child i = None
branch_at (child b t ks) zero = Some (record { binders = over b 0; body = t })
branch_at (child b t ks) (suc i) = branch_at ks i

-- A function of a Fix: the place of its recursive argument, its domains, each of which stands under the
-- earlier ones, its codomain under the domains, and its body under all functions of the Fix, the first
-- outermost, and then the domains.
pub record Function : Type 0 where
  pub recursive_place : ℕ
  pub domains : List Tree
  pub codomain : Tree
  pub body : Tree

-- The parts of a Fix with these functions.
abbrev pub domain_parts : (above : ℕ) → List Tree → Children
domain_parts above [] = no_child
domain_parts above (a ∷ as_) = child (many above) a (domain_parts (above + 1) as_)

abbrev pub function_parts : (all : ℕ) → List Function → Children
function_parts all [] = no_child
function_parts all (f ∷ fs) =
    join (domain_parts 0 f.domains)
    (child (many (length f.domains)) f.codomain
    (child (many (all + length f.domains)) f.body (function_parts all fs)))

abbrev pub function_shapes : List Function → List Shape
function_shapes = map (λ f. record { k = f.recursive_place; domains = length f.domains })

-- Function `which` of a Fix with these functions.
abbrev pub fixpoint : (which : ℕ) → List Function → Tree
fixpoint which fs = fix which (function_shapes fs) (function_parts (length fs) fs)

-- The type of a function, and of each of several.
abbrev pub function_type : Function → Tree
function_type f = products f.domains f.codomain

abbrev pub function_types : List Function → List Tree
function_types = map function_type

-- The full body of a function, under all functions of its Fix, of which there are `all`.
abbrev pub full_body : (all : ℕ) → Function → Tree
full_body all f = abstractions (lift_domains 0 all f.domains) f.body

abbrev pub full_bodies : (all : ℕ) → List Function → List Tree
full_bodies all = map (full_body all)

-- `count` functions of a Fix, from function `which` on, each as a term.
abbrev pub each_fixpoint : (count which : ℕ) → List Function → List Tree
each_fixpoint zero which fs = []
each_fixpoint (suc count) which fs = fixpoint which fs ∷ each_fixpoint count (which + 1) fs

-- The full body of a function with the Fixes put in for the functions.
abbrev pub unfolded : List Function → Function → Tree
unfolded fs f = substitute_all (each_fixpoint (length fs) 0 fs) (full_body (length fs) f)

-- Whether an id is among others.
abbrev pub is_among : GlobalId → List GlobalId → Bool
is_among id = list_any (same_id id)
