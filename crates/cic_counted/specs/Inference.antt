-- The counted functions of typing: inference, check against a type, and the sort of a type (this
-- project's own; the rules that they follow are those of the Coq Reference Manual, "Typing rules" and
-- "Inductive definitions").
use Rattle.std.specs.Prelude.{ℕ, zero, suc, ◌+◌, ◌-◌, Bool, true, false, not, ◌&&◌, ◌||◌, nat_eq, if◌then◌else◌, Option, Some, None, option_map, List, [], ◌∷◌, ◌++◌, length, take, drop}
use Rattle.std.specs.List.{list_any}
use Rattle.cic_terms.specs.Tree.{TreeSort, prop, set, typ, own, Shape, over, Tree, rel, Children, no_child, child, sort, prod, lam, let_in, app, const, ind, ctor, case, fix}
use Rattle.cic_terms.specs.Lift.{lift_tree, subst_tree}
use Rattle.cic_names.specs.declared.name.GlobalId.{GlobalId}
use Rattle.cic_names.specs.declared.level.Level.{Level}
use Rattle.cic_names.specs.declared.level.Level.TheVariants.{Set}
use Rattle.cic_names.specs.declared.level.Atom.{Atom}
use Rattle.cic_names.specs.Sameness.{same_atom}
use Rattle.cic_counted.specs.Sameness.{same_tree}
use Rattle.cic_rules.specs.Environment.{Environment, Context, TypeDeclaration, ConstructorDeclaration, constant_type, inductive_type_of, whole_block, constructor_of, type_at, element, assumed, defined}
use Rattle.cic_rules.specs.Telescopes.{apply, head_of, domains_of, conclusion_of, extend, substitute_all, variables, lift_all, Function, function_types, function_type}
use Rattle.cic_counted.specs.Readings.{arguments_of, instantiate, functions_of}
use Rattle.cic_counted.specs.BlockTests.{is_shaped, index_count}
use Rattle.cic_counted.specs.GuardTest.{guard_fault}
use Rattle.cic_counted.specs.Outcome.{Counted, global, local, unbound, not_function, not_sort, not_inductive, bad_elimination, bad_branch_count, universe_form, unguarded, deep, ◌>>=◌, ◌>>◌, give, stop, refuse, or_refuse, require, refuse_for, tick, fitting, fitting_all}
use Rattle.cic_rules.specs.Numbering.{plain_level}
use Rattle.cic_counted.specs.Evaluation.{fitting_body, whnf_at, cumul_at}

-- The calls one deeper.
pub record Calls : Type 0 where
  pub infer : Context → Tree → Counted Tree
  pub check : Context → (term type : Tree) → Counted (Unit {0})
  pub sort_of : Context → Tree → Counted TreeSort

-- A term in weak head form as a sort, and as a product.
abbrev pub as_sort : Context → Tree → Counted TreeSort
as_sort G (sort s) = give s
as_sort G t = refuse (not_sort (length G) t)

pub record Product : Type 0 where
  pub domain : Tree
  pub codomain : Tree

abbrev pub as_product : Context → Tree → Counted Product
as_product G (prod a b) = give (record { domain = a; codomain = b })
as_product G t = refuse (not_function (length G) t)

-- The weak head form of a type. Where that is another term, it is shown to be a type again.
abbrev pub expose : (Tree → Counted Tree) → Calls → Context → Tree → Counted Tree
expose whnf calls G T = do
  V ← whnf T
  if same_tree V T then give V else (do
    calls.sort_of G V
    give V)

-- The type of a sort: of Prop and Set the level above Set, of a plain level the level above it.
abbrev pub next_level : Level → TreeSort
next_level l = typ (record { level = l; plus = true } ∷ [])

abbrev pub type_of_sort : TreeSort → Counted Tree
type_of_sort prop = give (sort (next_level Set))
type_of_sort set = give (sort (next_level Set))
type_of_sort (typ e) = do
  l ← or_refuse (plain_level e) (universe_form (typ e) (typ e))
  give (sort (next_level l))
type_of_sort (own i) = refuse (universe_form (own i) (own i))

-- All atoms of two expressions, each once, those of the first before the others.
abbrev pub add_atoms : (before : List Atom) → List Atom → List Atom
add_atoms before [] = before
add_atoms before (a ∷ as_) = add_atoms (if list_any (same_atom a) before then before else before ++ a ∷ []) as_

-- The sort of a product, from those of its domain and its codomain. A universe of a derivation's own has no
-- level, so with another universe it has none.
abbrev pub product_sort : (domain codomain : TreeSort) → Option TreeSort
product_sort s prop = Some prop
product_sort prop s' = Some s'
product_sort set s' = Some s'
product_sort s set = Some s
product_sort (typ e) (typ e') = Some (typ (add_atoms [] (e ++ e')))
product_sort s s' = None

-- Whether the branches are one for each constructor, in order, each under as many binders as the
-- constructor has arguments.
abbrev pub are_branches : (r : ℕ) → List ConstructorDeclaration → Children → Bool
are_branches r [] no_child = true
are_branches r (c ∷ cs) (child b t ks) = nat_eq (over b 0) (length (domains_of c.type) - r) && are_branches r cs ks
are_branches r _ _ = false

abbrev pub is_prop : TreeSort → Bool
is_prop prop = true
is_prop s = false

-- Each of these types is a proposition under the earlier ones.
abbrev pub all_propositions : Calls → GlobalId → Context → List Tree → Counted (Unit {0})
all_propositions calls id G [] = give tt
all_propositions calls id G (a ∷ as_) = do
  s ← calls.sort_of G a
  require (is_prop s) (bad_elimination id)
  all_propositions calls id (assumed a ∷ G) as_

abbrev pub eliminates_constructors : Calls → GlobalId → (r : ℕ) → List ConstructorDeclaration → Counted (Unit {0})
eliminates_constructors calls id r [] = give tt
eliminates_constructors calls id r (c ∷ []) =
    all_propositions calls id (extend [] (take r (domains_of c.type))) (drop r (domains_of c.type))
eliminates_constructors calls id r _ = refuse (bad_elimination id)

abbrev pub ends_in_prop : Tree → Bool
ends_in_prop (sort s) = is_prop s
ends_in_prop t = false

-- Elimination of a type into a sort. A type that is no proposition goes into every sort. A proposition
-- goes into Prop, and into every sort where it has no constructor, or one whose arguments are all
-- propositions; these are looked at, in the context of the parameters and earlier arguments alone, only
-- where they decide.
abbrev pub eliminates : Calls → GlobalId → (r : ℕ) → TypeDeclaration → TreeSort → Counted (Unit {0})
eliminates calls id r t s =
    if not (ends_in_prop (conclusion_of t.arity)) || is_prop s
    then give tt
    else eliminates_constructors calls id r t.constructors

-- The type of a branch, in the context extended by the constructor's arguments with the parameters put
-- in: the motive at the constructor's indices and the constructor applied.
abbrev pub branch_goal : (a : ℕ) → (parameters : List Tree) → (motive : Tree) → ConstructorDeclaration → Tree
branch_goal a parameters p c =
    let type = instantiate parameters c.type in
    let m = length (domains_of type) in
    substitute_all
    (drop (length parameters) (arguments_of (conclusion_of type))
    ++ apply (ctor c.id) (lift_all m parameters ++ variables m) ∷ [])
    (lift_tree (a + 1) m p)

abbrev pub check_branches : Calls → Context → (a : ℕ) → (parameters : List Tree) → (motive : Tree) → List ConstructorDeclaration → Children → Counted (Unit {0})
check_branches calls G a parameters p (c ∷ cs) (child b t ks) = do
  as_ ← fitting_all (domains_of (instantiate parameters c.type))
  goal ← fitting (branch_goal a parameters p c)
  calls.check (extend G as_) t goal
  check_branches calls G a parameters p cs ks
check_branches calls G a parameters p _ _ = give tt

-- A match on type t, which has r parameters and a indices. The type of its value is t under all of them.
abbrev pub infer_match : (Tree → Counted Tree) → Calls → Context → GlobalId → (n : ℕ) → (p c : Tree) → (branches : Children) → (r a : ℕ) → TypeDeclaration → Counted Tree
infer_match whnf calls G id n p c branches r a t = do
  T ← calls.infer G c
  C ← expose whnf calls G T
  require (same_tree (head_of C) (ind id) && nat_eq (length (arguments_of C)) (r + a)) (not_inductive (length G) C)
  require (nat_eq n a && are_branches r t.constructors branches) (bad_branch_count id)
  indices ← fitting_all (domains_of (instantiate (take r (arguments_of C)) t.arity))
  parameters ← fitting_all (lift_all a (take r (arguments_of C)))
  s ← calls.sort_of (assumed (apply (ind id) (parameters ++ variables a)) ∷ extend G indices) p
  eliminates calls id r t s
  check_branches calls G a (take r (arguments_of C)) p t.constructors branches
  fitting (substitute_all (drop r (arguments_of C) ++ c ∷ []) p)

-- A match is on a type of a whole block of the right shape.
abbrev pub infer_case : (Tree → Counted Tree) → Calls → Environment → Context → GlobalId → (n : ℕ) → (p c : Tree) → (branches : Children) → Counted Tree
infer_case whnf calls E G id n p c branches = do
  place ← or_refuse (whole_block E id) (unbound (global id))
  require (is_shaped place.block) (unbound (global id))
  t ← or_refuse (element place.block.types place.index) (unbound (global id))
  infer_match whnf calls G id n p c branches place.block.parameters (index_count place.block.parameters t) t

-- Each of several types has a sort.
abbrev pub sort_each : Calls → Context → List Tree → Counted (Unit {0})
sort_each calls G [] = give tt
sort_each calls G (t ∷ ts) = do
  calls.sort_of G t
  sort_each calls G ts

-- The context under the functions of a Fix, of which `before` stand there already: each type is lifted
-- past the functions before its own.
abbrev pub function_context : (before : ℕ) → Context → List Tree → Counted Context
function_context before G [] = give G
function_context before G (t ∷ ts) = do
  u ← fitting (lift_tree 0 before t)
  function_context (before + 1) (assumed u ∷ G) ts

abbrev pub check_bodies : Calls → Context → (all : ℕ) → List Function → Counted (Unit {0})
check_bodies calls G all [] = give tt
check_bodies calls G all (f ∷ fs) = do
  b ← fitting_body all f
  t ← fitting (lift_tree 0 all (function_type f))
  calls.check G b t
  check_bodies calls G all fs

-- The type of function `which`. A Fix names one of its functions, and its parts are those of its
-- functions; no term of the program is otherwise.
abbrev pub infer_fix : Calls → Environment → Context → (which : ℕ) → List Shape → (parts : Children) → Counted Tree
infer_fix calls E G which shapes parts = do
  fs ← or_refuse (functions_of shapes parts) (unguarded which 0)
  f ← or_refuse (element fs which) (unguarded which 0)
  sort_each calls G (function_types fs)
  G' ← function_context 0 G (function_types fs)
  check_bodies calls G' (length fs) fs
  refuse_for (option_map (λ fault. unguarded fault.which fault.call) (guard_fault E fs))
  give (function_type f)

abbrev pub infer_step : (Context → Tree → Counted Tree) → Calls → Environment → Context → Tree → Counted Tree
infer_step whnf calls E G (rel x) = do
  a ← or_refuse (type_at G x) (unbound (local x))
  fitting (lift_tree 0 (x + 1) a)
infer_step whnf calls E G (sort s) = type_of_sort s
infer_step whnf calls E G (prod a b) = do
  s ← calls.sort_of G a
  s' ← calls.sort_of (assumed a ∷ G) b
  s'' ← or_refuse (product_sort s s') (universe_form s s')
  give (sort s'')
infer_step whnf calls E G (lam a t) = do
  calls.sort_of G a
  b ← calls.infer (assumed a ∷ G) t
  give (prod a b)
infer_step whnf calls E G (let_in t a u) = do
  calls.sort_of G a
  calls.check G t a
  b ← calls.infer (defined t a ∷ G) u
  fitting (subst_tree 0 t b)
infer_step whnf calls E G (app f u) = do
  T ← calls.infer G f
  V ← expose (whnf G) calls G T
  P ← as_product G V
  calls.check G u P.domain
  fitting (subst_tree 0 u P.codomain)
infer_step whnf calls E G (const c) = or_refuse (constant_type E c) (unbound (global c))
infer_step whnf calls E G (ind c) = or_refuse (option_map (λ a. a.arity) (inductive_type_of E c)) (unbound (global c))
infer_step whnf calls E G (ctor c) = or_refuse (option_map (λ k. k.type) (constructor_of E c)) (unbound (global c))
infer_step whnf calls E G (case id n p c branches) = infer_case (whnf G) calls E G id n p c branches
infer_step whnf calls E G (fix which shapes parts) = infer_fix calls E G which shapes parts
infer_step whnf calls E G t = refuse (not_function (length G) t)

abbrev pub check_step : (Context → Tree → Tree → Counted (Unit {0})) → Calls → Context → (term type : Tree) → Counted (Unit {0})
check_step cumul calls G t T = do
  S ← calls.infer G t
  cumul G S T

abbrev pub sort_step : (Context → Tree → Counted Tree) → Calls → Context → Tree → Counted TreeSort
sort_step whnf calls G T = do
  S ← calls.infer G T
  V ← whnf G S
  as_sort G V

-- No call is left that may be deeper; and the calls over evaluation, subtyping and the calls one deeper.
abbrev pub too_deep : Calls
too_deep = record {
  infer = λ G t. stop deep;
  check = λ G t T. stop deep;
  sort_of = λ G T. stop deep;
}

abbrev pub calls_over : (whnf : Context → Tree → Counted Tree) → (cumul : Context → Tree → Tree → Counted (Unit {0})) → Calls → Environment → Calls
calls_over whnf cumul calls E = record {
  infer = λ G t. tick >>= λ _. infer_step whnf calls E G t;
  check = λ G t T. tick >>= λ _. check_step cumul calls G t T;
  sort_of = λ G T. tick >>= λ _. sort_step whnf calls G T;
}

unfoldable pub calls_at : ℕ → Environment → Calls
calls_at zero E = too_deep
calls_at (suc k) E = calls_over (whnf_at k E) (cumul_at k E) (calls_at k E) E

-- The counted functions by the depth of the call, which is at most 2,001.
unfoldable pub calls_from : ℕ → Environment → Calls
calls_from d = calls_at (2001 - d)
