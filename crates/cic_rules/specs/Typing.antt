-- Typing at a numbering (Coq Reference Manual, "Typing rules"; for match and fix "Inductive
-- definitions": destructors and fixpoint definitions; for sorts "Sorts").
use Rattle.std.specs.Prelude.{ℕ, ◌+◌, ◌≡◌, ◌≢◌, Some, List, [], ◌∷◌, ◌++◌, length}
use Rattle.cic_terms.specs.Tree.{TreeSort, prop, set, Shape, Binders, over, Tree, rel, Children, no_child, child, sort, prod, lam, let_in, app, const, ind, ctor, case, fix}
use Rattle.cic_terms.specs.Lift.{lift_tree, subst_tree}
use Rattle.cic_names.specs.declared.name.GlobalId.{GlobalId}
use Rattle.cic_rules.specs.Numbering.{Numbering, sort_number}
use Rattle.cic_rules.specs.Environment.{Environment, Context, InductiveType, TypeInBlock, TypeDeclaration, ConstructorDeclaration, Constructor, constant_type, inductive_type_of, whole_block, constructor_of, type_at, element, assumed, defined}
use Rattle.cic_rules.specs.Telescopes.{apply, products, extend, substitute_all, variables, lift_all, Instantiated, Function, function_parts, function_shapes, function_type, function_types, full_bodies}
use Rattle.cic_rules.specs.Conversion.{AtMost}
use Rattle.cic_rules.specs.Inductive.{ConstructorParts}
use Rattle.cic_rules.specs.Guard.{Guarded}

-- The type of a sort: a universe of number 1 for Prop and Set, and the next one for a universe.
pub data TypeOfSort (N : Numbering) : TreeSort → TreeSort → Type 0 where
  of_prop : {s : TreeSort} →
      sort_number N s ≡ Some 1 →
      TypeOfSort N prop s
  of_set : {s : TreeSort} →
      sort_number N s ≡ Some 1 →
      TypeOfSort N set s
  of_universe : {s s' : TreeSort} {i : ℕ} →
      sort_number N s ≡ Some i →
      sort_number N s' ≡ Some (i + 1) →
      TypeOfSort N s s'

-- The sort of a product from the sorts of its domain and its codomain. Prop is impredicative, Set is not.
pub data SortOfProduct (N : Numbering) : (domain codomain product : TreeSort) → Type 0 where
  in_prop : {s : TreeSort} →
      SortOfProduct N s prop prop
  prop_in_set :
      SortOfProduct N prop set set
  set_in_set :
      SortOfProduct N set set set
  in_universe : {s s' s'' : TreeSort} {i : ℕ} →
      sort_number N s ≡ Some i →
      sort_number N s' ≡ Some i →
      sort_number N s'' ≡ Some i →
      SortOfProduct N s s' s''

-- The context under the functions of a Fix, of which `before` stand there already. No type knows a function.
abbrev pub function_entries : (before : ℕ) → Context → (types : List Tree) → Context
function_entries before G [] = G
function_entries before G (t ∷ ts) = function_entries (before + 1) (assumed (lift_tree 0 before t) ∷ G) ts

-- E; G gives t : T at the numbering N. A derivation may hold universes of its own. That the context is
-- well formed stands beside these rules (`Derivation` below).
mutual
  pub data Typed (E : Environment) (N : Numbering) : Context → Tree → Tree → Type 0 where
    sorts : {G : Context} {s s' : TreeSort} →
        TypeOfSort N s s' →
        Typed E N G (sort s) (sort s')
    -- A variable has the type of its entry, and a declared id its declared type, each lifted.
    variable : {G : Context} {x : ℕ} {a t : Tree} →
        type_at G x ≡ Some a →
        t ≡ lift_tree 0 (x + 1) a →
        Typed E N G (rel x) t
    constant : {G : Context} {c : GlobalId} {a t : Tree} →
        constant_type E c ≡ Some a →
        t ≡ lift_tree 0 (length G) a →
        Typed E N G (const c) t
    inductive_type : {G : Context} {c : GlobalId} {a : InductiveType} {t : Tree} →
        inductive_type_of E c ≡ Some a →
        t ≡ lift_tree 0 (length G) a.arity →
        Typed E N G (ind c) t
    constructor : {G : Context} {c : GlobalId} {K : Constructor} {t : Tree} →
        constructor_of E c ≡ Some K →
        t ≡ lift_tree 0 (length G) K.type →
        Typed E N G (ctor c) t
    product : {G : Context} {a b : Tree} {s s' s'' : TreeSort} →
        Typed E N G a (sort s) →
        Typed E N (assumed a ∷ G) b (sort s') →
        SortOfProduct N s s' s'' →
        Typed E N G (prod a b) (sort s'')
    abstraction : {G : Context} {a b t : Tree} {s : TreeSort} →
        Typed E N G (prod a b) (sort s) →
        Typed E N (assumed a ∷ G) t b →
        Typed E N G (lam a t) (prod a b)
    application : {G : Context} {f u a b t : Tree} →
        Typed E N G f (prod a b) →
        Typed E N G u a →
        t ≡ subst_tree 0 u b →
        Typed E N G (app f u) t
    local_definition : {G : Context} {t a u b v : Tree} {s : TreeSort} →
        Typed E N G a (sort s) →
        Typed E N G t a →
        Typed E N (defined t a ∷ G) u b →
        v ≡ subst_tree 0 t b →
        Typed E N G (let_in t a u) v
    -- A match on a type of a whole block, with its parameters and n indices. The motive stands under the
    -- indices, as the arity has them at the parameters, and under a value of the type.
    matching : {G : Context} {id : GlobalId} {n : ℕ} {p v w z t : Tree} {branches : Children} {s : TreeSort} {place : TypeInBlock} {T : TypeDeclaration} →
        (parameters indices domains : List Tree) (s' : TreeSort) →
        whole_block E id ≡ Some place →
        element place.block.types place.index ≡ Some T →
        length parameters ≡ place.block.parameters →
        length indices ≡ n →
        w ≡ apply (ind id) (parameters ++ indices) →
        Typed E N G v w →
        Instantiated (lift_tree 0 (length G) T.arity) parameters z →
        z ≡ products domains (sort s') →
        length domains ≡ n →
        Typed E N (assumed (apply (ind id) (lift_all n parameters ++ variables n)) ∷ extend G domains) p (sort s) →
        Eliminated E N place.block.parameters T s →
        Branches E N G id parameters n p T.constructors branches →
        t ≡ substitute_all (indices ++ v ∷ []) p →
        Typed E N G (case id n p v branches) t
    -- A function of a Fix: each type has a sort, each full body its type under the functions, and the
    -- guard holds.
    fixpoint : {G : Context} {which : ℕ} {shapes : List Shape} {parts : Children} {f : Function} {t : Tree} →
        (fs : List Function) →
        shapes ≡ function_shapes fs →
        parts ≡ function_parts (length fs) fs →
        element fs which ≡ Some f →
        AllSorted E N G (function_types fs) →
        AllTyped E N (function_entries 0 G (function_types fs)) (full_bodies (length fs) fs) (lift_all (length fs) (function_types fs)) →
        Guarded E fs →
        t ≡ function_type f →
        Typed E N G (fix which shapes parts) t
    conversion : {G : Context} {t a b : Tree} {s : TreeSort} →
        Typed E N G t a →
        Typed E N G b (sort s) →
        AtMost E N G a b →
        Typed E N G t b
    -- This project's own: an argument of an inductive type that has a sort has the type of its product
    -- in the arity, with the earlier arguments put in.
    instance : {G : Context} {u a : Tree} {s : TreeSort} →
        (id : GlobalId) (A : InductiveType) (before after : List Tree) (w b z : Tree) →
        inductive_type_of E id ≡ Some A →
        w ≡ apply (ind id) (before ++ u ∷ after) →
        Typed E N G w (sort s) →
        Instantiated (lift_tree 0 (length G) A.arity) before (prod a b) →
        Instantiated (subst_tree 0 u b) after z →
        Typed E N G u a

  -- Each branch, under the arguments of its constructor at the parameters, has the motive at the
  -- constructor's indices and the constructor applied.
  pub data Branches (E : Environment) (N : Numbering) : Context → GlobalId → (parameters : List Tree) → (n : ℕ) → (motive : Tree) → List ConstructorDeclaration → Children → Type 0 where
    no_branch : {G : Context} {id : GlobalId} {parameters : List Tree} {n : ℕ} {p : Tree} →
        Branches E N G id parameters n p [] no_child
    branch : {G : Context} {id : GlobalId} {parameters : List Tree} {n : ℕ} {p w t goal : Tree} {b : Binders} {c : ConstructorDeclaration} {cs : List ConstructorDeclaration} {ks : Children} →
        (domains indices : List Tree) →
        Instantiated (lift_tree 0 (length G) c.type) parameters w →
        w ≡ products domains (apply (ind id) (lift_all (length domains) parameters ++ indices)) →
        length domains ≡ over b 0 →
        length indices ≡ n →
        goal ≡ substitute_all (indices ++ apply (ctor c.id) (lift_all (over b 0) parameters ++ variables (over b 0)) ∷ []) (lift_tree (n + 1) (over b 0) p) →
        Typed E N (extend G domains) t goal →
        Branches E N G id parameters n p cs ks →
        Branches E N G id parameters n p (c ∷ cs) (child b t ks)

  -- A type with so many parameters is eliminated into a sort: a type that is no proposition into every
  -- sort; a proposition into Prop, and into every sort where it has no constructor, or one whose
  -- arguments all have type Prop under the parameters and the earlier arguments.
  pub data Eliminated (E : Environment) (N : Numbering) : (parameters : ℕ) → TypeDeclaration → TreeSort → Type 0 where
    into_prop : {r : ℕ} {T : TypeDeclaration} →
        Eliminated E N r T prop
    of_no_proposition : {r : ℕ} {T : TypeDeclaration} {s : TreeSort} →
        (domains : List Tree) (s' : TreeSort) →
        T.arity ≡ products domains (sort s') →
        s' ≢ prop →
        Eliminated E N r T s
    without_constructor : {r : ℕ} {T : TypeDeclaration} {s : TreeSort} →
        T.constructors ≡ [] →
        Eliminated E N r T s
    of_propositions : {r : ℕ} {T : TypeDeclaration} {s : TreeSort} →
        (c : ConstructorDeclaration) (parts : ConstructorParts r T.id c.type) →
        T.constructors ≡ c ∷ [] →
        Propositions E N (extend [] parts.parameters) parts.arguments →
        Eliminated E N r T s

  pub data Propositions (E : Environment) (N : Numbering) : Context → List Tree → Type 0 where
    no_proposition : {G : Context} →
        Propositions E N G []
    one_proposition : {G : Context} {a : Tree} {as_ : List Tree} →
        Typed E N G a (sort prop) →
        Propositions E N (assumed a ∷ G) as_ →
        Propositions E N G (a ∷ as_)

  -- Each of these types has a sort, and each term its type.
  pub data AllSorted (E : Environment) (N : Numbering) : Context → List Tree → Type 0 where
    none_sorted : {G : Context} →
        AllSorted E N G []
    more_sorted : {G : Context} {t : Tree} {ts : List Tree} {s : TreeSort} →
        Typed E N G t (sort s) →
        AllSorted E N G ts →
        AllSorted E N G (t ∷ ts)

  pub data AllTyped (E : Environment) (N : Numbering) : Context → (terms types : List Tree) → Type 0 where
    none_typed : {G : Context} →
        AllTyped E N G [] []
    more_typed : {G : Context} {t a : Tree} {ts as_ : List Tree} →
        Typed E N G t a →
        AllTyped E N G ts as_ →
        AllTyped E N G (t ∷ ts) (a ∷ as_)

-- A term has a sort: it is a type.
pub record HasSort (E : Environment) (N : Numbering) (G : Context) (t : Tree) : Type 0 where
  pub its_sort : TreeSort
  pub typed : Typed E N G t (sort its_sort)

-- A context is well formed: each type has a sort under the earlier entries, and each body its type.
abbrev pub WellFormedContext : Environment → Numbering → Context → Type 0
WellFormedContext E N [] = Unit {0}
WellFormedContext E N (e ∷ G) =
    ((a : Tree) → e.type ≡ Some a → HasSort E N G a)
    × ((a t : Tree) → e.type ≡ Some a → e.body ≡ Some t → Typed E N G t a)
    × WellFormedContext E N G

-- E; G gives t : T, in a well formed context.
pub record Derivation (E : Environment) (N : Numbering) (G : Context) (t T : Tree) : Type 0 where
  pub well_formed : WellFormedContext E N G
  pub typed : Typed E N G t T
