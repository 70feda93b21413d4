-- The counted functions of typing where they are done: with which answer, in how many steps, how many
-- calls deep and with which constraints (this project's own).
use Rattle.std.specs.Prelude.{ℕ, ◌≤◌, ◌+◌, ◌≡◌, true, false, ◌||◌, not, Some, None, List, [], ◌∷◌, ◌++◌, length, take, drop}
use Rattle.cic_terms.specs.Tree.{TreeSort, prop, set, typ, Shape, Binders, Tree, rel, Children, no_child, child, sort, prod, lam, let_in, app, const, ind, ctor, case, fix}
use Rattle.cic_terms.specs.Lift.{lift_tree, subst_tree}
use Rattle.cic_names.specs.declared.name.GlobalId.{GlobalId}
use Rattle.cic_names.specs.declared.level.Level.{Level}
use Rattle.cic_names.specs.declared.level.Level.TheVariants.{Set}
use Rattle.cic_names.specs.declared.level.Atom.{Atom}
use Rattle.cic_counted.specs.Sameness.{same_tree}
use Rattle.cic_rules.specs.Numbering.{plain_level}
use Rattle.cic_rules.specs.Environment.{Environment, Context, InductiveType, TypeInBlock, TypeDeclaration, ConstructorDeclaration, Constructor, constant_type, inductive_type_of, whole_block, constructor_of, type_at, element, assumed, defined}
use Rattle.cic_rules.specs.Telescopes.{apply, head_of, domains_of, conclusion_of, extend, substitute_all, variables, lift_all, lift_domains, Function, function_types, function_type, full_body}
use Rattle.cic_counted.specs.Readings.{arguments_of, instantiate, functions_of}
use Rattle.cic_counted.specs.Outcome.{Budget, is_small}
use Rattle.cic_counted.specs.BlockTests.{is_shaped, index_count}
use Rattle.cic_counted.specs.GuardTest.{guard_fault}
use Rattle.cic_counted.specs.Inference.{next_level, product_sort, are_branches, is_prop, ends_in_prop, branch_goal}
use Rattle.cic_rules.specs.Typing.{function_entries}
use Rattle.cic_counted.specs.calls.Done.{Took, Cost, free, ◌then◌, called, AllSmall, Evaluates, Cumulates}

-- The types of a Fix, lifted to stand under the functions before their own, are within the limits.
abbrev pub SmallEntries : (before : ℕ) → List Tree → Type 0
SmallEntries before [] = Unit {0}
SmallEntries before (t ∷ ts) = (is_small (lift_tree 0 before t) ≡ true) × SmallEntries (before + 1) ts

mutual
  -- A call of inference, of the check of a term against a type, and of the sort of a type.
  pub data Infers (E : Environment) : Context → Tree → Tree → Cost → Type 0 where
    infers : {G : Context} {t T : Tree} {c k : Cost} →
        HasInferred E G t T c →
        k ≡ called c →
        Infers E G t T k

  pub data Checks (E : Environment) : Context → (term type : Tree) → Cost → Type 0 where
    checks : {G : Context} {t S T : Tree} {c d k : Cost} →
        Infers E G t S c →
        Cumulates E G S T d →
        k ≡ called (c then d) →
        Checks E G t T k

  pub data SortOf (E : Environment) : Context → Tree → TreeSort → Cost → Type 0 where
    sorts_of : {G : Context} {T S : Tree} {s : TreeSort} {c d k : Cost} →
        Infers E G T S c →
        Evaluates E G S (sort s) d →
        k ≡ called (c then d) →
        SortOf E G T s k

  -- A type is exposed, and is a type again.
  pub data Exposes (E : Environment) : Context → Tree → Tree → Cost → Type 0 where
    exposes_itself : {G : Context} {T V : Tree} {c : Cost} →
        Evaluates E G T V c →
        same_tree V T ≡ true →
        Exposes E G T V c
    exposes_another : {G : Context} {T V : Tree} {s : TreeSort} {c d k : Cost} →
        Evaluates E G T V c →
        same_tree V T ≡ false →
        SortOf E G V s d →
        k ≡ (c then d) →
        Exposes E G T V k

  pub data HasInferred (E : Environment) : Context → Tree → Tree → Cost → Type 0 where
    infers_variable : {G : Context} {x : ℕ} {a T : Tree} →
        type_at G x ≡ Some a →
        T ≡ lift_tree 0 (x + 1) a →
        is_small T ≡ true →
        HasInferred E G (rel x) T free
    infers_prop : {G : Context} {T : Tree} →
        T ≡ sort (next_level Set) →
        HasInferred E G (sort prop) T free
    infers_set : {G : Context} {T : Tree} →
        T ≡ sort (next_level Set) →
        HasInferred E G (sort set) T free
    infers_universe : {G : Context} {e : List Atom} {l : Level} {T : Tree} →
        plain_level e ≡ Some l →
        T ≡ sort (next_level l) →
        HasInferred E G (sort (typ e)) T free
    infers_product : {G : Context} {a b T : Tree} {s s' r : TreeSort} {c d k : Cost} →
        SortOf E G a s c →
        SortOf E (assumed a ∷ G) b s' d →
        product_sort s s' ≡ Some r →
        T ≡ sort r →
        k ≡ (c then d) →
        HasInferred E G (prod a b) T k
    infers_abstraction : {G : Context} {a b t T : Tree} {s : TreeSort} {c d k : Cost} →
        SortOf E G a s c →
        Infers E (assumed a ∷ G) t b d →
        T ≡ prod a b →
        k ≡ (c then d) →
        HasInferred E G (lam a t) T k
    infers_let : {G : Context} {t a u b T : Tree} {s : TreeSort} {c d e k : Cost} →
        SortOf E G a s c →
        Checks E G t a d →
        Infers E (defined t a ∷ G) u b e →
        T ≡ subst_tree 0 t b →
        is_small T ≡ true →
        k ≡ (c then d then e) →
        HasInferred E G (let_in t a u) T k
    infers_application : {G : Context} {f u F a b T : Tree} {c d e k : Cost} →
        Infers E G f F c →
        Exposes E G F (prod a b) d →
        Checks E G u a e →
        T ≡ subst_tree 0 u b →
        is_small T ≡ true →
        k ≡ (c then d then e) →
        HasInferred E G (app f u) T k
    infers_constant : {G : Context} {id : GlobalId} {T : Tree} →
        constant_type E id ≡ Some T →
        HasInferred E G (const id) T free
    infers_type : {G : Context} {id : GlobalId} {a : InductiveType} {T : Tree} →
        inductive_type_of E id ≡ Some a →
        T ≡ a.arity →
        HasInferred E G (ind id) T free
    infers_constructor : {G : Context} {id : GlobalId} {K : Constructor} {T : Tree} →
        constructor_of E id ≡ Some K →
        T ≡ K.type →
        HasInferred E G (ctor id) T free
    -- A match on type t of a block with r parameters; a is the number of the type's indices.
    infers_match : {G : Context} {id : GlobalId} {n : ℕ} {p v F V T : Tree} {branches : Children} {place : TypeInBlock} {t : TypeDeclaration} {s : TreeSort} {c d e f g k : Cost} →
        (r a : ℕ) (parameters : List Tree) →
        whole_block E id ≡ Some place →
        is_shaped place.block ≡ true →
        element place.block.types place.index ≡ Some t →
        r ≡ place.block.parameters →
        a ≡ index_count r t →
        Infers E G v F c →
        Exposes E G F V d →
        same_tree (head_of V) (ind id) ≡ true →
        length (arguments_of V) ≡ r + a →
        parameters ≡ take r (arguments_of V) →
        n ≡ a →
        are_branches r t.constructors branches ≡ true →
        AllSmall (domains_of (instantiate parameters t.arity)) →
        AllSmall (lift_all a parameters) →
        SortOf E (assumed (apply (ind id) (lift_all a parameters ++ variables a)) ∷ extend G (domains_of (instantiate parameters t.arity))) p s e →
        Eliminates E r t s f →
        ChecksBranches E G a parameters p t.constructors branches g →
        T ≡ substitute_all (drop r (arguments_of V) ++ v ∷ []) p →
        is_small T ≡ true →
        k ≡ (c then d then e then f then g) →
        HasInferred E G (case id n p v branches) T k
    infers_fix : {G : Context} {which : ℕ} {shapes : List Shape} {parts : Children} {f : Function} {T : Tree} {c d k : Cost} →
        (fs : List Function) →
        functions_of shapes parts ≡ Some fs →
        element fs which ≡ Some f →
        SortsEach E G (function_types fs) c →
        SmallEntries 0 (function_types fs) →
        ChecksBodies E (function_entries 0 G (function_types fs)) (length fs) fs d →
        guard_fault E fs ≡ None →
        T ≡ function_type f →
        k ≡ (c then d) →
        HasInferred E G (fix which shapes parts) T k

  -- A type with r parameters is eliminated into a sort.
  pub data Eliminates (E : Environment) : (r : ℕ) → TypeDeclaration → TreeSort → Cost → Type 0 where
    eliminates_freely : {r : ℕ} {t : TypeDeclaration} {s : TreeSort} →
        (not (ends_in_prop (conclusion_of t.arity)) || is_prop s) ≡ true →
        Eliminates E r t s free
    eliminates_nothing : {r : ℕ} {t : TypeDeclaration} {s : TreeSort} →
        (not (ends_in_prop (conclusion_of t.arity)) || is_prop s) ≡ false →
        t.constructors ≡ [] →
        Eliminates E r t s free
    eliminates_propositions : {r : ℕ} {t : TypeDeclaration} {s : TreeSort} {c : Cost} →
        (constructor : ConstructorDeclaration) →
        (not (ends_in_prop (conclusion_of t.arity)) || is_prop s) ≡ false →
        t.constructors ≡ constructor ∷ [] →
        AllPropositions E (extend [] (take r (domains_of constructor.type))) (drop r (domains_of constructor.type)) c →
        Eliminates E r t s c

  pub data AllPropositions (E : Environment) : Context → List Tree → Cost → Type 0 where
    no_more : {G : Context} →
        AllPropositions E G [] free
    proposition : {G : Context} {a : Tree} {as_ : List Tree} {s : TreeSort} {c d k : Cost} →
        SortOf E G a s c →
        is_prop s ≡ true →
        AllPropositions E (assumed a ∷ G) as_ d →
        k ≡ (c then d) →
        AllPropositions E G (a ∷ as_) k

  pub data ChecksBranches (E : Environment) : Context → (a : ℕ) → (parameters : List Tree) → (motive : Tree) → List ConstructorDeclaration → Children → Cost → Type 0 where
    no_branch_left : {G : Context} {a : ℕ} {parameters : List Tree} {p : Tree} →
        ChecksBranches E G a parameters p [] no_child free
    checks_branch : {G : Context} {a : ℕ} {parameters : List Tree} {p t : Tree} {constructor : ConstructorDeclaration} {rest : List ConstructorDeclaration} {b : Binders} {ks : Children} {c d k : Cost} →
        AllSmall (domains_of (instantiate parameters constructor.type)) →
        is_small (branch_goal a parameters p constructor) ≡ true →
        Checks E (extend G (domains_of (instantiate parameters constructor.type))) t (branch_goal a parameters p constructor) c →
        ChecksBranches E G a parameters p rest ks d →
        k ≡ (c then d) →
        ChecksBranches E G a parameters p (constructor ∷ rest) (child b t ks) k

  pub data SortsEach (E : Environment) : Context → List Tree → Cost → Type 0 where
    sorts_none : {G : Context} →
        SortsEach E G [] free
    sorts_one_more : {G : Context} {t : Tree} {ts : List Tree} {s : TreeSort} {c d k : Cost} →
        SortOf E G t s c →
        SortsEach E G ts d →
        k ≡ (c then d) →
        SortsEach E G (t ∷ ts) k

  pub data ChecksBodies (E : Environment) : Context → (all : ℕ) → List Function → Cost → Type 0 where
    no_body_left : {G : Context} {all : ℕ} →
        ChecksBodies E G all [] free
    checks_body : {G : Context} {all : ℕ} {f : Function} {fs : List Function} {c d k : Cost} →
        AllSmall (lift_domains 0 all f.domains) →
        is_small (lift_tree 0 all (function_type f)) ≡ true →
        Checks E G (full_body all f) (lift_tree 0 all (function_type f)) c →
        ChecksBodies E G all fs d →
        k ≡ (c then d) →
        ChecksBodies E G all (f ∷ fs) k

-- Inferred, checked and sorted with at most k calls open, at the cost that was taken.
abbrev pub Inferred : Environment → Context → ℕ → (term type : Tree) → Budget → Budget → Type 0
Inferred E G k t T b b' = (c : Cost) × Infers E G t T c × (c.depth ≤ k) × Took c b b'

abbrev pub Checked : Environment → Context → ℕ → (term type : Tree) → Budget → Budget → Type 0
Checked E G k t T b b' = (c : Cost) × Checks E G t T c × (c.depth ≤ k) × Took c b b'

abbrev pub Sorted : Environment → Context → ℕ → Tree → TreeSort → Budget → Budget → Type 0
Sorted E G k t s b b' = (c : Cost) × SortOf E G t s c × (c.depth ≤ k) × Took c b b'
