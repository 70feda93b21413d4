-- The declarations that a command stands for, or the first fault in the order of the source (Coq Reference Manual,
-- "Vernacular": assumptions, definitions, assertions, inductive types and fixpoints).
use Rattle.std.specs.Prelude.{⊤, ℕ, ◌+◌, List, [], ◌∷◌, ◌++◌, map, length, Option, Some, None, Bool, true, false, Ok, Err, if◌then◌else◌}
use Rattle.cic_names.specs.declared.name.GlobalId.{GlobalId}
use Rattle.cic_names.specs.declared.level.Level.{Level}
use Rattle.cic_names.specs.declared.level.Level.TheVariants.{Set}
use Rattle.cic_names.specs.declared.constraint.Constraint.{Constraint}
use Rattle.cic_terms.specs.Tree.{Tree, ind}
use Rattle.cic_rules.specs.Environment.{Environment, Declaration, axiom_of, transparent, opaque, inductive, TypeDeclaration, ConstructorDeclaration}
use Rattle.cic_rules.specs.Telescopes.{Function, products, abstractions, apply, variables, lift_all, function_type, fixpoint}
use Rattle.gal_grammar.specs.Terms.{Named, Raw, Groups, no_groups, group, Functions}
use Rattle.gal_grammar.specs.Commands as C
use Rattle.gal_scoping.specs.Scopes.{Scope}
use Rattle.gal_scoping.specs.Readings.{Reading, unknown, after, with_part, with_parts}
use Rattle.gal_scoping.specs.Names.{Place, Fresh, fresh_constant, fresh_type, text_of, binder_name, has_own}
use Rattle.gal_scoping.specs.Levels.{Owner, level_named, types_in, types_in_groups}
use Rattle.gal_scoping.specs.Fixpoints.{Binding, domains, inside, function_names, with_places}
use Rattle.gal_scoping.specs.Terms.{term, bindings, functions}

-- The names of binders that have one.
abbrev pub known_name : Option (List ℕ) → List (List ℕ)
known_name None = []
known_name (Some name) = name ∷ []

abbrev pub known_names : List (Option (List ℕ)) → List (List ℕ)
known_names [] = []
known_names (x ∷ xs) = known_name x ++ known_names xs

abbrev pub names_of_groups : Groups → List (List ℕ)
names_of_groups no_groups = []
names_of_groups (group gs xs a) = names_of_groups gs ++ known_names (map binder_name xs)

-- How many names groups have, `_` among them.
abbrev pub width : Groups → ℕ
width no_groups = 0
width (group gs xs a) = width gs + length xs

abbrev pub names_of_constructors : List C.Ctor → List (List ℕ)
names_of_constructors [] = []
names_of_constructors (C.ctor x gs a ∷ cs) = text_of x ∷ names_of_constructors cs

abbrev pub names_of_types : List C.Ind → List (List ℕ)
names_of_types [] = []
names_of_types (C.ind x gs a cs ∷ is) = text_of x ∷ (names_of_constructors cs ++ names_of_types is)

-- The names that a command declares, in the order of the source, levels aside.
abbrev pub declared_names : C.Command → List (List ℕ)
declared_names (C.axiom_of gs) = names_of_groups gs
declared_names (C.variable_of gs) = names_of_groups gs
declared_names (C.definition x gs a t) = text_of x ∷ []
declared_names (C.definition_by x gs a p) = text_of x ∷ []
declared_names (C.local_of x gs a t) = text_of x ∷ []
declared_names (C.theorem x gs a p) = text_of x ∷ []
declared_names (C.fixpoint fs) = known_names (function_names fs)
declared_names (C.inductive is) = names_of_types is
declared_names _ = []

-- The levels that a command declares.
abbrev pub declared_levels : C.Command → List (List ℕ)
declared_levels (C.universe xs) = map text_of xs
declared_levels _ = []

-- The first of several names that is there already, or stands before it among them.
abbrev pub duplicate : (there : List (List ℕ)) → List (List ℕ) → Option (List ℕ)
duplicate there [] = None
duplicate there (name ∷ names) = if has_own there name then Some name else duplicate (name ∷ there) names

-- What a command is read at: what names mean, which of them are live section variables, what is declared, and how many
-- levels each owner has taken.
pub record Before : Type 0 where
  pub scope : Scope
  pub variables : List (List ℕ)
  pub environment : Environment
  pub taken : Owner → ℕ

module _ (before : Before) where
  abbrev pub id_named : List ℕ → GlobalId
  id_named name = record { lib = before.scope.library; name = name }

  -- A place of the command behind these names that it declares.
  abbrev pub place_with : List Fresh → Place
  place_with fresh = record { scope = before.scope; environment = before.environment; fresh = fresh }

  abbrev pub place : Place
  place = place_with []

  -- The axioms of a group, all of its type. Its levels belong to the first of them.
  abbrev pub first_name : List (List ℕ) → List ℕ
  first_name [] = []
  first_name (x ∷ xs) = x

  abbrev pub owned_by : (in_opaque_body : Bool) → List ℕ → Owner
  owned_by in_opaque_body name = record { name = name; opaque = in_opaque_body }

  abbrev pub axioms_of_type : List (List ℕ) → Tree → List Declaration
  axioms_of_type names type = map (λ name. axiom_of (id_named name) type) names

  abbrev pub axioms : Groups → Reading (List Declaration)
  axioms no_groups = Ok []
  axioms (group gs xs a) =
      let names = known_names (map binder_name xs) in
      let owner = owned_by false (first_name names) in
      after (axioms gs) (λ done.
      with_part (λ type. done ++ axioms_of_type names type)
      (term (place_with (map fresh_constant (names_of_groups gs))) owner [] (before.taken owner) a))

  -- A statement: the binders of its groups and its type under them.
  pub record Statement : Type 0 where
    pub binders : List Binding
    pub conclusion : Tree

  abbrev pub statement : Owner → Groups → Raw → Reading Statement
  statement owner gs a =
      after (bindings place owner [] (before.taken owner) gs) (λ bs.
      with_part (λ type. record { binders = bs; conclusion = type })
      (term place owner (inside bs []) (before.taken owner + types_in_groups gs) a))

  abbrev pub statement_type : Statement → Tree
  statement_type s = products (domains s.binders) s.conclusion

  -- A body under the binders of its statement.
  abbrev pub body : Owner → (first : ℕ) → Statement → Raw → Reading Tree
  body owner first s t = with_part (abstractions (domains s.binders)) (term place owner (inside s.binders []) first t)

  abbrev pub definition : List ℕ → Groups → Raw → Raw → Reading (List Declaration)
  definition name gs a t =
      let owner = owned_by false name in
      after (statement owner gs a) (λ s.
      with_part (λ body. transparent (id_named name) (statement_type s) body ∷ [])
      (body owner (before.taken owner + types_in_groups gs + types_in a) s t))

  -- Each name behind `Proof using` is that of a live section variable.
  abbrev pub hypotheses_known : List Named → Reading ⊤
  hypotheses_known [] = Ok tt
  hypotheses_known (x ∷ xs) = if has_own before.variables (text_of x) then hypotheses_known xs else Err (unknown (text_of x))

  abbrev pub using_known : C.Using → Reading ⊤
  using_known (C.using_names xs) = hypotheses_known xs
  using_known _ = Ok tt

  -- What a proof makes of a statement. A body that is given up is not read, and one ended by `Qed` only where proofs are read.
  abbrev pub opaque_with : List ℕ → Statement → Reading Tree → (read : Bool) → Reading (List Declaration)
  opaque_with name s reading true = with_part (λ body. opaque (id_named name) (statement_type s) (Some body) ∷ []) reading
  opaque_with name s reading false = Ok (opaque (id_named name) (statement_type s) None ∷ [])

  abbrev pub proved : (proofs : Bool) → (name : List ℕ) → (first : ℕ) → Statement → C.Proof → Reading (List Declaration)
  proved proofs name first s (C.no_proof using) = after (using_known using) (λ _. Ok (axiom_of (id_named name) (statement_type s) ∷ []))
  proved proofs name first s (C.proof using t C.given_up) = after (using_known using) (λ _. Ok (axiom_of (id_named name) (statement_type s) ∷ []))
  proved proofs name first s (C.proof using t C.defined) =
      after (using_known using) (λ _.
      with_part (λ body. transparent (id_named name) (statement_type s) body ∷ []) (body (owned_by false name) first s t))
  proved proofs name first s (C.proof using t C.qed) =
      after (using_known using) (λ _.
      opaque_with name s (body (owned_by true name) (before.taken (owned_by true name)) s t) proofs)

  abbrev pub assertion : (proofs : Bool) → (name : List ℕ) → Groups → Raw → C.Proof → Reading (List Declaration)
  assertion proofs name gs a p =
      let owner = owned_by false name in
      after (statement owner gs a) (λ s. proved proofs name (before.taken owner + types_in_groups gs + types_in a) s p)

  -- Each function of a block is a constant with a Fix of its own.
  abbrev pub function_constants : (all : List Function) → (which : ℕ) → List (List ℕ) → List Function → List Declaration
  function_constants all which (name ∷ names) (f ∷ fs) =
      transparent (id_named name) (function_type f) (fixpoint which all) ∷ function_constants all (which + 1) names fs
  function_constants all which _ _ = []

  abbrev pub block_of_functions : List (List ℕ) → List Function → List Declaration
  block_of_functions names fs = function_constants fs 0 names fs

  abbrev pub fixpoints : Functions → Reading (List Declaration)
  fixpoints fs =
      let names = known_names (function_names fs) in
      let owner = owned_by false (first_name names) in
      with_part (λ read. block_of_functions names (with_places before.environment read))
      (functions place owner (function_names fs) [] (before.taken owner) fs)

  -- In the types of constructors the types of the block are seen, and the parameters of their own type.
  module _ (owner : Owner) (types : List (List ℕ)) where
    abbrev pub seen : Place
    seen = place_with (map fresh_type types)

    -- Without a type a constructor ends in its own type applied to the parameters.
    abbrev pub conclusion : (name : List ℕ) → (parameters arguments : List Binding) → (first : ℕ) → Option Raw → Reading Tree
    conclusion name ps as_ first None = Ok (apply (ind (id_named name)) (lift_all (length as_) (variables (length ps))))
    conclusion name ps as_ first (Some a) = term seen owner (inside as_ (inside ps [])) first a

    abbrev pub types_in_conclusion : Option Raw → ℕ
    types_in_conclusion None = 0
    types_in_conclusion (Some a) = types_in a

    abbrev pub constructor_declared : (parameters : List Binding) → List ℕ → (arguments : List Binding) → Tree → ConstructorDeclaration
    constructor_declared ps name as_ t = record { id = id_named name; type = products (domains ps) (products (domains as_) t) }

    abbrev pub constructors : (name : List ℕ) → (parameters : List Binding) → (first : ℕ) → List C.Ctor → Reading (List ConstructorDeclaration)
    constructors name ps first [] = Ok []
    constructors name ps first (C.ctor x gs a ∷ cs) =
        after (bindings seen owner (inside ps []) first gs) (λ as_.
        with_parts (λ t cs. constructor_declared ps (text_of x) as_ t ∷ cs)
        (conclusion name ps as_ (first + types_in_groups gs) a)
        (constructors name ps (first + types_in_groups gs + types_in_conclusion a) cs))

    abbrev pub types_in_constructors : List C.Ctor → ℕ
    types_in_constructors [] = 0
    types_in_constructors (C.ctor x gs a ∷ cs) = types_in_groups gs + types_in_conclusion a + types_in_constructors cs

    abbrev pub type_declared : List ℕ → List Binding → Tree → List ConstructorDeclaration → TypeDeclaration
    type_declared name ps arity cs = record { id = id_named name; arity = products (domains ps) arity; constructors = cs }

    abbrev pub type_read : (first : ℕ) → C.Ind → Reading TypeDeclaration
    type_read first (C.ind x gs a cs) =
        after (bindings place owner [] first gs) (λ ps.
        with_parts (type_declared (text_of x) ps)
        (term place owner (inside ps []) (first + types_in_groups gs) a)
        (constructors (text_of x) ps (first + types_in_groups gs + types_in a) cs))

    abbrev pub types_in_type : C.Ind → ℕ
    types_in_type (C.ind x gs a cs) = types_in_groups gs + types_in a + types_in_constructors cs

    abbrev pub types_read : (first : ℕ) → List C.Ind → Reading (List TypeDeclaration)
    types_read first [] = Ok []
    types_read first (i ∷ is) = with_parts (λ t ts. t ∷ ts) (type_read first i) (types_read (first + types_in_type i) is)

  -- The names of the types of a block, and its parameters, which the groups of its first type are.
  abbrev pub type_name : C.Ind → List ℕ
  type_name (C.ind x gs a cs) = text_of x

  abbrev pub parameters_of : List C.Ind → ℕ
  parameters_of [] = 0
  parameters_of (C.ind x gs a cs ∷ is) = width gs

  abbrev pub block : List C.Ind → Reading (List Declaration)
  block is =
      let types = map type_name is in
      let owner = owned_by false (first_name types) in
      with_part (λ ts. inductive (record { parameters = parameters_of is; types = ts }) ∷ [])
      (types_read owner types (before.taken owner) is)

  -- The declarations of a command; `proofs` says whether bodies ended by `Qed` are read.
  abbrev pub declarations : (proofs : Bool) → C.Command → Reading (List Declaration)
  declarations proofs (C.axiom_of gs) = axioms gs
  declarations proofs (C.variable_of gs) = axioms gs
  declarations proofs (C.definition x gs a t) = definition (text_of x) gs a t
  declarations proofs (C.local_of x gs a t) = definition (text_of x) gs a t
  declarations proofs (C.definition_by x gs a p) = assertion proofs (text_of x) gs a p
  declarations proofs (C.theorem x gs a p) = assertion proofs (text_of x) gs a p
  declarations proofs (C.fixpoint fs) = fixpoints fs
  declarations proofs (C.inductive is) = block is
  declarations proofs _ = Ok []

-- The constraints that a command `Constraint` states (Coq Reference Manual, "Sorts": `Constraint`). An equation is two.
abbrev pub level_read : Scope → C.Level → Reading Level
level_read scope C.level_set = Ok Set
level_read scope (C.level_of x) = level_named scope x

abbrev pub related : C.Relation → (left right : Level) → List Constraint
related C.less l r = record { left = l; strict = true; right = r } ∷ []
related C.at_most l r = record { left = l; strict = false; right = r } ∷ []
related C.equal l r = record { left = l; strict = false; right = r } ∷ record { left = r; strict = false; right = l } ∷ []

abbrev pub constraints_of : Scope → List C.Cons → Reading (List Constraint)
constraints_of scope [] = Ok []
constraints_of scope (C.cons l r l' ∷ cs) =
    with_parts (λ here later. here ++ later)
    (with_parts (related r) (level_read scope l) (level_read scope l'))
    (constraints_of scope cs)
