-- Matches (Coq Reference Manual, "The match ... with ... end construction"): the type that is matched on, the names of
-- patterns, and branches in any order.
use Rattle.std.specs.Prelude.{ℕ, ◌+◌, ◌-◌, List, [], ◌∷◌, ◌++◌, map, length, reverse, replicate, drop, take, find, nat_eq, Option, Some, None, is_none, Ok, Err, Bool, ◌&&◌, if◌then◌else◌}
use Rattle.std.specs.List.{list_all}
use Rattle.cic_names.specs.declared.name.GlobalId.{GlobalId}
use Rattle.cic_names.specs.Sameness.{same_id}
use Rattle.cic_terms.specs.Tree.{Tree, Children, no_child, child, many, case}
use Rattle.cic_rules.specs.Environment.{TypeDeclaration, ConstructorDeclaration, TypeInBlock, whole_block, Constructor, constructor_of, element}
use Rattle.cic_rules.specs.Telescopes.{domains_of}
use Rattle.gal_grammar.specs.Terms.{Qual, short, Binder, Within, within, Raw, ref, Branches, no_branches, branch}
use Rattle.gal_scoping.specs.Readings.{bad_pattern, Reading, after, with_part}
use Rattle.gal_scoping.specs.Names.{Around, binder_name, written, Place, Meant, global, meant}

-- A constructor or a type has a place for each parameter, and one for each further product of its type as written.
abbrev pub further : (type : Tree) → (parameters : ℕ) → ℕ
further type parameters = length (domains_of type) - parameters

-- What stands at the places: `_` for each parameter, and then the names. A fault names what the places belong to.
abbrev pub names_at : (name : List ℕ) → (parameters : ℕ) → (type : Tree) → List Binder → Reading (List Binder)
names_at name parameters type binders =
    if nat_eq (length binders) (parameters + further type parameters)
    then (if list_all (λ b. is_none (binder_name b)) (take parameters binders)
    then Ok (drop parameters binders)
    else Err (bad_pattern name))
    else Err (bad_pattern name)

-- The type of a match, with the names of its indices.
pub record MatchedType : Type 0 where
  pub id : GlobalId
  pub type : TypeDeclaration
  pub parameters : ℕ
  pub indices : List (Option (List ℕ))

abbrev pub type_of_block : TypeInBlock → Option TypeDeclaration
type_of_block b = element b.block.types b.index

-- A type of a whole block with names for its indices.
abbrev pub with_indices : GlobalId → (parameters : ℕ) → TypeDeclaration → List Binder → MatchedType
with_indices id parameters type names =
    record { id = id; type = type; parameters = parameters; indices = map binder_name names }

abbrev pub named_type_at : (name : List ℕ) → GlobalId → List Binder → (parameters : ℕ) → Option TypeDeclaration → Reading MatchedType
named_type_at name id binders parameters None = Err (bad_pattern name)
named_type_at name id binders parameters (Some type) =
    with_part (with_indices id parameters type) (names_at name parameters type.arity binders)

abbrev pub named_type : (name : List ℕ) → GlobalId → List Binder → Option TypeInBlock → Reading MatchedType
named_type name id binders None = Err (bad_pattern name)
named_type name id binders (Some b) = named_type_at name id binders b.block.parameters (type_of_block b)

-- The id of a global name, and a fault for every other.
abbrev pub global_only : (name : List ℕ) → Meant → Reading GlobalId
global_only name (global id m) = Ok id
global_only name _ = Err (bad_pattern name)

abbrev pub global_meant : Place → Around → Qual → Reading GlobalId
global_meant place around x = after (meant place around x) (global_only (written x))

-- The type behind `in`.
abbrev pub type_within : Place → Around → Within → Reading MatchedType
type_within place around (within x binders) =
    after (global_meant place around x) (λ id. named_type (written x) id binders (whole_block place.environment id))

-- A constructor that a pattern names.
abbrev pub known_constructor : (name : List ℕ) → Option Constructor → Reading Constructor
known_constructor name None = Err (bad_pattern name)
known_constructor name (Some c) = Ok c

abbrev pub constructor_meant : Place → Around → Qual → Reading Constructor
constructor_meant place around x =
    after (global_meant place around x) (λ id. known_constructor (written x) (constructor_of place.environment id))

-- Without `in` the type is that of the constructor of the first pattern, and its indices have no names.
abbrev pub unnamed_type_at : (name : List ℕ) → GlobalId → (parameters : ℕ) → Option TypeDeclaration → Reading MatchedType
unnamed_type_at name id parameters None = Err (bad_pattern name)
unnamed_type_at name id parameters (Some type) =
    Ok (record { id = id; type = type; parameters = parameters; indices = replicate (further type.arity parameters) None })

abbrev pub unnamed_type : (name : List ℕ) → GlobalId → Option TypeInBlock → Reading MatchedType
unnamed_type name id None = Err (bad_pattern name)
unnamed_type name id (Some b) = unnamed_type_at name id b.block.parameters (type_of_block b)

abbrev pub type_of_pattern : Place → Around → Qual → Reading MatchedType
type_of_pattern place around x =
    after (constructor_meant place around x) (λ c. unnamed_type (written x) c.owner (whole_block place.environment c.owner))

abbrev pub first_pattern : Branches → Option Qual
first_pattern no_branches = None
first_pattern (branch no_branches c xs t) = Some c
first_pattern (branch bs c xs t) = first_pattern bs

-- No match has neither an `in` nor a branch.
abbrev pub type_of_branches : Place → Around → Option Qual → Reading MatchedType
type_of_branches place around None = Err (bad_pattern [])
type_of_branches place around (Some x) = type_of_pattern place around x

abbrev pub matched_type : Place → Around → Option Within → Branches → Reading MatchedType
matched_type place around (Some i) bs = type_within place around i
matched_type place around None bs = type_of_branches place around (first_pattern bs)

-- The name of the value in the type behind `return`: that behind `as`, or the value itself where it is a single name.
abbrev pub value_name : (value : Raw) → (as_name : Option Binder) → Option (List ℕ)
value_name value (Some x) = binder_name x
value_name (ref (short place name)) None = Some name
value_name value None = None

-- The names around the type behind `return`: the value's inside those of the indices. Of a type that is not known no
-- index has a name.
abbrev pub index_names : Reading MatchedType → List (Option (List ℕ))
index_names (Ok type) = type.indices
index_names (Err fault) = []

abbrev pub around_motive : Around → Reading MatchedType → Option (List ℕ) → Around
around_motive around type value = value ∷ (reverse (index_names type) ++ around)

-- The type is read behind the value where it stands behind `in`, and else behind the motive.
abbrev pub type_and_motive : Option Within → Reading MatchedType → Reading Tree → (MatchedType → Tree → Reading Tree) → Reading Tree
type_and_motive (Some i) type motive next = after type (λ t. after motive (next t))
type_and_motive None type motive next = after motive (λ m. after type (λ t. next t m))

-- A branch that was read: the place of its constructor, how many names it binds, and its body.
pub record ReadBranch : Type 0 where
  pub place : ℕ
  pub binders : ℕ
  pub body : Tree

abbrev pub has_place : ℕ → ReadBranch → Bool
has_place place b = nat_eq place b.place

-- A pattern: its constructor, which belongs to the type and has no branch yet, and the names of the arguments.
pub record Pattern : Type 0 where
  pub place : ℕ
  pub names : List Binder

abbrev pub pattern_of : (name : List ℕ) → MatchedType → List ReadBranch → List Binder → Constructor → Reading Pattern
pattern_of name type done binders c =
    if same_id type.id c.owner && is_none (find (has_place c.place) done)
    then with_part (λ names. record { place = c.place; names = names }) (names_at name c.parameters c.type binders)
    else Err (bad_pattern name)

abbrev pub pattern_read : Place → Around → MatchedType → List ReadBranch → Qual → List Binder → Reading Pattern
pattern_read place around type done x binders =
    after (constructor_meant place around x) (pattern_of (written x) type done binders)

abbrev pub around_branch : Around → Pattern → Around
around_branch around p = reverse (map binder_name p.names) ++ around

abbrev pub with_branch : List ReadBranch → Pattern → Tree → List ReadBranch
with_branch done p body = done ++ (record { place = p.place; binders = length p.names; body = body } ∷ [])

-- The branches in the order of the constructors. A constructor without a branch is the fault.
abbrev pub onto_parts : (name : List ℕ) → Option ReadBranch → Reading Children → Reading Children
onto_parts name None rest = Err (bad_pattern name)
onto_parts name (Some b) rest = with_part (child (many b.binders) b.body) rest

abbrev pub in_order : List ReadBranch → (place : ℕ) → List ConstructorDeclaration → Reading Children
in_order done place [] = Ok no_child
in_order done place (c ∷ cs) = onto_parts c.id.name (find (has_place place) done) (in_order done (place + 1) cs)

abbrev pub case_of : MatchedType → (value motive : Tree) → List ReadBranch → Reading Tree
case_of type value motive done =
    with_part (case type.id (length type.indices) motive value) (in_order done 0 type.type.constructors)
