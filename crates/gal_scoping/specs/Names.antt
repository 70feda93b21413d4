-- What a name stands for (Coq Reference Manual, "Libraries and qualified names"): it is sought among the binders
-- around it, then among the library's own names, then among those that imports bring.
use Rattle.std.specs.Prelude.{ℕ, zero, suc, List, [], ◌∷◌, Option, Some, None, option_map, filter, find, length, Bool, not, ◌&&◌, if◌then◌else◌, nat_eq, leb, Ok, Err}
use Rattle.std.specs.List.{list_any}
use Rattle.cic_names.specs.declared.name.GlobalId.{GlobalId}
use Rattle.cic_names.specs.Sameness.{same_name, same_id}
use Rattle.cic_names.specs.Identifier.{is_identifier}
use Rattle.cic_terms.specs.Tree.{Tree, rel, const, ind, ctor}
use Rattle.cic_rules.specs.Environment.{Environment, Meaning, constant, whole_type, bare_type, constructor, meaning}
use Rattle.gal_grammar.specs.Terms.{Qual, short, long, Binder, bound, blank, Named, named}
use Rattle.gal_scoping.specs.Scopes.{Scope}
use Rattle.gal_scoping.specs.Readings.{unknown, ambiguous, Reading, after}

-- The names of the binders around a place, the innermost first. Some have none.
abbrev pub Around : Type 0
Around = List (Option (List ℕ))

abbrev pub text_of : Named → List ℕ
text_of (named place text) = text

abbrev pub binder_name : Binder → Option (List ℕ)
binder_name (bound x) = Some (text_of x)
binder_name blank = None

-- A name as it is written.
abbrev pub written : Qual → List ℕ
written (short place text) = text
written (long place text) = text

abbrev pub has_name : List ℕ → Option (List ℕ) → Bool
has_name name None = Bool.false
has_name name (Some other) = same_name name other

-- The innermost binder of this name.
abbrev pub variable_of : Around → List ℕ → Option ℕ
variable_of [] name = None
variable_of (binder ∷ around) name = if has_name name binder then Some zero else option_map suc (variable_of around name)

-- A name that the command at hand declares before or with the place: of a constant, or of a type of its block.
pub data Fresh : Type 0 where
  fresh_constant : List ℕ → Fresh
  fresh_type : List ℕ → Fresh

abbrev pub fresh_name : Fresh → List ℕ
fresh_name (fresh_constant name) = name
fresh_name (fresh_type name) = name

abbrev pub fresh_tree : (library : List ℕ) → Fresh → Tree
fresh_tree library (fresh_constant name) = const (record { lib = library; name = name })
fresh_tree library (fresh_type name) = ind (record { lib = library; name = name })

-- The identifiers that a qualified name is made of.
abbrev pub onto_first : ℕ → List (List ℕ) → List (List ℕ)
onto_first c [] = (c ∷ []) ∷ []
onto_first c (word ∷ words) = (c ∷ word) ∷ words

abbrev pub words_of : List ℕ → List (List ℕ)
words_of [] = [] ∷ []
words_of (c ∷ cs) = if nat_eq c 46 then [] ∷ words_of cs else onto_first c (words_of cs)

-- A qualified name is `A.c`, or `P.A.c` where P is the prefix.
abbrev pub qualified_id : Scope → List (List ℕ) → Option GlobalId
qualified_id scope (library ∷ name ∷ []) = Some (record { lib = library; name = name })
qualified_id scope (prefix ∷ library ∷ name ∷ []) =
    if has_name prefix scope.prefix then Some (record { lib = library; name = name }) else None
qualified_id scope _ = None

abbrev pub has_own : List (List ℕ) → List ℕ → Bool
has_own own name = list_any (same_name name) own

-- A name: an identifier of at most 255 bytes.
abbrev pub is_name : List ℕ → Bool
is_name text = is_identifier text && leb (length text) 255

-- What may be written for the id: a live name of the library itself, or a name in an allowed library.
abbrev pub may_be_written : Scope → GlobalId → Bool
may_be_written scope id =
    if same_name scope.library id.lib then has_own scope.own id.name
    else (is_name id.name && list_any (λ a. same_name id.lib a.library) scope.allowed)

abbrev pub qualified : Scope → (name : List ℕ) → Option GlobalId → Reading GlobalId
qualified scope name None = Err (unknown name)
qualified scope name (Some id) = if may_be_written scope id then Ok id else Err (unknown name)

-- What imports bring for a name: one id, as often as it is brought, or two different ones.
abbrev pub one_of : (name : List ℕ) → (id : GlobalId) → (different : Option GlobalId) → Reading GlobalId
one_of name id None = Ok id
one_of name id (Some other) = Err (ambiguous name id other)

abbrev pub imported : (name : List ℕ) → List GlobalId → Reading GlobalId
imported name [] = Err (unknown name)
imported name (id ∷ ids) = one_of name id (find (λ other. not (same_id id other)) ids)

abbrev pub named_id : (own : List (List ℕ)) → (brought : List GlobalId) → (library : List ℕ) → (name : List ℕ) → Reading GlobalId
named_id own brought library name =
    if has_own own name then Ok (record { lib = library; name = name })
    else imported name (filter (λ id. same_name name id.name) brought)

-- The id that a name stands for where no binder has it.
abbrev pub global_id : Scope → Qual → Reading GlobalId
global_id scope (short place name) = named_id scope.own scope.brought scope.library name
global_id scope (long place name) = qualified scope name (qualified_id scope (words_of name))

-- A place: what names mean there, what is declared before it, and what the command at hand has declared so far.
pub record Place : Type 0 where
  pub scope : Scope
  pub environment : Environment
  pub fresh : List Fresh

-- What a name stands for.
pub data Meant : Type 0 where
  variable : ℕ → Meant
  of_command : Fresh → Meant
  global : GlobalId → Meaning → Meant

abbrev pub of_meaning : (name : List ℕ) → GlobalId → Option Meaning → Reading Meant
of_meaning name id None = Err (unknown name)
of_meaning name id (Some m) = Ok (global id m)

abbrev pub fresh_of : List Fresh → List ℕ → Option Fresh
fresh_of fresh name = find (λ f. same_name name (fresh_name f)) fresh

abbrev pub outside_binders : Place → Qual → Option Fresh → Reading Meant
outside_binders place x (Some f) = Ok (of_command f)
outside_binders place x None =
    after (global_id place.scope x) (λ id. of_meaning (written x) id (meaning place.environment id))

abbrev pub around_or_outside : Place → Qual → Option ℕ → Reading Meant
around_or_outside place x (Some i) = Ok (variable i)
around_or_outside place x None = outside_binders place x (fresh_of place.fresh (written x))

abbrev pub meant : Place → Around → Qual → Reading Meant
meant place around (short at name) = around_or_outside place (short at name) (variable_of around name)
meant place around (long at name) = outside_binders place (long at name) None

-- The term that a name stands for.
abbrev pub meaning_tree : GlobalId → Meaning → Tree
meaning_tree id (constant type body) = const id
meaning_tree id (whole_type block index) = ind id
meaning_tree id (bare_type block index) = ind id
meaning_tree id (constructor block index place) = ctor id

abbrev pub meant_tree : Place → Meant → Tree
meant_tree place (variable i) = rel i
meant_tree place (of_command f) = fresh_tree place.scope.library f
meant_tree place (global id m) = meaning_tree id m
