-- Reading declarations of a library, behind those that declare the names seen.
use Rattle.std.specs.Prelude.{ℕ, ◌==◌, List, [], ◌∷◌, ◌++◌, length, if◌then◌else◌, not, None}
use Rattle.cic_names.specs.declared.name.GlobalId.{GlobalId}
use Rattle.cic_rules.specs.Environment.{ConstructorDeclaration, TypeDeclaration, Declaration, axiom_of, transparent, opaque, inductive}
use Rattle.seg_format.specs.declared.faults.Defect.TheVariants.{Tag, Number}
use Rattle.seg_format.specs.declared.faults.Defect.TheVariants.{Name as NoName}
use Rattle.term_format.specs.Storable.{most_number}
use Rattle.term_format.specs.Reading.{Reading, value, wrong, and_then, if_right, read_byte, read_number, read_limited, read_name}
use Rattle.term_format.specs.TermReading.{read_whole_term}
use Rattle.lib_format.specs.Lists.{read_list, read_some}
use Rattle.lib_format.specs.DeclarationBytes.{is_among, constructor_names, block_names, all_names, opaques_of}

-- A name that is not among those seen.
unfoldable pub read_new_name : (seen : List (List ℕ)) → List ℕ → Reading (List ℕ)
read_new_name seen bytes =
    and_then (read_name bytes) (λ name rest. if_right (not (is_among seen name)) NoName bytes (value name rest))

-- Such a name of the library.
unfoldable pub read_new : (library : List ℕ) → (seen : List (List ℕ)) → List ℕ → Reading GlobalId
read_new library seen bytes =
    and_then (read_new_name seen bytes) (λ name rest. value (record { lib = library; name = name }) rest)

unfoldable pub read_constructor : (library : List ℕ) → (seen : List (List ℕ)) → List ℕ → Reading ConstructorDeclaration
read_constructor library seen bytes =
    and_then (read_new library seen bytes) (λ id rest.
    and_then (read_whole_term rest) (λ type rest.
    value (record { id = id; type = type }) rest))

-- The constructors of a type, each behind those before.
abbrev pub next_constructor : (library : List ℕ) → (seen : List (List ℕ)) → (before : List ConstructorDeclaration) → List ℕ → Reading ConstructorDeclaration
next_constructor library seen before = read_constructor library (seen ++ constructor_names before)

abbrev pub read_constructors : (library : List ℕ) → (seen : List (List ℕ)) → List ℕ → Reading (List ConstructorDeclaration)
read_constructors library seen = read_list (next_constructor library seen)

unfoldable pub read_inductive_type : (library : List ℕ) → (seen : List (List ℕ)) → List ℕ → Reading TypeDeclaration
read_inductive_type library seen bytes =
    and_then (read_new library seen bytes) (λ id rest.
    and_then (read_whole_term rest) (λ arity rest.
    and_then (read_constructors library (seen ++ id.name ∷ []) rest) (λ constructors rest.
    value (record { id = id; arity = arity; constructors = constructors }) rest)))

-- The types of a block, each behind those before.
abbrev pub next_type : (library : List ℕ) → (seen : List (List ℕ)) → (before : List TypeDeclaration) → List ℕ → Reading TypeDeclaration
next_type library seen before = read_inductive_type library (seen ++ block_names before)

abbrev pub read_inductive_types : (library : List ℕ) → (seen : List (List ℕ)) → List ℕ → Reading (List TypeDeclaration)
read_inductive_types library seen = read_some (next_type library seen)

-- The kinds of declarations, after the byte of the kind.
unfoldable pub read_axiom : (library : List ℕ) → (seen : List (List ℕ)) → List ℕ → Reading Declaration
read_axiom library seen bytes =
    and_then (read_new library seen bytes) (λ id rest.
    and_then (read_whole_term rest) (λ type rest.
    value (axiom_of id type) rest))

unfoldable pub read_transparent : (library : List ℕ) → (seen : List (List ℕ)) → List ℕ → Reading Declaration
read_transparent library seen bytes =
    and_then (read_new library seen bytes) (λ id rest.
    and_then (read_whole_term rest) (λ type rest.
    and_then (read_whole_term rest) (λ body rest.
    value (transparent id type body) rest)))

-- The place of the body counts the bodies before it.
unfoldable pub read_place : (index : ℕ) → List ℕ → Reading ℕ
read_place index bytes = and_then (read_number bytes) (λ n rest. if_right (n == index) Number bytes (value n rest))

unfoldable pub read_opaque : (library : List ℕ) → (seen : List (List ℕ)) → (index : ℕ) → List ℕ → Reading Declaration
read_opaque library seen index bytes =
    and_then (read_new library seen bytes) (λ id rest.
    and_then (read_whole_term rest) (λ type rest.
    and_then (read_place index rest) (λ n rest.
    value (opaque id type None) rest)))

unfoldable pub read_block : (library : List ℕ) → (seen : List (List ℕ)) → List ℕ → Reading Declaration
read_block library seen bytes =
    and_then (read_limited most_number bytes) (λ parameters rest.
    and_then (read_inductive_types library seen rest) (λ types rest.
    value (inductive (record { parameters = parameters; types = types })) rest))

-- What follows the byte of a declaration's kind. `bytes` begin with that byte.
unfoldable pub kind_of : (library : List ℕ) → (seen : List (List ℕ)) → (index : ℕ) → (bytes : List ℕ) → (tag : ℕ) → List ℕ → Reading Declaration
kind_of library seen index bytes tag rest =
    if tag == 1 then read_axiom library seen rest
    else if tag == 2 then read_transparent library seen rest
    else if tag == 3 then read_opaque library seen index rest
    else if tag == 4 then read_block library seen rest
    else wrong Tag (length bytes)

-- A declaration behind `index` constants that do not unfold.
unfoldable pub read_declaration : (library : List ℕ) → (seen : List (List ℕ)) → (index : ℕ) → List ℕ → Reading Declaration
read_declaration library seen index bytes = and_then (read_byte bytes) (kind_of library seen index bytes)

-- Declarations in order, each behind those before.
abbrev pub next_declaration : (library : List ℕ) → (before : List Declaration) → List ℕ → Reading Declaration
next_declaration library before = read_declaration library (all_names before) (opaques_of before)

abbrev pub read_declarations : (library : List ℕ) → List ℕ → Reading (List Declaration)
read_declarations library = read_list (next_declaration library)
