-- The term of a match, as far as its parts are within the limits.
use Rattle.std.specs.Prelude.{ℕ, zero, suc, ◌+◌, List, [], ◌∷◌, length, Option, Some, None, is_none, Ok, Err, if◌then◌else◌}
use Rattle.std.specs.Option.{option_map, option_and_then}
use Rattle.cic_terms.specs.Tree.{Tree, Children, no_child, child, many, case}
use Rattle.cic_terms.specs.Denotes.{branch_list}
use Rattle.cic_rules.specs.Environment.{ConstructorDeclaration}
use Rattle.gal_scoping.specs.Readings.{bad_pattern, Reading}
use Rattle.gal_scoping.specs.Matches.{MatchedType}
use Rattle.elab_parts.specs.calls.Parts.{cut}
use Rattle.elab_matches.specs.declared.sized.Cases.{Cases}
use Rattle.elab_matches.specs.calls.Branches.{KnownBranch, branch_of}

-- The name of the first constructor without a branch.
abbrev pub missing : List KnownBranch → (place : ℕ) → List ConstructorDeclaration → Option (List ℕ)
missing done place [] = None
missing done place (c ∷ cs) =
    if is_none (branch_of done place) then Some c.id.name else missing done (place + 1) cs

-- The branches of so many constructors in their order, where all their bodies are there.
abbrev pub onto_known : Option KnownBranch → Option Children → Option Children
onto_known None rest = None
onto_known (Some b) rest = option_and_then (λ t. option_map (child (many b.binders) t) rest) b.body

abbrev pub known_in_order : List KnownBranch → (place count : ℕ) → Option Children
known_in_order done place zero = Some no_child
known_in_order done place (suc n) = onto_known (branch_of done place) (known_in_order done (place + 1) n)

abbrev pub parts_of : Option Cases → Option Children
parts_of = option_map (λ c. branch_list c.items.items)

-- The term of these parts.
abbrev pub case_if : MatchedType → (value motive : Option Tree) → Option Children → Option Tree
case_if type (Some value) (Some motive) (Some branches) = cut (case type.id (length type.indices) motive value branches)
case_if type _ _ _ = None

abbrev pub where_none : Option (List ℕ) → Option Tree → Reading (Option Tree)
where_none (Some name) made = Err (bad_pattern name)
where_none None made = Ok made

abbrev pub known_case : MatchedType → (value motive : Option Tree) → List KnownBranch → Reading (Option Tree)
known_case type value motive done =
    where_none (missing done 0 type.type.constructors)
    (case_if type value motive (known_in_order done 0 (length type.type.constructors)))
