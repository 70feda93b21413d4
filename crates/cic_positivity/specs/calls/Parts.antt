-- Parts of the tests, as the functions that make them up take them.
use Rattle.std.specs.Prelude.{◌≡◌, ℕ, ◌+◌, ◌-◌, Bool, ◌&&◌, nat_eq, nat_le, List, length, map, take}
use Rattle.cic_names.specs.declared.name.GlobalId.{GlobalId}
use Rattle.cic_terms.specs.Tree.{Tree, ind}
use Rattle.cic_rules.specs.Environment.{bare_ids}
use Rattle.cic_rules.specs.Telescopes.{head_of, domains_of, conclusion_of}
use Rattle.cic_counted.specs.Readings.{arguments_of}
use Rattle.cic_counted.specs.Sameness.{same_tree}
use Rattle.cic_counted.specs.BlockTests.{same_trees, parameter_variables}
use Rattle.cic_env.specs.Declarations.{type_declaration}
use Rattle.cic_env.specs.declared.declaration.IndType.{IndType}

-- The ids of the types of a block.
abbrev pub ids_of : List IndType → List GlobalId
ids_of types = bare_ids (map type_declaration types)

-- Whether a type has at least r products, the first r with the domains that the first r products of another have.
abbrev pub begins_alike : (r : ℕ) → (other type : Tree) → Bool
begins_alike r other type =
    nat_le r (length (domains_of type)) && same_trees (take r (domains_of type)) (take r (domains_of other))

-- What is left of a list without so many elements at its end.
abbrev pub WithoutLast : {A : Type 0} → ℕ → List A → List A → Type 0
WithoutLast count all kept = (length all ≡ length kept + count) × (kept ≡ take (length kept) all)

-- Whether arguments are the r parameters as variables under `count` more binders, and then so many indices.
abbrev pub has_arguments : (r count indices : ℕ) → List Tree → Bool
has_arguments r count indices us = nat_eq (length us) (r + indices) && same_trees (take r us) (parameter_variables r count)

-- Whether a type ends in the type `id` applied to the r parameters and to so many indices.
abbrev pub has_conclusion : (r : ℕ) → GlobalId → (indices : ℕ) → Tree → Bool
has_conclusion r id indices type =
    same_tree (head_of (conclusion_of type)) (ind id)
    && has_arguments r (length (domains_of type) - r) indices (arguments_of (conclusion_of type))
