-- Binders that are read, as far as their types are within the limits.
use Rattle.std.specs.Prelude.{ℕ, ◌+◌, List, [], ◌∷◌, ◌++◌, map, reverse, Option}
use Rattle.std.specs.Option.{option_copied}
use Rattle.cic_terms.specs.Tree.{Tree}
use Rattle.gal_grammar.specs.Terms.{Binder}
use Rattle.gal_scoping.specs.Names.{Around, binder_name}
use Rattle.gal_scoping.specs.Fixpoints.{Binding as Read}
use Rattle.elab_parts.specs.declared.binding.Binding.{Binding}
use Rattle.elab_parts.specs.calls.Parts.{known, cut, of_two, lifted}

pub record KnownBinding : Type 0 where
  pub name : Option (List ℕ)
  pub type : Option Tree

abbrev pub known_binding : Binding → KnownBinding
known_binding b = record { name = option_copied b.name; type = known b.ty }

abbrev pub cut_binding : Read → KnownBinding
cut_binding b = record { name = b.name; type = cut b.type }

-- The binders of one group.
abbrev pub bindings_known : (passed : ℕ) → List Binder → Option Tree → List KnownBinding
bindings_known passed [] type = []
bindings_known passed (x ∷ xs) type = record { name = binder_name x; type = lifted passed type } ∷ bindings_known (passed + 1) xs type

-- Terms of two parts over the binders' types.
abbrev pub over_all : (Tree → Tree → Tree) → List KnownBinding → Option Tree → Option Tree
over_all make [] t = t
over_all make (b ∷ bs) t = of_two make b.type (over_all make bs t)

-- The names around what stands inside the binders.
abbrev pub known_inside : List KnownBinding → Around → Around
known_inside bs around = reverse (map (λ b. b.name) bs) ++ around
