-- How a sort is printed (Coq Reference Manual, "Polymorphic Universes": `Type@{..}`).
use Rattle.std.specs.Prelude.{List, [], ◌∷◌, ◌++◌, ℕ, Bool, true, false, codes}
use Rattle.cic_names.specs.declared.level.Atom.{Atom}
use Rattle.cic_names.specs.Texts.{level_text}
use Rattle.cic_terms.specs.Tree.{TreeSort, prop, set, typ, own}

-- A successor is marked.
abbrev pub plus_text : Bool → List ℕ
plus_text true = codes "+1"
plus_text false = []

abbrev pub atom_text : Atom → List ℕ
atom_text a = level_text a.level ++ plus_text a.plus

-- Atoms in order, with a comma between two of them.
abbrev pub further_atoms_text : List Atom → List ℕ
further_atoms_text [] = []
further_atoms_text (a ∷ atoms) = codes ", " ++ atom_text a ++ further_atoms_text atoms

abbrev pub atoms_text : List Atom → List ℕ
atoms_text [] = []
atoms_text (a ∷ atoms) = atom_text a ++ further_atoms_text atoms

-- No term of the program has a universe that a derivation brings: it has no text.
abbrev pub sort_text : TreeSort → List ℕ
sort_text prop = codes "Prop"
sort_text set = codes "Set"
sort_text (typ atoms) = codes "Type@{" ++ atoms_text atoms ++ codes "}"
sort_text (own n) = []
