-- Each Fix in a term has as many parts as its shapes say. So it has in a term that has a type; the test of the guard is
-- exact for such terms, since its walk over a Fix goes by the shapes.
use Rattle.std.specs.Prelude.{ℕ, ◌+◌, ◌≡◌, List, [], ◌∷◌, length}
use Rattle.cic_terms.specs.Tree.{Shape, Former, FixF, Tree, rel, node, Children, no_child, child}
use Rattle.cic_counted.specs.Readings.{trees_of}

-- The parts of each function are its domains, its codomain and its body.
abbrev pub part_count : List Shape → ℕ
part_count [] = 0
part_count (s ∷ ss) = s.domains + 2 + part_count ss

abbrev pub HasItsParts : Former → Children → Type 0
HasItsParts (FixF which shapes) ks = part_count shapes ≡ length (trees_of ks)
HasItsParts f ks = Unit {0}

abbrev mutual
  pub HasAllParts : Tree → Type 0
  HasAllParts (rel x) = Unit {0}
  HasAllParts (node f ks) = HasItsParts f ks × PartsHaveAllParts ks

  pub PartsHaveAllParts : Children → Type 0
  PartsHaveAllParts no_child = Unit {0}
  PartsHaveAllParts (child b t ks) = HasAllParts t × PartsHaveAllParts ks
