-- What each Fix of a term must have: the function that it names, and the recursive domain of each function.
use Rattle.std.specs.Prelude.{◌<◌, List, [], ◌∷◌, length}
use Rattle.cic_terms.specs.Tree.{Tree, rel, node, Children, no_child, child, Former, FixF, Shape}

-- The recursive domain of each function is one of its domains.
abbrev pub HaveDomains : List Shape → Type 0
HaveDomains [] = Unit {0}
HaveDomains (s ∷ shapes) = (s.k < s.domains) × HaveDomains shapes

-- A Fix names one of its functions.
abbrev pub IsShaped : Former → Type 0
IsShaped (FixF which shapes) = (which < length shapes) × HaveDomains shapes
IsShaped _ = Unit {0}

abbrev mutual
  pub WellShaped : Tree → Type 0
  WellShaped (rel n) = Unit {0}
  WellShaped (node f ks) = IsShaped f × AreWellShaped ks

  pub AreWellShaped : Children → Type 0
  AreWellShaped no_child = Unit {0}
  AreWellShaped (child b t ks) = WellShaped t × AreWellShaped ks
