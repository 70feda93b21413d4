-- Layers in which one list is kept for several ids.
use Rattle.std.specs.Prelude.{◌≡◌, List, ◌∷◌, reverse}
use Rattle.cic_names.specs.declared.name.GlobalId.{GlobalId}
use Rattle.section_uses.specs.Kept.{Layer, layered}
use Rattle.section_core.specs.Sections.{giving}

-- The last layer keeps the names for these ids, and for others what it kept.
pub record PutsAll (ids names : List GlobalId) (old new : List Layer) : Type 0 where
  pub earlier : List Layer
  pub last : Layer
  pub changed : Layer
  pub was : reverse old ≡ last ∷ earlier
  pub is : reverse new ≡ changed ∷ earlier
  pub gives : (below : GlobalId → List GlobalId) (id : GlobalId) → layered below changed id ≡ giving ids names (layered below last) id
