-- How layers of lists change.
use Rattle.std.specs.Prelude.{◌≡◌, List, [], ◌∷◌, ◌++◌, Vec}
use Rattle.std.specs.declared.rc.Rc.{Rc}
use Rattle.std.specs.declared.alloc.Global.{Global}
use Rattle.indexmap.specs.IndexMap.{insert_entry}
use Rattle.cic_names.specs.declared.name.GlobalId.{GlobalId}
use Rattle.cic_names.specs.Sameness.{same_id}
use Rattle.section_uses.specs.Kept.{Layer}

-- The names are kept for the id in the last layer.
pub record PutsLast (id : GlobalId) (names : Rc (Vec GlobalId Global) Global) (old new : List Layer) : Type 0 where
  pub before : List Layer
  pub last : Layer
  pub was : old ≡ before ++ last ∷ []
  pub is : new ≡ before ++ insert_entry same_id last id names ∷ []

-- The last layer is gone.
pub record LosesLast (old new : List Layer) : Type 0 where
  pub last : Layer
  pub was : old ≡ new ++ last ∷ []
