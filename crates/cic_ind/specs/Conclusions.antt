-- What the conclusion of a constructor's type is made of.
use Rattle.std.specs.Prelude.{Bool, true, false}
use Rattle.cic_terms.specs.Tree.{Tree, ind}

-- Whether a term is an inductive type.
abbrev pub is_type : Tree → Bool
is_type (ind id) = true
is_type t = false
