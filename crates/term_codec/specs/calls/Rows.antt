-- The rows of the table that take the same parts.
use Rattle.std.specs.Prelude.{ℕ, ◌==◌, if◌then◌else◌}
use Rattle.cic_names.specs.declared.name.GlobalId.{GlobalId}
use Rattle.cic_terms.specs.Tree.{Tree, prod, lam, app, const, ind, ctor}

-- The term of two parts that a byte stands for: a product, an abstraction, or else an application.
abbrev pub pair_of : (tag : ℕ) → Tree → Tree → Tree
pair_of tag a b = if tag == 4 then prod a b else if tag == 5 then lam a b else app a b

-- The term of an id that a byte stands for: a constant, an inductive type, or else a constructor.
abbrev pub global_of : (tag : ℕ) → GlobalId → Tree
global_of tag id = if tag == 8 then const id else if tag == 9 then ind id else ctor id
