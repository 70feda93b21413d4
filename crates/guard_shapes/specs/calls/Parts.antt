-- The arms of the shape of a type, as the functions that make them up take them.
use Rattle.std.specs.Prelude.{ℕ, Bool, true, false, Option, None, List}
use Rattle.cic_names.specs.declared.name.GlobalId.{GlobalId}
use Rattle.cic_terms.specs.Tree.{Tree}
use Rattle.cic_rules.specs.Environment.{Environment}
use Rattle.cic_rules.specs.Shapes.{GuardShape, GuardShapes, no_more, unshaped, shape_at, shape_of_type}

abbrev pub is_empty : GuardShapes → Bool
is_empty no_more = true
is_empty _ = false

-- The shape of a variable, and that of a product by its codomain, under arguments.
abbrev pub shape_of_variable : (variables arguments : GuardShapes) → ℕ → Option GuardShape
shape_of_variable variables no_more x = shape_at variables x
shape_of_variable variables _ x = None

abbrev pub shape_of_codomain : Environment → (own : List GlobalId) → (variables arguments : GuardShapes) → Tree → Option GuardShape
shape_of_codomain E own variables no_more b = shape_of_type E own (unshaped variables) no_more b
shape_of_codomain E own variables _ b = None
