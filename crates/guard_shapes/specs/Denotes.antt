-- The shapes that those of the program stand for.
use Rattle.std.specs.Prelude.{List, map}
use Rattle.std.specs.declared.rc.Rc.{Rc}
use Rattle.std.specs.declared.alloc.Global.{Global}
use Rattle.cic_names.specs.declared.name.GlobalId.{GlobalId}
use Rattle.cic_rules.specs.Environment.{bare_ids}
use Rattle.cic_rules.specs.Shapes.{GuardShape, own_block, nest, GuardShapes, no_more, unshaped, shaped}
use Rattle.cic_env.specs.Declarations.{type_declaration}
use Rattle.cic_env.specs.declared.declaration.IndType.{IndType}
use Rattle.guard_shapes.specs.declared.rows.TypeShape.{TypeShape, Own, Nest'}
use Rattle.guard_shapes.specs.declared.rows.ShapeRow.{ShapeRow, Empty, Unshaped', Shaped'}

abbrev mutual
  pub guard_shape : TypeShape → GuardShape
  guard_shape Own = own_block
  guard_shape (Nest' types _ parameters) = nest types.value.items (guard_shapes parameters)

  pub guard_shapes : ShapeRow → GuardShapes
  guard_shapes Empty = no_more
  guard_shapes (Unshaped' _ rest) = unshaped (guard_shapes rest)
  guard_shapes (Shaped' _ s _ rest) = shaped (guard_shape s) (guard_shapes rest)

abbrev pub shared_shape : Rc TypeShape Global → GuardShape
shared_shape s = guard_shape s.value

abbrev pub shared_shapes : Rc ShapeRow Global → GuardShapes
shared_shapes ss = guard_shapes ss.value

-- The ids of types of a block.
abbrev pub ids_of : List IndType → List GlobalId
ids_of types = bare_ids (map type_declaration types)
