-- The fault that an answer of a test tells.
use Rattle.std.specs.Prelude.{Option, Some, None}
use Rattle.cic_counted.specs.BlockTests.{ShapeFault, bad_arity_at, bad_constructor_at, PositivityFault}
use Rattle.cic_positivity.specs.declared.shapes.Shape.{Shape}
use Rattle.cic_positivity.specs.declared.shapes.Shape.TheVariants.{Good, BadArity, BadConstructor}
use Rattle.cic_positivity.specs.declared.positivities.Positivity.{Positivity}
use Rattle.cic_positivity.specs.declared.positivities.Positivity.TheVariants.{Yes, No}

abbrev pub shape_fault_in : Shape → Option ShapeFault
shape_fault_in Good = None
shape_fault_in (BadArity index) = Some (bad_arity_at index)
shape_fault_in (BadConstructor index place) = Some (bad_constructor_at index place)

abbrev pub positivity_fault_in : Positivity → Option PositivityFault
positivity_fault_in Yes = None
positivity_fault_in (No index place argument) = Some (record { index = index; place = place; argument = argument })
