use Rattle.section_terms.specs.Discharge.{generalised_constructor}
use Rattle.cic_env.specs.Declarations.{constructor_declaration}
use Rattle.section_discharge.specs.calls.Tables.{arguments_of}
use Rattle.section_discharge.specs.calls.Binders.{hypotheses_of}
use Rattle.section_discharge.specs.calls.Parts.{ConstructorFits}
use Rattle.section_discharge.proofs.Gathered.{Gathered}
use Rattle.section_discharge.proofs.binders.Binders.constructors.Given as goal

abbrev pub invariant-loop-ctor : goal.invariant-loop-ctor
invariant-loop-ctor l = Gathered constructor_declaration (generalised_constructor (arguments_of l.self.table) (hypotheses_of l.self.table)) ConstructorFits l.ctors l.ctor-index l.made.items
