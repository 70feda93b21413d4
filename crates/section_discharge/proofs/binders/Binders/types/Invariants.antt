use Rattle.section_terms.specs.Discharge.{generalised_type_declaration}
use Rattle.cic_env.specs.Declarations.{type_declaration}
use Rattle.section_discharge.specs.calls.Tables.{arguments_of}
use Rattle.section_discharge.specs.calls.Binders.{hypotheses_of}
use Rattle.section_discharge.specs.calls.Parts.{TypeFits}
use Rattle.section_discharge.proofs.Gathered.{Gathered}
use Rattle.section_discharge.proofs.binders.Binders.types.Given as goal

abbrev pub invariant-loop-ty : goal.invariant-loop-ty
invariant-loop-ty l = Gathered type_declaration (generalised_type_declaration (arguments_of l.self.table) (hypotheses_of l.self.table)) TypeFits l.types l.ty-index l.made.items
