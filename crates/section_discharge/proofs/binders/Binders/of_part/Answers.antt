use Rattle.cic_terms.specs.Denotes.{tree}
use Rattle.section_discharge.specs.calls.Tables.{arguments_of}
use Rattle.section_discharge.specs.calls.Binders.{hypotheses_of}
use Rattle.section_discharge.proofs.Whole.{part_made}
use Rattle.section_discharge.proofs.binders.Binders.of_part.Goals as goal

pub returns : goal.returns
returns c =
    part_made (arguments_of c.args.self.now.table) c.args.self.now.table.keeps (hypotheses_of c.args.self.now.table) (tree c.args.t.now) c.over.result c.requires.keeps c.over.ensures
