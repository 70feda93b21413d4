-- The line is made of its parts.
use Rattle.cic_work.specs.Verdicts.{cause_of}
use Rattle.cic_top.proofs.Printed.{ill_text}
use Rattle.cic_top.proofs.printing.ill_line.Goals as goal

pub returns : goal.returns
returns c =
    ill_text c.args.id.now (cause_of c.args.cause.now) _ _ _
    c.in_ok-text.ensures.ok c.in_ok-push_cause.ensures c.in_ok-push_part.ensures
