use Rattle.std.proofs.Common.{sym}
use Rattle.cic_terms.specs.calls.Answer.{body_after}
use Rattle.cic_terms.proofs.gathering.add_body.Goals as goal

pub returns-clause-ok : goal.returns-clause-ok
returns-clause-ok c = record {
  added = body_after c.args.one.now c.in_ok-new.new;
  has_parts = c.in_ok-new.ensures.ok;
  is_last = rw (sym c.take.ensures.value) c.in_ok-made.ensures.ok;
}
