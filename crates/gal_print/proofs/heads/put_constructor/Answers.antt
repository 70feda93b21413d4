-- The constructor at a place is the first of those from there on.
use Rattle.std.proofs.Common.{sym, ap, ◌∙◌, ltb-true}
use Rattle.std.specs.Prelude.{is_some}
use Rattle.gal_print.proofs.Fronts.{on_ok_more, puts_as}
use Rattle.gal_print.proofs.Shown.{head_at}
use Rattle.gal_print.proofs.heads.put_constructor.Goals as goal

pub returns-in-Some-clause-puts : goal.returns-in-Some-clause-puts
returns-in-Some-clause-puts c =
    on_ok_more c.put.result c.put.ensures.puts
    (puts_as _ _ _ _ (sym (head_at c.args.heads.now.ctors.now c.args.i c.in-Some.ctor.now
    (ltb-true _ _ (sym c.get.ensures.lookup.0 ∙ ap is_some c.in-Some.is)) c.in-Some.ensures.lookup.1)))
