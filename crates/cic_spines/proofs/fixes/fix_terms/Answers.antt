use Rattle.std.proofs.Common.{ap, sym, ◌∙◌}
use Rattle.cic_terms.specs.Denotes.{shapes, bodies}
use Rattle.cic_spines.proofs.FixParts.{fixes_begin, fixes_more}
use Rattle.cic_spines.proofs.fixes.fix_terms.Goals as goal

pub loop-which-init : goal.loop-which-init
loop-which-init c =
    let read = ap shapes (sym c.deref.ensures) ∙ c.as_slice.ensures.shapes in
    let known = c.in-Ok.ensures in
    fixes_begin c.new-found.result.items c.in-Ok.count c.as_slice.result.now _ (bodies c.args.all.now.value) c.new-found.ensures.items read known.1

pub loop-which-preserved : goal.loop-which-preserved
loop-which-preserved c =
    fixes_more c.loop-which.found.items _ c.in_ok-fix_term.field-0 c.in-Ok.count c.loop-which.which _ _ _
    c.in_ok-push.ensures.items c.in_ok-fix_term.ensures c.loop-which-test.true c.loop-which.invariant
