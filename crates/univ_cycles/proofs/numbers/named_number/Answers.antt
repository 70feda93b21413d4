-- The level is the one at hand, or the number is that behind it.
use Rattle.std.proofs.Common.{sym, ◌∙◌, true≢false}
use Rattle.cic_names.proofs.Equality.{level_name_equal_decides}
use Rattle.univ_cycles.proofs.Kept.{kept_here, kept_later}
use Rattle.univ_cycles.proofs.numbers.named_number.Goals as goal

pub returns-then-eq : goal.returns-then-eq
returns-then-eq c =
    sym (c.loop-entry.invariant ∙ kept_here _ c.loop-entry.entry-index c.entry-item.result _ c.loop-entry-test.true c.entry-item.is ((level_name_equal_decides _ _).0 (sym c.eq.ensures ∙ c.if-eq.true)))

pub loop-entry-preserved : goal.loop-entry-preserved
loop-entry-preserved c =
    c.loop-entry.invariant ∙ kept_later _ c.loop-entry.entry-index c.entry-item.result _ c.loop-entry-test.true c.entry-item.is
    (λ e. true≢false (sym ((level_name_equal_decides _ _).1 e) ∙ sym c.eq.ensures ∙ c.if-eq.false))
