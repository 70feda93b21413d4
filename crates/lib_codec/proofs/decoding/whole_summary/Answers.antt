use Rattle.std.proofs.Common.{drop, arith}
use Rattle.term_codec.proofs.Refusing.{trails}
use Rattle.lib_format.specs.Contents.{summary_contents}
use Rattle.lib_format.specs.ContentsReading.{read_summary}
use Rattle.lib_codec.proofs.Stored.{stored_summary}
use Rattle.lib_codec.proofs.decoding.whole_summary.Goals as goal

pub returns-then-place-b-clause-stops : goal.returns-then-place-b-clause-stops
returns-then-place-b-clause-stops c =
    (trails c.args.b.now c.read_summary.new.place (read_summary c.args.b.now) (summary_contents c.in_ok-summary.summary) c.in_ok-summary.ensures.ok c.if-place-b.true, c.in_ok-summary.ensures.within)

pub returns-clause-storable : goal.returns-clause-storable
returns-clause-storable c = stored_summary c.args.b.now (summary_contents c.in_ok-summary.summary) (drop c.read_summary.new.place c.args.b.now) (λ i. let h = c.type_inv.b i in omega (arith, h)) c.in_ok-summary.ensures.ok
