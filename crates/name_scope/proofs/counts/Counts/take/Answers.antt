use Rattle.std.proofs.Common.{◌≡◌, ◌∙◌, ap, cond, List, ℕ}
use Rattle.std.specs.Prelude.{Some}
use Rattle.std.specs.Map.{lookup}
use Rattle.cic_names.specs.Sameness.{same_name}
use Rattle.name_scope.specs.Counting.{count_or_none, with_more}
use Rattle.name_scope.specs.declared.counts.Count.{Count}
use Rattle.name_scope.proofs.CountLaws.{takes}
use Rattle.name_scope.proofs.counts.Counts.take.Goals as goal

pub returns-clause-takes : goal.returns-clause-takes
returns-clause-takes c =
    let old = c.args.self.now.of.entries in
    let taken : c.with_more-taken.result ≡ with_more c.args.opaque c.args.count (count_or_none (lookup (same_name c.args.owner.now) old)) =
    c.with_more-taken.ensures ∙ ap (with_more c.args.opaque c.args.count) c.of_owner.ensures in
    takes old c.insert.new.self.entries (record { name = c.args.owner.now; opaque = c.args.opaque }) c.args.count
    (λ q.
    c.in_ok-insert.ensures.updates.0 q
    ∙ ap (λ (n : List ℕ). cond (same_name n q) (Some c.with_more-taken.result) (lookup (same_name q) old)) c.in_ok-owner.ensures.cases
    ∙ ap (λ (v : Count). cond (same_name c.args.owner.now q) (Some v) (lookup (same_name q) old)) taken)
