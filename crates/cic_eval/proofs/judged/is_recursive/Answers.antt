use Rattle.std.proofs.Common.{◌≡◌, ℕ, ◌<◌, min, nat_eq, arith, length}
use Rattle.std.proofs.lemmas.Bool.Decides.{nat_tests}
use Rattle.cic_terms.specs.Denotes.{tree}
use Rattle.cic_counted.specs.Readings.{arguments_of}
use Rattle.cic_eval.proofs.judged.is_recursive.Goals as goal

counts_enough : (n k m p : ℕ) → k < 4294967296 → m ≡ min n 18446744073709551615 → p ≡ k → nat_eq m p ≡ nat_eq n k
counts_enough n k m p h e f = grind (arith, nat_tests)

pub returns : goal.returns
returns c = counts_enough (length (arguments_of (tree c.args.f.now))) c.args.place _ _ (omega arith) c.argument_count.ensures c.from.ensures
