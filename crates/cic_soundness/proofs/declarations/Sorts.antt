-- Where the check has found a sort to be at most another, it is so at each numbering that meets the constraints
-- found. The check of a constructor compares the sort of each argument with that of its type in this way.
use Rattle.std.proofs.Common.{◌≡◌, Bool, true, false, if◌then◌else◌, refl, sym, subst}
use Rattle.cic_terms.specs.Tree.{TreeSort, prop}
use Rattle.cic_rules.specs.Numbering.{Numbering, MeetsAll}
use Rattle.cic_rules.specs.Environment.{Context}
use Rattle.cic_rules.specs.Conversion.{SortAtMost}
use Rattle.cic_counted.specs.Outcome.{Budget, done, give}
use Rattle.cic_counted.specs.Evaluation.{sorts_at_most}
use Rattle.cic_counted.specs.Inference.{is_prop}
use Rattle.cic_counted.specs.calls.Done.{Cost, Took}
use Rattle.cic_counted.specs.Checking.{argument_at_most}
use Rattle.cic_counted.proofs.Taken.{done_rest}
use Rattle.cic_counted.proofs.TakenConversion.{below_done}
use Rattle.cic_soundness.proofs.evaluations.Sorts.{inserted_met, sorts_at_most_is}

-- What is met after a step that finds nothing was met before it.
pub found_along : (N : Numbering) (b b' : Budget) → b ≡ b' → MeetsAll N b'.found → MeetsAll N b.found
found_along N b b' e m = subst (λ (z : Budget). MeetsAll N z.found) (sym e) m

-- The constraints of a cost are met, and those found before it, where all are met that are found after it.
met_at_cost : (N : Numbering) (b b' : Budget) (c : Cost) → Took c b b' → MeetsAll N b'.found → MeetsAll N c.found × MeetsAll N b.found
met_at_cost N b b' c took m = inserted_met N b.found c.found (subst (MeetsAll N) took.found m)

pub argument_met : (N : Numbering) (G : Context) (s' s : TreeSort) (u : Unit {0}) (b b' : Budget) → argument_at_most G s' s b ≡ done u b' → MeetsAll N b'.found → MeetsAll N b.found
argument_met N G s' s u b b' e m = by_test (is_prop s) e
  where
    by_test : (p : Bool) → (if p then give tt else sorts_at_most G s' s) b ≡ done u b' → MeetsAll N b.found
    by_test true e = found_along N b b' (done_rest e) m
    by_test false e = let r = below_done {k = 0} G s' s u b b' e in (met_at_cost N b b' r.0 r.3 m).1

pub argument_is_at_most : (N : Numbering) (G : Context) (s' s : TreeSort) (u : Unit {0}) (b b' : Budget) → argument_at_most G s' s b ≡ done u b' → MeetsAll N b'.found → (s ≡ prop → ⊥) → SortAtMost N s' s
argument_is_at_most N G s' prop u b b' e m n = absurd (n refl)
argument_is_at_most N G s' s u b b' e m n =
    let r = below_done {k = 0} G s' s u b b' e in
    sorts_at_most_is N r.1 (met_at_cost N b b' r.0 r.3 m).0
