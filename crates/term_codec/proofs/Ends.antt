-- A reading that ends before what follows it.
use Rattle.std.proofs.Common.{◌≡◌, ℕ, suc, ◌+◌, ◌-◌, ◌≤◌, ◌<◌, List, ap, sym, subst, arith}
use Rattle.term_format.specs.Reading.{Reading, and_then}
use Rattle.term_codec.specs.declared.faults.Stop.{Stop}
use Rattle.term_codec.specs.declared.faults.Stop.TheVariants.{Wrong, NoMemory}
use Rattle.term_codec.specs.calls.Answers.{Stops}

pub stops_on : {A B : Type 0} (size : ℕ) (r : Reading A) (f : A → List ℕ → Reading B) (s : Stop) → Stops size r s → Stops size (and_then r f) s
stops_on size r f (Wrong d p) h = (ap (λ x. and_then x f) h.0, h.1)
stops_on size r f NoMemory h = tt

pub stops_same : {A : Type 0} (size : ℕ) (r r' : Reading A) (s : Stop) → r ≡ r' → Stops size r' s → Stops size r s
stops_same size r r' s e h = subst (λ x. Stops size x s) (sym e) h

pub one_less : (count i : ℕ) → i < count → count - i ≡ suc (count - (i + 1))
one_less count i l = omega arith

pub none_less : (count i : ℕ) → count ≤ i → count - i ≡ 0
none_less count i l = omega arith
