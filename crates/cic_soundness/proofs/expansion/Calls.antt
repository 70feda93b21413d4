-- A counted call whose every value another has too, with as much left and the same constraints. Calls that are put
-- together from such calls are such calls.
use Rattle.std.proofs.Common.{◌≡◌, refl, ap, ◌∙◌}
use Rattle.cic_counted.specs.Outcome.{Budget, Outcome, done, stops, Counted, follow}
use Rattle.cic_soundness.proofs.counting.Compositional.{Compositional}

pub record Gives (A : Type 0) (m m' : Counted A) : Type 0 where
  pub same : (a : A) (b b' : Budget) → m b ≡ done a b' → m' b ≡ done a b'

follow_gives : {A B : Type 0} (o o' : Outcome A) (f f' : A → Counted B) → ((a : A) (b : Budget) → o ≡ done a b → o' ≡ done a b) → ((a : A) → Gives B (f a) (f' a)) →
    (c : B) (b : Budget) → follow o f ≡ done c b → follow o' f' ≡ done c b
follow_gives (done a b) o' f f' h k c b' e = ap (λ o. follow o f') (h a b refl) ∙ (k a).same c b b' e
follow_gives (stops s) o' f f' h k c b' e = cc

pub gives_compositional : Compositional Gives
gives_compositional = record {
  give = λ a. record { same = λ v b b' e. e };
  stop = λ s. record { same = λ v b b' e. e };
  tick = record { same = λ v b b' e. e };
  note = λ c. record { same = λ v b b' e. e };
  take_found = record { same = λ v b b' e. e };
  bind = λ {A} {B} {m} {m'} {f} {f'} p q. record { same = λ c b b' e. follow_gives (m b) (m' b) f f' (λ a b'' k. p.same a b b'' k) q c b' e };
}

pub gives_itself : {A : Type 0} (m : Counted A) → Gives A m m
gives_itself m = record { same = λ a b b' e. e }
