-- Counted calls that follow one another.
use Rattle.std.proofs.Common.{◌≡◌, refl}
use Rattle.cic_counted.specs.Outcome.{Budget, Outcome, Counted, done, stops, follow}

-- What follows a call that was itself two calls.
pub follow_twice : {A B C : Type 0} (o : Outcome A) (f : A → Counted B) (g : B → Counted C) →
    follow (follow o f) g ≡ follow o (λ a b. follow (f a b) g)
follow_twice (done a b) f g = refl
follow_twice (stops s) f g = refl

-- What follows may be told by another that does the same.
pub follow_same : {A B : Type 0} (o : Outcome A) (f g : A → Counted B) → ((a : A) (b : Budget) → f a b ≡ g a b) → follow o f ≡ follow o g
follow_same (done a b) f g h = h a b
follow_same (stops s) f g h = refl
