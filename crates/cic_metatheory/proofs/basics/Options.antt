-- What an option that is there has, and what one that is not there excludes. The laws read lookups by these.
use Rattle.std.proofs.Common.{◌≡◌, Option, Some, None}

pub some_inj : {A : Type 0} {x y : A} → ◌≡◌ {A = Option A} (Some x) (Some y) → x ≡ y
some_inj e = cc

pub some_is_not_none : {A X : Type 0} {a : A} → ◌≡◌ {A = Option A} None (Some a) → X
some_is_not_none e = absurd cc
