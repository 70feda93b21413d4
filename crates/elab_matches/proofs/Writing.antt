-- What look-ups in lists answer.
use Rattle.std.proofs.Common.{◌≡◌, ℕ, List, length, refl, sym, ap, ltb-true, ltb-false, Bor}
use Rattle.std.specs.Prelude.{Option, Some, None, slice_get}
use Rattle.std.specs.Option.{option_map}
use Rattle.std.specs.Slice.{IsGetResult}
use Rattle.std.proofs.lemmas.Option.{slice_get_past, slice_get_read}

pub got : {A B : Type 0} (f : A → B) (xs : List A) (i : ℕ) (r : Option (Bor A)) → IsGetResult xs i i r → option_map (λ (x : Bor A). f x.now) r ≡ option_map f (slice_get xs i)
got f xs i None g = sym (ap (option_map f) (slice_get_past xs i (ltb-false i (length xs) (sym g.0))))
got f xs i (Some x) g = sym (ap (option_map f) (slice_get_read xs (length xs) i x.now refl (ltb-true i (length xs) (sym g.0)) g.1))
