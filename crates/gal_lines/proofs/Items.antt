-- The items of a list of lists at a place.
use Rattle.std.proofs.Common.{ℕ, zero, suc, List, [], ◌∷◌, ◌≡◌, ◌<◌, length, get_or, Some, Vec, refl, ap, sym, arith}
use Rattle.std.specs.Prelude.{slice_get}
use Rattle.std.specs.declared.alloc.Global.{Global}
use Rattle.gal_lines.specs.declared.places.Lines.{Lines}
use Rattle.gal_lines.specs.calls.Groups.{items_of}

pub item_at : (vs : List (Vec Lines Global)) (k : ℕ) (v : Vec Lines Global) → k < length vs → v ≡ get_or vs k v → slice_get (items_of vs) k ≡ Some v.items
item_at [] k v lt e = absurd (omega (arith, lt))
item_at (x ∷ vs) zero v lt e = ap (λ (u : Vec Lines Global). Some u.items) (sym e)
item_at (x ∷ vs) (suc k) v lt e = item_at vs k v (omega arith) e

pub items_length : (vs : List (Vec Lines Global)) → length (items_of vs) ≡ length vs
items_length [] = refl
items_length (v ∷ vs) = ap suc (items_length vs)
