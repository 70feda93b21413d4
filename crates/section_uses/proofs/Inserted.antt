-- What a map of names gives after an insertion, and layers with one more.
use Rattle.std.proofs.Common.{◌≡◌, ℕ, ◌+◌, ◌-◌, ◌≤◌, ◌<◌, Bool, true, false, cond, if◌then◌else◌, Option, Some, None, List, Vec, [], ◌∷◌, ◌++◌, length, map, take, get_or, refl, sym, ap, ◌∙◌, true≢false, arith}
use Rattle.std.specs.Map.{lookup}
use Rattle.std.specs.declared.rc.Rc.{Rc}
use Rattle.std.specs.declared.alloc.Global.{Global}
use Rattle.cic_terms.proofs.Gathered.{take_more}
use Rattle.indexmap.specs.IndexMap.{insert_entry}
use Rattle.cic_names.specs.declared.name.GlobalId.{GlobalId}
use Rattle.cic_names.specs.Sameness.{same_id}
use Rattle.cic_names.proofs.Equality.{same_id_decides}
use Rattle.section_uses.specs.Kept.{Layer, layered, all_layered, names_or}

both_ways : (a b : Bool) → (a ≡ true → b ≡ true) → (b ≡ true → a ≡ true) → a ≡ b
both_ways true b f g = sym (f refl)
both_ways false true f g = g refl
both_ways false false f g = refl

pub same_id_turned : (a b : GlobalId) → same_id a b ≡ same_id b a
same_id_turned a b =
    both_ways (same_id a b) (same_id b a)
    (λ h. (same_id_decides b a).1 (sym ((same_id_decides a b).0 h)))
    (λ h. (same_id_decides a b).1 (sym ((same_id_decides b a).0 h)))

pub lookup_inserted : {X : Type 0} (q k : GlobalId) (v : X) (es : List (GlobalId × X)) →
    lookup (same_id q) (insert_entry same_id es k v) ≡ (if same_id q k then Some v else lookup (same_id q) es)
lookup_inserted q k v [] = refl
lookup_inserted q k v (e ∷ es) = go (same_id k e.0) refl (lookup_inserted q k v es)
  where
    both : (a b : Bool) → same_id q e.0 ≡ a → same_id q k ≡ b → same_id k e.0 ≡ false →
        cond a (Some e.1) (if b then Some v else lookup (same_id q) es) ≡ (if b then Some v else cond a (Some e.1) (lookup (same_id q) es))
    both true true f g h =
        let s : k ≡ e.0 = sym ((same_id_decides q k).0 g) ∙ (same_id_decides q e.0).0 f in
        absurd (true≢false (sym ((same_id_decides k e.0).1 s) ∙ h))
    both true false f g h = refl
    both false true f g h = refl
    both false false f g h = refl

    there : (a : Bool) → same_id q k ≡ a → same_id q e.0 ≡ a →
        cond (same_id q e.0) (Some v) (lookup (same_id q) es) ≡ (if same_id q k then Some v else cond (same_id q e.0) (Some e.1) (lookup (same_id q) es))
    there true f g = rw (f, g) refl
    there false f g = rw (f, g) refl

    go : (b : Bool) → same_id k e.0 ≡ b → lookup (same_id q) (insert_entry same_id es k v) ≡ (if same_id q k then Some v else lookup (same_id q) es) →
        lookup (same_id q) (if b then (e.0, v) ∷ es else e ∷ insert_entry same_id es k v) ≡ (if same_id q k then Some v else cond (same_id q e.0) (Some e.1) (lookup (same_id q) es))
    go true h below = there (same_id q k) refl (ap (same_id q) (sym ((same_id_decides k e.0).0 h)))
    go false h below = ap (λ o. cond (same_id q e.0) (Some e.1) o) below ∙ both (same_id q e.0) (same_id q k) refl refl h

pub layer_more : (f : GlobalId → List GlobalId) (ls : List Layer) (l : Layer) → all_layered f (ls ++ l ∷ []) ≡ layered (all_layered f ls) l
layer_more f [] l = refl
layer_more f (x ∷ ls) l = layer_more (layered f x) ls l

abbrev pub nothing_below : GlobalId → List GlobalId
nothing_below id = []

-- The layers before a place, with the one there
module _ {M : Type 0} (entries : M → Layer) (ms : List M) where
  some_more : (xs : List M) (m : M) → map entries (xs ++ m ∷ []) ≡ map entries xs ++ entries m ∷ []
  some_more [] m = refl
  some_more (x ∷ xs) m = ap (λ (ls : List Layer). entries x ∷ ls) (some_more xs m)

  one_layer_more : (i : ℕ) (m : M) (id : GlobalId) → 0 < i → i ≤ length ms → m ≡ get_or ms (i - 1) m →
      all_layered nothing_below (map entries (take i ms)) id ≡ names_or (all_layered nothing_below (map entries (take (i - 1) ms)) id) (lookup (same_id id) (entries m))
  one_layer_more i m id some le at =
      let n : ℕ = i - 1 in
      let e : i ≡ n + 1 = omega arith in
      let more : take i ms ≡ take n ms ++ m ∷ [] = ap (λ k. take k ms) e ∙ take_more ms n m (omega arith) at in
      ap (λ (xs : List M). all_layered nothing_below (map entries xs) id) more
      ∙ ap (λ (ls : List Layer). all_layered nothing_below ls id) (some_more (take n ms) m)
      ∙ ap (λ (f : GlobalId → List GlobalId). f id) (layer_more nothing_below (map entries (take n ms)) (entries m))

  pub not_in_layer : (i : ℕ) (m : M) (id : GlobalId) (whole : List GlobalId) → 0 < i → i ≤ length ms → m ≡ get_or ms (i - 1) m → None ≡ lookup (same_id id) (entries m) →
      all_layered nothing_below (map entries (take i ms)) id ≡ whole → all_layered nothing_below (map entries (take (i - 1) ms)) id ≡ whole
  not_in_layer i m id whole some le at none e =
      ap (names_or (all_layered nothing_below (map entries (take (i - 1) ms)) id)) none ∙ sym (one_layer_more i m id some le at) ∙ e

  pub found_in_layer : (i : ℕ) (m : M) (id : GlobalId) (names : Rc (Vec GlobalId Global) Global) (whole : List GlobalId) → 0 < i → i ≤ length ms → m ≡ get_or ms (i - 1) m → Some names ≡ lookup (same_id id) (entries m) →
      all_layered nothing_below (map entries (take i ms)) id ≡ whole → names.value.items ≡ whole
  found_in_layer i m id names whole some le at there e =
      ap (names_or (all_layered nothing_below (map entries (take (i - 1) ms)) id)) there ∙ sym (one_layer_more i m id some le at) ∙ e
