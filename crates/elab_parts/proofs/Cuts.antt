-- What fits the limits of a term.
use Rattle.std.proofs.Common.{◌≡◌, ℕ, ◌+◌, ◌≤◌, ◌<◌, max, min, Bool, true, false, leb, ltb, refl, sym, ap, ◌∙◌, ◌⊎◌, inl, inr, arith}
use Rattle.std.specs.Prelude.{Some, None, ◌&&◌, if◌then◌else◌}
use Rattle.std.proofs.lemmas.Bool.{leb-true, leb-false}
use borrow.Author.Tests.{ltb-true, ltb-false}
use Rattle.cic_terms.specs.Tree.{Tree, rel, node, let_in, Former, Binders, Children, no_child, child, over}
use Rattle.cic_terms.specs.Lift.{lift_tree, lift_children}
use Rattle.cic_terms.specs.Sizes.{Fits, depth_tree, depth_children, max_rel, max_rel_children}
use Rattle.elab_parts.specs.calls.Parts.{cut, pair_tree}
use Rattle.elab_parts.specs.declared.making.Pair.{Pair}
use Rattle.elab_parts.specs.declared.making.Pair.TheVariants.{Product, Abstraction, Application}

both_cut : (a b : Bool) (t : Tree) → a ≡ true → b ≡ true → (if a && b then Some t else None) ≡ Some t
both_cut a b t e f = rw (e, f) refl

leb_is : (m n : ℕ) → m ≤ n → (b : Bool) → leb m n ≡ b → b ≡ true
leb_is m n h true e = refl
leb_is m n h false e = absurd (let k : n < m = leb-false m n e in omega arith)

leb_not : (m n : ℕ) → n < m → (b : Bool) → leb m n ≡ b → b ≡ false
leb_not m n h false e = refl
leb_not m n h true e = absurd (let k : m ≤ n = leb-true m n e in omega arith)

pub cut_in : (t : Tree) → depth_tree t ≤ 4000 → max_rel t ≤ 1048576 → cut t ≡ Some t
cut_in t d r = both_cut _ _ t (leb_is _ _ d _ refl) (leb_is _ _ r _ refl)

left_out : (a b : Bool) (t : Tree) → a ≡ false → (if a && b then Some t else None) ≡ None
left_out a b t e = rw e refl

right_out : (a b : Bool) (t : Tree) → b ≡ false → (if a && b then Some t else None) ≡ None
right_out false b t e = refl
right_out true b t e = rw e refl

pub cut_deep : (t : Tree) → 4000 < depth_tree t → cut t ≡ None
cut_deep t d = left_out _ _ t (leb_not _ _ d _ refl)

pub cut_far : (t : Tree) → 1048576 < max_rel t → cut t ≡ None
cut_far t r = right_out _ _ t (leb_not _ _ r _ refl)

-- what the cut says
cut_cases : (t : Tree) (a b : Bool) → leb (depth_tree t) 4000 ≡ a → leb (max_rel t) 1048576 ≡ b →
    ((if a && b then Some t else None) ≡ Some t × Fits 4000 t) ⊎ ((if a && b then Some t else None) ≡ None × ¬ Fits 4000 t)
cut_cases t true true d r = inl (refl, record { depth = leb-true _ _ d; rels = leb-true _ _ r })
cut_cases t true false d r = inr (refl, λ f. let k : 1048576 < max_rel t = leb-false _ _ r in let m = f.rels in omega arith)
cut_cases t false true d r = inr (refl, λ f. let k : 4000 < depth_tree t = leb-false _ _ d in let m = f.depth in omega arith)
cut_cases t false false d r = inr (refl, λ f. let k : 4000 < depth_tree t = leb-false _ _ d in let m = f.depth in omega arith)

pub cut_is : (t : Tree) → (cut t ≡ Some t × Fits 4000 t) ⊎ (cut t ≡ None × ¬ Fits 4000 t)
cut_is t = cut_cases t _ _ refl refl

pub cut_fits : (t : Tree) → Fits 4000 t → cut t ≡ Some t
cut_fits t f = cut_in t f.depth f.rels

pub cut_unfit : (t : Tree) → ¬ Fits 4000 t → cut t ≡ None
cut_unfit t f = elim (cut_is t) [ inl p ↦ absurd (f p.1) | inr p ↦ p.0 ]

-- terms of two parts, and of three
pub pair_depth : (kind : Pair) (a b : Tree) → depth_tree (pair_tree kind a b) ≡ max (depth_tree a) (depth_tree b) + 1
pair_depth Product a b = omega arith
pair_depth Abstraction a b = omega arith
pair_depth Application a b = omega arith

pub pair_rels : (kind : Pair) (a b : Tree) → max_rel (pair_tree kind a b) ≡ max (max_rel a) (max_rel b)
pair_rels Product a b = omega arith
pair_rels Abstraction a b = omega arith
pair_rels Application a b = omega arith

pub let_depth : (t a u : Tree) → depth_tree (let_in t a u) ≡ max (max (depth_tree t) (depth_tree a)) (depth_tree u) + 1
let_depth t a u = omega arith

pub let_rels : (t a u : Tree) → max_rel (let_in t a u) ≡ max (max (max_rel t) (max_rel a)) (max_rel u)
let_rels t a u = omega arith

mutual
  pub lifted_depth : (from by : ℕ) (t : Tree) → depth_tree (lift_tree from by t) ≡ depth_tree t
  lifted_depth from by (rel n) = refl
  lifted_depth from by (node f ks) = ap (λ n. n + 1) (lifted_depths from by ks)

  lifted_depths : (from by : ℕ) (ks : Children) → depth_children (lift_children from by ks) ≡ depth_children ks
  lifted_depths from by no_child = refl
  lifted_depths from by (child b t ks) = let d = lifted_depth (over b from) by t in let e = lifted_depths from by ks in omega arith

-- a term that is lifted stays as it is, or has a variable as far as it is lifted
abbrev TreeStays : ℕ → Tree → Type 0
TreeStays from t = ((m : ℕ) → lift_tree from m t ≡ t) ⊎ ((m : ℕ) → m ≤ max_rel (lift_tree from m t))

abbrev ChildrenStay : ℕ → Children → Type 0
ChildrenStay from ks = ((m : ℕ) → lift_children from m ks ≡ ks) ⊎ ((m : ℕ) → m ≤ max_rel_children (lift_children from m ks))

stays_rel : (n : ℕ) (below : Bool) → ((m : ℕ) → rel (if below then n else n + m) ≡ rel n) ⊎ ((m : ℕ) → m ≤ (if below then n else n + m))
stays_rel n true = inl (λ m. refl)
stays_rel n false = inr (λ m. omega arith)

stays_node : (f : Former) (from : ℕ) (ks : Children) → ChildrenStay from ks → TreeStays from (node f ks)
stays_node f from ks (inl h) = inl (λ m. ap (node f) (h m))
stays_node f from ks (inr h) = inr h

stays_child : (from : ℕ) (b : Binders) (t : Tree) (ks : Children) → TreeStays (over b from) t → ChildrenStay from ks → ChildrenStay from (child b t ks)
stays_child from b t ks (inl h) (inl k) = inl (λ m. let e = h m in let e' = k m in cc)
stays_child from b t ks (inr h) k = inr (λ m. let e = h m in omega arith)
stays_child from b t ks (inl h) (inr k) = inr (λ m. let e = k m in omega arith)

mutual
  stays : (from : ℕ) (t : Tree) → TreeStays from t
  stays from (rel n) = stays_rel n (ltb n from)
  stays from (node f ks) = stays_node f from ks (stay from ks)

  stay : (from : ℕ) (ks : Children) → ChildrenStay from ks
  stay from no_child = inl (λ m. refl)
  stay from (child b t ks) = stays_child from b t ks (stays (over b from) t) (stay from ks)

most_cases : (by : ℕ) (t : Tree) → TreeStays 0 t → 1048577 ≤ by → cut (lift_tree 0 1048577 t) ≡ cut (lift_tree 0 by t)
most_cases by t (inl h) k = ap cut (h 1048577 ∙ sym (h by))
most_cases by t (inr h) k =
    cut_far (lift_tree 0 1048577 t) (omega (arith, h 1048577)) ∙ sym (cut_far (lift_tree 0 by t) (omega (arith, h by)))

most_or_all : (by n : ℕ) (t : Tree) (few : Bool) → ltb by 1048577 ≡ few → n ≡ min by 1048577 → cut (lift_tree 0 n t) ≡ cut (lift_tree 0 by t)
most_or_all by n t true few e = let h : by < 1048577 = ltb-true by 1048577 few in let k : n ≡ by = omega arith in ap (λ m. cut (lift_tree 0 m t)) k
most_or_all by n t false few e =
    let h : 1048577 ≤ by = ltb-false by 1048577 few in let k : n ≡ 1048577 = omega arith in
    ap (λ m. cut (lift_tree 0 m t)) k ∙ most_cases by t (stays 0 t) h

pub lifted_most : (by n : ℕ) (t : Tree) → n ≡ min by 1048577 → cut (lift_tree 0 n t) ≡ cut (lift_tree 0 by t)
lifted_most by n t e = most_or_all by n t _ refl e

-- one level more
pub room_left : (m d : ℕ) → Some d ≡ (if ltb m 4000 then Some (m + 1) else None) → (m < 4000) × (d ≡ m + 1)
room_left m d h = left (ltb m 4000) refl h
  where
    left : (b : Bool) → ltb m 4000 ≡ b → Some d ≡ (if b then Some (m + 1) else None) → (m < 4000) × (d ≡ m + 1)
    left true e h = (ltb-true m 4000 e, (let z : d ≡ m + 1 = cc in z))
    left false e h = absurd (let z : ⊥ = cc in z)

pub no_room_left : (m : ℕ) → None ≡ (if ltb m 4000 then Some (m + 1) else None) → 4000 ≤ m
no_room_left m h = left (ltb m 4000) refl h
  where
    left : (b : Bool) → ltb m 4000 ≡ b → None ≡ (if b then Some (m + 1) else None) → 4000 ≤ m
    left true e h = absurd (let z : ⊥ = cc in z)
    left false e h = ltb-false m 4000 e
