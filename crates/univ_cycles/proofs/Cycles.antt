-- No numbering meets a cycle: along a chain numbers do not fall, and past a strict constraint they rise.
use Rattle.std.proofs.Common.{◌≡◌, ℕ, zero, suc, ◌<◌, ◌≤◌, Bool, true, false, List, [], ◌∷◌, length, Contains, slice_index_or, subst, ap, refl, arith}
use Rattle.cic_names.specs.declared.level.Level.{Level}
use Rattle.cic_names.specs.declared.constraint.Constraint.{Constraint}
use Rattle.cic_rules.specs.Numbering.{Numbering, level_number, MeetsAt, Meets, MeetsAll, Consistent, Chain, IsCycle}
use Rattle.univ_cycles.specs.Numbers.{IsWithin}

meets_at_most : (b : Bool) (l r : ℕ) → MeetsAt b l r → l ≤ r
meets_at_most true l r m = omega arith
meets_at_most false l r m = m

meets_below : (b : Bool) (l r : ℕ) → b ≡ true → MeetsAt b l r → l < r
meets_below true l r e m = m
meets_below false l r e m = absurd (cc)

-- The numbers do not fall along a chain.
pub along_chain : (N : Numbering) (from : Level) (cs : List Constraint) (to : Level) → Chain from cs to → MeetsAll N cs → level_number N from ≤ level_number N to
along_chain N from [] to h m =
    let e : level_number N from ≡ level_number N to = ap (level_number N) h in omega arith
along_chain N from (c ∷ cs) to h m =
    let a : level_number N c.left ≤ level_number N c.right = meets_at_most c.strict _ _ m.0 in
    let b : level_number N c.right ≤ level_number N to = along_chain N c.right cs to h.1 m.1 in
    let e : level_number N c.left ≡ level_number N from = ap (level_number N) h.0 in
    omega arith

-- They rise along a chain with a strict constraint.
pub along_strict_chain : (N : Numbering) (from : Level) (cs : List Constraint) (to : Level) (s : Constraint) (k : ℕ) → Chain from cs to → MeetsAll N cs →
    k < length cs → slice_index_or cs k s ≡ s → s.strict ≡ true → level_number N from < level_number N to
along_strict_chain N from [] to s k h m lt at st = absurd (omega arith)
along_strict_chain N from (c ∷ cs) to s zero h m lt at st =
    let t : c.strict ≡ true = cc in
    let a : level_number N c.left < level_number N c.right = meets_below c.strict _ _ t m.0 in
    let b : level_number N c.right ≤ level_number N to = along_chain N c.right cs to h.1 m.1 in
    let e : level_number N c.left ≡ level_number N from = ap (level_number N) h.0 in
    omega arith
along_strict_chain N from (c ∷ cs) to s (suc k) h m lt at st =
    let a : level_number N c.left ≤ level_number N c.right = meets_at_most c.strict _ _ m.0 in
    let less : k < length cs = omega arith in
    let b : level_number N c.right < level_number N to = along_strict_chain N c.right cs to s k h.1 m.1 less at st in
    let e : level_number N c.left ≡ level_number N from = ap (level_number N) h.0 in
    omega arith

-- A numbering that meets all constraints meets each.
pub meets_each : (N : Numbering) (cs : List Constraint) (c : Constraint) (k : ℕ) → MeetsAll N cs → k < length cs → slice_index_or cs k c ≡ c → Meets N c
meets_each N [] c k m lt at = absurd (omega arith)
meets_each N (d ∷ cs) c zero m lt at = let P : Constraint → Type 0 = Meets N in subst P at m.0
meets_each N (d ∷ cs) c (suc k) m lt at = let less : k < length cs = omega arith in meets_each N cs c k m.1 less at

-- One that meets each meets all.
pub meets_all : (N : Numbering) (cs : List Constraint) → ((c : Constraint) → Contains cs c → Meets N c) → MeetsAll N cs
meets_all N [] each = tt
meets_all N (d ∷ cs) each =
    (each d (zero, omega arith, refl), meets_all N cs (λ c h. each c (suc h.0, (let b : h.0 < length cs = h.1 in omega arith), h.2)))

pub consistent_part : (part whole : List Constraint) → IsWithin part whole → Consistent whole → Consistent part
consistent_part part whole within k = record {
  numbering = k.numbering;
  is_numbering = k.is_numbering;
  meets = meets_all k.numbering part (λ c h. let w = within c h in meets_each k.numbering whole c w.0 k.meets w.1 w.2);
}

pub cycle_not_consistent : (cycle constraints : List Constraint) → IsCycle cycle → IsWithin cycle constraints → Consistent constraints → ⊥
cycle_not_consistent cycle constraints cyc within k =
    let j = consistent_part cycle constraints within k in
    let s = cyc.strict in
    let c : Constraint = s.0 in
    let at = s.1 in
    let up : level_number j.numbering cyc.start < level_number j.numbering cyc.start =
    along_strict_chain j.numbering cyc.start cycle cyc.start c at.0 cyc.chain j.meets at.1 at.2 s.2 in
    omega arith
