-- A set keeps every constraint that is put into it, since different constraints have different places in its order. So a
-- numbering that meets the constraints found meets each of them, which the soundness of the check rests on.
use Rattle.std.proofs.Common.{◌≡◌, List, [], ◌∷◌, refl, sym, subst}
use Rattle.std.specs.Ordering.{match_ordering}
use Rattle.std.specs.declared.cmp.Ordering.{Ordering}
use Rattle.std.specs.declared.cmp.Ordering.TheVariants.{Less, Equal, Greater}
use Rattle.cic_names.specs.declared.constraint.Constraint.{Constraint}
use Rattle.cic_names.specs.Orders.{constraint_order, insert_constraint}
use Rattle.cic_names.proofs.OrderLaws.{constraint_order_decides}
use Rattle.cic_rules.specs.Numbering.{Numbering, Meets, MeetsAll}

-- A numbering meets a set to which a constraint was added where it meets the set and the constraint.
met_by : (N : Numbering) (c d : Constraint) (ds inserted : List Constraint) (o : Ordering) → (o ≡ Equal → c ≡ d) → (MeetsAll N inserted → Meets N c × MeetsAll N ds) → MeetsAll N (match_ordering o (c ∷ d ∷ ds) (d ∷ ds) (d ∷ inserted)) → Meets N c × MeetsAll N (d ∷ ds)
met_by N c d ds inserted Less same others h = (h.0, h.1)
met_by N c d ds inserted Equal same others h = (subst (Meets N) (sym (same refl)) h.0, h)
met_by N c d ds inserted Greater same others h = let p = others h.1 in (p.0, (h.0, p.1))

pub insert_met : (N : Numbering) (c : Constraint) (K : List Constraint) → MeetsAll N (insert_constraint K c) → Meets N c × MeetsAll N K
insert_met N c [] h = (h.0, tt)
insert_met N c (d ∷ ds) h =
    met_by N c d ds (insert_constraint ds c) (constraint_order c d) (constraint_order_decides c d).0 (insert_met N c ds) h

meets_by : (N : Numbering) (c d : Constraint) (ds inserted : List Constraint) (o : Ordering) → Meets N c → MeetsAll N (d ∷ ds) → MeetsAll N inserted → MeetsAll N (match_ordering o (c ∷ d ∷ ds) (d ∷ ds) (d ∷ inserted))
meets_by N c d ds inserted Less h k i = (h, k)
meets_by N c d ds inserted Equal h k i = k
meets_by N c d ds inserted Greater h k i = (k.0, i)

pub insert_meets : (N : Numbering) (c : Constraint) (K : List Constraint) → Meets N c × MeetsAll N K → MeetsAll N (insert_constraint K c)
insert_meets N c [] h = (h.0, tt)
insert_meets N c (d ∷ ds) h = meets_by N c d ds (insert_constraint ds c) (constraint_order c d) h.0 h.1 (insert_meets N c ds (h.0, h.1.1))
