-- The first demand that is not met.
use Rattle.std.proofs.Common.{◌≡◌, ◌≢◌, ℕ, ◌≤◌, ◌<◌, List, [], ◌∷◌, ◌++◌, Bool, true, false, refl, sym, ◌∙◌}
use Rattle.std.specs.Prelude.{Option, Some, None, ◌==◌}
use Rattle.std.proofs.lemmas.Bool.{leb-true, le-leb, lt-leb, eqb-true, eq-eqb, ne_eqb}
use Rattle.seg_format.specs.declared.faults.BadFile.{BadFile}
use Rattle.seg_format.specs.declared.faults.Defect.{Defect}
use Rattle.seg_format.specs.declared.faults.Defect.TheVariants.{Short}
use Rattle.seg_format.specs.declared.layout.Segment.{Segment}
use Rattle.seg_format.specs.Defects.{Demand, first_unmet, whole, right, bad}

pub met : (d : Demand) (ds : List Demand) → d.met ≡ true → first_unmet (d ∷ ds) ≡ first_unmet ds
unfolding first_unmet
met d ds h = rw h refl

pub unmet : (d : Demand) (ds : List Demand) → d.met ≡ false → first_unmet (d ∷ ds) ≡ Some d.fault
unfolding first_unmet
unmet d ds h = rw h refl

-- where all are met, each is
head_met-at : (b : Bool) (d : Demand) (ds : List Demand) → d.met ≡ b → first_unmet (d ∷ ds) ≡ None → d.met ≡ true
head_met-at true d ds e h = e
head_met-at false d ds e h = let f : Some d.fault ≡ None = sym (unmet d ds e) ∙ h in cc

pub head_met : (d : Demand) (ds : List Demand) → first_unmet (d ∷ ds) ≡ None → d.met ≡ true
head_met d ds h = head_met-at d.met d ds refl h

pub tail_met : (d : Demand) (ds : List Demand) → first_unmet (d ∷ ds) ≡ None → first_unmet ds ≡ None
tail_met d ds h = sym (met d ds (head_met d ds h)) ∙ h

pub append_met : (ds es : List Demand) → first_unmet ds ≡ None → first_unmet (ds ++ es) ≡ first_unmet es
append_met [] es h = refl
append_met (d ∷ ds) es h = met d (ds ++ es) (head_met d ds h) ∙ append_met ds es (tail_met d ds h)

append_unmet-at : (b : Bool) (d : Demand) (ds es : List Demand) (fault : BadFile) → d.met ≡ b → first_unmet (d ∷ ds) ≡ Some fault → (first_unmet ds ≡ Some fault → first_unmet (ds ++ es) ≡ Some fault) → first_unmet (d ∷ (ds ++ es)) ≡ Some fault
append_unmet-at true d ds es fault e h rest = met d (ds ++ es) e ∙ rest (sym (met d ds e) ∙ h)
append_unmet-at false d ds es fault e h rest = unmet d (ds ++ es) e ∙ (sym (unmet d ds e) ∙ h)

pub append_unmet : (ds es : List Demand) (fault : BadFile) → first_unmet ds ≡ Some fault → first_unmet (ds ++ es) ≡ Some fault
unfolding first_unmet
append_unmet [] es fault h = cc
append_unmet (d ∷ ds) es fault h = append_unmet-at d.met d ds es fault refl h (append_unmet ds es fault)

front_met-at : (o : Option BadFile) (ds es : List Demand) → first_unmet ds ≡ o → first_unmet (ds ++ es) ≡ None → first_unmet ds ≡ None
front_met-at None ds es e h = e
front_met-at (Some fault) ds es e h = let f : Some fault ≡ None = sym (append_unmet ds es fault e) ∙ h in cc

pub front_met : (ds es : List Demand) → first_unmet (ds ++ es) ≡ None → first_unmet ds ≡ None
front_met ds es h = front_met-at (first_unmet ds) ds es refl h

pub back_met : (ds es : List Demand) → first_unmet (ds ++ es) ≡ None → first_unmet es ≡ None
back_met ds es h = sym (append_met ds es (front_met ds es h)) ∙ h

pub none_unmet : first_unmet [] ≡ None
unfolding first_unmet
none_unmet = refl

-- the demands by name
pub whole_met : (s : Segment) (size end : ℕ) (ds : List Demand) → end ≤ size → first_unmet (whole s size end ∷ ds) ≡ first_unmet ds
whole_met s size end ds h = met (whole s size end) ds (le-leb end size h)

pub whole_unmet : (s : Segment) (size end : ℕ) (ds : List Demand) → size < end → first_unmet (whole s size end ∷ ds) ≡ Some (bad s Short size)
whole_unmet s size end ds h = unmet (whole s size end) ds (lt-leb end size h)

pub right_met : (s : Segment) (defect : Defect) (place : ℕ) (test : Bool) (ds : List Demand) → test ≡ true → first_unmet (right s defect place test ∷ ds) ≡ first_unmet ds
right_met s defect place test ds h = met (right s defect place test) ds h

pub right_unmet : (s : Segment) (defect : Defect) (place : ℕ) (test : Bool) (ds : List Demand) → test ≡ false → first_unmet (right s defect place test ∷ ds) ≡ Some (bad s defect place)
right_unmet s defect place test ds h = unmet (right s defect place test) ds h

pub number_met : (s : Segment) (defect : Defect) (place m n : ℕ) (ds : List Demand) → m ≡ n → first_unmet (right s defect place (m == n) ∷ ds) ≡ first_unmet ds
number_met s defect place m n ds h = right_met s defect place (m == n) ds (eq-eqb m n h)

pub number_unmet : (s : Segment) (defect : Defect) (place m n : ℕ) (ds : List Demand) → m ≢ n → first_unmet (right s defect place (m == n) ∷ ds) ≡ Some (bad s defect place)
number_unmet s defect place m n ds h = right_unmet s defect place (m == n) ds (ne_eqb m n h)

-- and back
pub whole_holds : (s : Segment) (size end : ℕ) (ds : List Demand) → first_unmet (whole s size end ∷ ds) ≡ None → end ≤ size
whole_holds s size end ds h = leb-true end size (head_met (whole s size end) ds h)

pub number_holds : (s : Segment) (defect : Defect) (place m n : ℕ) (ds : List Demand) → first_unmet (right s defect place (m == n) ∷ ds) ≡ None → m ≡ n
number_holds s defect place m n ds h = eqb-true m n (head_met (right s defect place (m == n)) ds h)
