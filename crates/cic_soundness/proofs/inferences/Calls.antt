-- The counted functions of typing are sound at every depth and within every budget: what they are done with is
-- derivable at each numbering that meets the constraints found. They stand in the relations of what is done, and these
-- are sound. These are the laws of inference as they are stated for readers.
use Rattle.std.proofs.Common.{◌≡◌, ℕ, subst}
use Rattle.cic_terms.specs.Tree.{TreeSort, Tree, sort}
use Rattle.cic_rules.specs.Numbering.{Numbering, MeetsAll}
use Rattle.cic_rules.specs.Environment.{Environment, Context}
use Rattle.cic_rules.specs.Typing.{Typed, HasSort, WellFormedContext}
use Rattle.cic_counted.specs.Outcome.{Budget, done}
use Rattle.cic_counted.specs.calls.Done.{Cost, Took}
use Rattle.cic_counted.specs.Inference.{calls_at}
use Rattle.cic_counted.proofs.TakenTyping.{infer_done, check_done, sort_of_done}
use Rattle.cic_metatheory.specs.WellTypedLookups.{WellTypedLookups}
use Rattle.cic_soundness.proofs.evaluations.Sorts.{inserted_met}
use Rattle.cic_soundness.proofs.inferences.Typed.{infers_typed, checks_typed, sort_of_typed}

taken_met : (N : Numbering) (c : Cost) (b b' : Budget) → Took c b b' → MeetsAll N b'.found → MeetsAll N c.found
taken_met N c b b' h met = (inserted_met N b.found c.found (subst (MeetsAll N) h.found met)).0

pub inference_is_right : (E : Environment) (N : Numbering) (G : Context) (k : ℕ) (t a : Tree) (b b' : Budget) → WellTypedLookups E N → WellFormedContext E N G →
    (calls_at k E).infer G t b ≡ done a b' → MeetsAll N b'.found → Typed E N G t a
inference_is_right E N G k t a b b' right w e met =
    let h = infer_done E k G t a b b' e in
    infers_typed E N right h.1 w (taken_met N h.0 b b' h.3 met)

pub check_is_right : (E : Environment) (N : Numbering) (G : Context) (k : ℕ) (t a : Tree) (u : Unit {0}) (b b' : Budget) → WellTypedLookups E N → WellFormedContext E N G → HasSort E N G a →
    (calls_at k E).check G t a b ≡ done u b' → MeetsAll N b'.found → Typed E N G t a
check_is_right E N G k t a u b b' right w type e met =
    let h = check_done E k G t a u b b' e in
    checks_typed E N right h.1 w (taken_met N h.0 b b' h.3 met) type

pub sort_is_right : (E : Environment) (N : Numbering) (G : Context) (k : ℕ) (t : Tree) (s : TreeSort) (b b' : Budget) → WellTypedLookups E N → WellFormedContext E N G →
    (calls_at k E).sort_of G t b ≡ done s b' → MeetsAll N b'.found → Typed E N G t (sort s)
sort_is_right E N G k t s b b' right w e met =
    let h = sort_of_done E k G t s b b' e in
    sort_of_typed E N right h.1 w (taken_met N h.0 b b' h.3 met)
