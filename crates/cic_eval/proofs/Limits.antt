-- What a term that is made within the limits answers.
use Rattle.std.proofs.Common.{◌≡◌, true, false, Option, Some, None, Ok, Err, refl}
use Rattle.std.specs.declared.rc.Rc.{Rc}
use Rattle.std.specs.declared.alloc.Global.{Global}
use Rattle.memory.specs.Telling.{OrNoMemory}
use Rattle.cic_terms.specs.declared.term.Term.{Term}
use Rattle.cic_terms.specs.declared.term.TermFault.{TermFault}
use Rattle.cic_terms.specs.declared.term.TermFault.TheVariants as F
use Rattle.cic_terms.specs.Tree.{Tree}
use Rattle.cic_terms.specs.Sizes.{Fits}
use Rattle.cic_rules.specs.Telescopes.{head_of}
use Rattle.cic_counted.specs.Evaluation.{is_constructor, recursive_turn, reduce}
use Rattle.cic_counted.specs.Outcome.{Budget, Counted, Stopped, is_small, fitting, follow, deep, done, tick}
use Rattle.cic_spines.specs.Lists.{shared_tree}
use Rattle.cic_work.specs.Verdicts.{why, why_not}
use Rattle.cic_work.specs.calls.Counting.{StopsFor}
use Rattle.cic_work.specs.declared.stop.Stop.{Stop}
use Rattle.cic_limits.proofs.Limits.{small, not_small}
use Rattle.cic_eval.specs.calls.Turns.{IsJudged}

pub made_small : (want : Tree) (made : Rc Term Global) → shared_tree made ≡ want → Fits 4000 want → IsJudged want (Ok made)
made_small want made e h = (e, small want h)

pub refused_deep : (want : Tree) (fault : TermFault) (stop : Stop) → why stop ≡ why_not fault → (fault ≡ F.Deep → ¬ Fits 4000 want) → IsJudged want (Err stop)
refused_deep want F.Deep stop e h = rw e (refl, not_small want (h refl))
refused_deep want F.NoMemory stop e h = rw e tt

-- A term that is too deep stops what goes on with it.
stops_deep : {A : Type 0} (reason : Option Stopped) (want : Tree) (b : Budget) (f : Tree → Counted A) →
    OrNoMemory reason (λ s. (s ≡ deep) × (is_small want ≡ false)) → StopsFor reason (follow (fitting want b) f)
stops_deep None want b f h = tt
stops_deep (Some s) want b f h = rw (h.0, h.1) refl

pub substitution_deep : (stop : Stop) (want : Tree) (b b' : Budget) → tick b ≡ done tt b' →
    OrNoMemory (why stop) (λ s. (s ≡ deep) × (is_small want ≡ false)) → StopsFor (why stop) (reduce want b)
substitution_deep stop want b b' e h = rw e (stops_deep (why stop) want b' _ h)

pub unfolding_deep : (stop : Stop) (f u v want : Tree) (b b' : Budget) → is_constructor (head_of v) ≡ true → tick b ≡ done tt b' →
    OrNoMemory (why stop) (λ s. (s ≡ deep) × (is_small want ≡ false)) → StopsFor (why stop) (recursive_turn f u v want b)
unfolding_deep stop f u v want b b' t e h = rw (t, e) (stops_deep (why stop) want b' _ h)
