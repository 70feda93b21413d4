-- What the answers of the checks of the program stand for, and why a call has no value.
use Rattle.std.specs.Prelude.{◌≡◌, Option, Some, None, Result, Ok, Err}
use Rattle.memory.specs.Telling.{Tells}
use Rattle.cic_terms.specs.Denotes.{tree, tree_sort}
use Rattle.cic_counted.specs.Outcome as O
use Rattle.cic_counted.specs.Checking as C
use Rattle.cic_env.specs.declared.verdict.Missing.{Missing}
use Rattle.cic_env.specs.declared.verdict.Missing.TheVariants.{Global, Local}
use Rattle.cic_env.specs.declared.verdict.Cause.{Cause}
use Rattle.cic_env.specs.declared.verdict.Cause.TheVariants as V
use Rattle.cic_env.specs.declared.verdict.Found.{Found}
use Rattle.cic_env.specs.declared.verdict.Verdict.{Verdict}
use Rattle.cic_env.specs.declared.verdict.Verdict.TheVariants as W
use Rattle.cic_terms.specs.declared.term.TermFault.{TermFault}
use Rattle.cic_terms.specs.declared.term.TermFault.TheVariants as F
use Rattle.cic_work.specs.declared.stop.Stop.{Stop}
use Rattle.cic_work.specs.declared.stop.Stop.TheVariants as S

abbrev pub missing_of : Missing → O.Missing
missing_of (Global id) = O.global id
missing_of (Local k) = O.local k

abbrev pub cause_of : Cause → O.Cause
cause_of (V.Unbound what) = O.unbound (missing_of what)
cause_of (V.NotFunction depth form) = O.not_function depth (tree form)
cause_of (V.NotSort depth form) = O.not_sort depth (tree form)
cause_of (V.Mismatch depth found wanted) = O.mismatch depth (tree found) (tree wanted)
cause_of (V.NotInductive depth form) = O.not_inductive depth (tree form)
cause_of (V.BadElimination ind) = O.bad_elimination ind
cause_of (V.BadBranchCount ind) = O.bad_branch_count ind
cause_of (V.UniverseForm found wanted) = O.universe_form (tree_sort found) (tree_sort wanted)
cause_of (V.Unguarded f call) = O.unguarded f call
cause_of (V.NotPositive ctor argument) = O.not_positive ctor argument
cause_of (V.BadArity ind) = O.bad_arity ind
cause_of (V.BadConstructor ctor) = O.bad_constructor ctor

abbrev pub found_of : Found → C.Found
found_of found = record {
  visible = found.visible;
  proofs = found.proofs;
  steps = found.steps;
}

-- A verdict as a result: its value, or why there is none. Want of memory is no reason.
abbrev pub result_of : {T : Type 0} → Verdict T → Result T (Option O.Stopped)
result_of (W.Done value) = Ok value
result_of (W.Refused cause) = Err (Some (O.refused (cause_of cause)))
result_of W.Spent = Err (Some O.spent)
result_of W.Deep = Err (Some O.deep)
result_of W.NoMemory = Err None

-- The verdict on a declaration is the definition's answer, or there was no memory.
abbrev pub Judges : Verdict Found → C.Answer → Type 0
Judges verdict answer =
    Tells (λ reason. reason) (result_of verdict) (λ found. answer ≡ C.accepts (found_of found)) (λ stopped. answer ≡ C.rejects stopped)

-- Why a counted call has no value, if it is not for want of memory.
abbrev pub why : Stop → Option O.Stopped
why (S.Refused cause) = Some (O.refused (cause_of cause.value))
why S.Spent = Some O.spent
why S.Deep = Some O.deep
why S.NoMemory = None

-- Why a lift or a substitution has no value.
abbrev pub why_not : TermFault → Option O.Stopped
why_not F.Deep = Some O.deep
why_not F.NoMemory = None
