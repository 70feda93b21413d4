-- The answer of the check from what its parts come to, and what an accepted declaration makes.
use Rattle.std.proofs.Common.{◌≡◌, ℕ, ◌-◌, Option, Some, None, Result, Ok, Err, [], ◌∷◌, ◌++◌, sym, ap, ◌∙◌, subst}
use Rattle.std.specs.Prelude.{IfOk, MatchResult}
use Rattle.memory.specs.Telling.{OrNoMemory, Tells}
use Rattle.cic_rules.specs.Environment.{Environment, Declaration, declared, declared_ids, environment_ids}
use Rattle.cic_rules.specs.Numbering.{Numbering, MeetsAll}
use Rattle.cic_rules.specs.Formed.{Formed}
use Rattle.cic_rules.proofs.LastDeclarations.{formed_ids_are_distinct}
use Rattle.cic_counted.specs.Outcome.{Budget, done, Stopped}
use Rattle.cic_counted.specs.Checking.{Split, accepts, rejects, answer_of, judge, check_declaration}
use Rattle.cic_env.specs.NewIds.{AreNew}
use Rattle.cic_env.specs.declared.verdict.Found as F
use Rattle.cic_env.specs.declared.verdict.Verdict.{Verdict}
use Rattle.cic_soundness.proofs.declarations.Judgement.{accepted_is_formed}
use Rattle.cic_work.specs.Verdicts.{Judges, found_of, result_of}
use Rattle.cic_work.specs.calls.Counting.{StopsFor}
use Rattle.cic_kernel.specs.Accepting.{IfDone}
use Rattle.cic_kernel.specs.calls.Judging.{AcceptsWith, split_of}
use Rattle.cic_kernel.specs.declared.judging.Split as K
use Rattle.cic_kernel.proofs.NewIds.{distinct_with_declaration}

-- The budget with which a check begins.
abbrev whole : ℕ → Budget
whole budget = record { rest = budget; found = [] }

accepted_when_done : (E : Environment) (d : Declaration) (budget : ℕ) (split : Split) (b : Budget) → judge E d (whole budget) ≡ done split b →
    check_declaration E d budget ≡ accepts (record { visible = split.visible; proofs = split.proofs; steps = budget - b.rest })
unfolding check_declaration
accepted_when_done E d budget split b e = ap (answer_of budget) e

-- A verdict that accepts with the constraints found.
pub judged_when_done : (E : Environment) (d : Declaration) (budget steps : ℕ) (split : K.Split) (b : Budget) (verdict : Verdict F.Found) → judge E d (whole budget) ≡ done (split_of split) b →
    steps ≡ budget - b.rest → AcceptsWith verdict split steps → Judges verdict (check_declaration E d budget)
judged_when_done E d budget steps split b verdict e same = go (result_of verdict)
  where
    go : (r : Result F.Found (Option Stopped)) → MatchResult r (λ found. found_of found ≡ record { visible = split.visible; proofs = split.proofs; steps = steps }) (λ reason. ⊥) →
        Tells (λ reason. reason) r (λ found. check_declaration E d budget ≡ accepts (found_of found)) (λ stopped. check_declaration E d budget ≡ rejects stopped)
    go (Ok found) h =
        accepted_when_done E d budget (split_of split) b e
        ∙ ap (λ n. accepts (record { visible = split.visible; proofs = split.proofs; steps = n })) (sym same)
        ∙ ap accepts (sym h)
    go (Err reason) h = absurd h

rejected_when_stopped : (E : Environment) (d : Declaration) (budget : ℕ) (reason : Option Stopped) → StopsFor reason (judge E d (whole budget)) →
    OrNoMemory reason (λ stopped. check_declaration E d budget ≡ rejects stopped)
unfolding check_declaration
rejected_when_stopped E d budget None h = tt
rejected_when_stopped E d budget (Some s) h = ap (answer_of budget) h

-- A verdict that tells why the check stops.
pub judged_when_stopped : (E : Environment) (d : Declaration) (budget : ℕ) (reason : Option Stopped) (verdict : Verdict F.Found) → StopsFor reason (judge E d (whole budget)) →
    result_of verdict ≡ Err reason → Judges verdict (check_declaration E d budget)
judged_when_stopped E d budget reason verdict h e =
    subst (λ (r : Result F.Found (Option Stopped)). Tells (λ reason. reason) r (λ found. check_declaration E d budget ≡ accepts (found_of found)) (λ stopped. check_declaration E d budget ≡ rejects stopped))
    (sym e) (rejected_when_stopped E d budget reason h)

-- Where the verdict is that the check is done, the environment with the declaration is formed.
pub done_is_formed : (E : Environment) (d : Declaration) (budget : ℕ) (verdict : Verdict F.Found) → AreNew (environment_ids E) (declared_ids d) → Judges verdict (check_declaration E d budget) →
    IfDone verdict (λ found. (N : Numbering) → Formed N E → MeetsAll N found.visible → MeetsAll N found.proofs → Formed N (E ++ declared d ∷ []))
done_is_formed E d budget verdict new = go (result_of verdict)
  where
    go : (r : Result F.Found (Option Stopped)) → Tells (λ reason. reason) r (λ found. check_declaration E d budget ≡ accepts (found_of found)) (λ stopped. check_declaration E d budget ≡ rejects stopped) →
        IfOk r (λ found. (N : Numbering) → Formed N E → MeetsAll N found.visible → MeetsAll N found.proofs → Formed N (E ++ declared d ∷ []))
    go (Ok found) h = λ N formed visible proofs.
        accepted_is_formed E N d budget (found_of found) formed (distinct_with_declaration E d (formed_ids_are_distinct E N formed) new) h visible proofs
    go (Err reason) h = tt
