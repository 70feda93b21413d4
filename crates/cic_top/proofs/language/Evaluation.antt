-- Evaluation in the language: a type is its own weak head normal form, so that its evaluation takes the step
-- of the call and no other.
use Rattle.std.proofs.Common.{◌≡◌, ℕ, zero, suc, List, refl, ap}
use Rattle.cic_terms.specs.Tree.{Tree, rel, sort, prod, const}
use Rattle.cic_names.specs.declared.constraint.Constraint.{Constraint}
use Rattle.cic_rules.specs.Environment.{Environment}
use Rattle.cic_counted.specs.Outcome.{Budget, Counted, done, stops, deep, follow, ◌>>=◌, give, stop, spent, tick}
use Rattle.cic_counted.specs.Evaluation.{answer, variable_turn, constant_turn, turn_of, goes_on, loop_of, whnf_at}
use Rattle.cic_top.proofs.language.Contexts.{TypeOfLanguage, assumptions}
use Rattle.cic_top.specs.Language.{EnvironmentOfLanguage}
use Rattle.cic_top.proofs.language.Lookups.{constants_have_no_bodies, variables_have_no_bodies}

turn_answers : (whnf : Tree → Counted Tree) (E : Environment) (ts : List Tree) (t : Tree) (b : Budget) → EnvironmentOfLanguage E → TypeOfLanguage t →
    turn_of whnf E (assumptions ts) t b ≡ done (answer t) b
turn_answers whnf E ts (rel x) b e h = ap (λ o. variable_turn o x b) (variables_have_no_bodies ts x)
turn_answers whnf E ts (const c) b e h = ap (λ o. constant_turn o c b) (constants_have_no_bodies E c e)
turn_answers whnf E ts (sort s) b e h = refl
turn_answers whnf E ts (prod a u) b e h = refl
turn_answers whnf E ts t b e h = absurd h

loop_answers : (whnf : Tree → Counted Tree) (n : ℕ) (E : Environment) (ts : List Tree) (t : Tree) (b : Budget) → EnvironmentOfLanguage E → TypeOfLanguage t →
    loop_of n whnf E (assumptions ts) t b ≡ done t b
loop_answers whnf zero E ts t b e h = ap (λ o. follow o (goes_on (λ _. stop spent))) (turn_answers whnf E ts t b e h)
loop_answers whnf (suc n) E ts t b e h = ap (λ o. follow o (goes_on (loop_of n whnf E (assumptions ts)))) (turn_answers whnf E ts t b e h)

entry_answers : (whnf : Tree → Counted Tree) (E : Environment) (ts : List Tree) (t : Tree) (rest : ℕ) (found : List Constraint) → EnvironmentOfLanguage E → TypeOfLanguage t →
    follow (tick (record { rest = rest; found = found })) (λ _ b. loop_of b.rest whnf E (assumptions ts) t b) ≡ (tick >>= λ _. give t) (record { rest = rest; found = found })
entry_answers whnf E ts t zero found e h = refl
entry_answers whnf E ts t (suc rest) found e h = loop_answers whnf rest E ts t (record { rest = rest; found = found }) e h

pub whnf_is_itself_at : (k : ℕ) (E : Environment) (ts : List Tree) (t : Tree) (b : Budget) → EnvironmentOfLanguage E → TypeOfLanguage t →
    whnf_at (suc k) E (assumptions ts) t b ≡ (tick >>= λ _. give t) b
unfolding whnf_at
whnf_is_itself_at k E ts t b e h = entry_answers (whnf_at k E (assumptions ts)) E ts t b.rest b.found e h

pub whnf_at_the_last : (E : Environment) (ts : List Tree) (t : Tree) (b : Budget) → whnf_at 0 E (assumptions ts) t b ≡ stops deep
unfolding whnf_at
whnf_at_the_last E ts t b = refl
