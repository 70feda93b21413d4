-- The check of one declaration answers the same within a greater budget, unless it is spent; it accepts a declaration
-- within every budget of as many steps as it took, and is spent within every smaller one. These are the laws of
-- budgets as they are stated for readers.
use Rattle.std.proofs.Common.{◌≡◌, ◌≢◌, ℕ, ◌+◌, ◌-◌, ◌≤◌, ◌<◌, [], refl, sym, ap, ◌∙◌, arith, subst}
use Rattle.cic_rules.specs.Environment.{Environment, Declaration}
use Rattle.cic_counted.specs.Outcome.{Outcome, done, stops, refused, deep, spent, Counted}
use Rattle.cic_counted.specs.Checking.{Found, Answer, accepts, rejects, Split, judge, answer_of, check_declaration}
use Rattle.cic_soundness.specs.Budgets.{raised_outcome}
use Rattle.cic_soundness.proofs.counting.Checking.{holds_judge}
use Rattle.cic_soundness.proofs.counting.Raised.{persists_compositional, whnf_persists}
use Rattle.cic_soundness.proofs.counting.Steps.{Settles, settles_compositional, whnf_settles}

-- The answer within a greater budget: the steps are those that were taken.
answer_raised : (x budget : ℕ) (o o' : Outcome Split) → (o ≢ stops spent → o' ≡ raised_outcome x o) → answer_of budget o ≢ rejects spent → answer_of (budget + x) o' ≡ answer_of budget o
answer_raised x budget (done s b) o' h n =
    let e : (budget + x) - (b.rest + x) ≡ budget - b.rest = omega arith in
    ap (answer_of (budget + x)) (h (λ q. cc)) ∙ ap (λ z. accepts (record { visible = s.visible; proofs = s.proofs; steps = z })) e
answer_raised x budget (stops s) o' h n =
    ap (answer_of (budget + x)) (h (λ e. let q : s ≡ spent = cc in n (ap rejects q)))

check_raised : (E : Environment) (d : Declaration) (budget x : ℕ) → check_declaration E d budget ≢ rejects spent → check_declaration E d (budget + x) ≡ check_declaration E d budget
unfolding check_declaration
check_raised E d budget x n =
    answer_raised x budget (judge E d (record { rest = budget; found = [] })) (judge E d (record { rest = budget + x; found = [] }))
    ((holds_judge persists_compositional whnf_persists E d).more (record { rest = budget; found = [] }) x) n

pub check_stays : (E : Environment) (d : Declaration) (budget greater : ℕ) → check_declaration E d budget ≢ rejects spent → budget ≤ greater → check_declaration E d greater ≡ check_declaration E d budget
check_stays E d budget greater n l =
    let e : budget + (greater - budget) ≡ greater = omega arith in
    subst (λ z. check_declaration E d z ≡ check_declaration E d budget) e (check_raised E d budget (greater - budget) n)

pub check_accepts_the_same : (E : Environment) (d : Declaration) (budget greater : ℕ) (found : Found) → check_declaration E d budget ≡ accepts found → budget ≤ greater → check_declaration E d greater ≡ accepts found
check_accepts_the_same E d budget greater found e l = check_stays E d budget greater (λ q. let r : accepts found ≡ rejects spent = sym e ∙ q in cc) l ∙ e

-- An accepted declaration took no more steps than the budget has.
steps_of_answer : (budget : ℕ) (o : Outcome Split) (found : Found) → answer_of budget o ≡ accepts found → found.steps ≤ budget
steps_of_answer budget (done s b) found e =
    let q : record { visible = s.visible; proofs = s.proofs; steps = budget - b.rest } ≡ found = cc in
    let r : budget - b.rest ≡ found.steps = ap (λ f. f.steps) q in
    omega (arith, r)
steps_of_answer budget (stops s) found e = cc

pub steps_within : (E : Environment) (d : Declaration) (budget : ℕ) (found : Found) → check_declaration E d budget ≡ accepts found → found.steps ≤ budget
unfolding check_declaration
steps_within E d budget found e = steps_of_answer budget _ found e

-- An answer that cannot but be spent is spent.
spent_of_not : (a : Answer) → ¬ (a ≢ rejects spent) → a ≡ rejects spent
spent_of_not (accepts f) h = absurd (h (λ e. cc))
spent_of_not (rejects spent) h = refl
spent_of_not (rejects deep) h = absurd (h (λ e. cc))
spent_of_not (rejects (refused c)) h = absurd (h (λ e. cc))

pub check_spent_below : (E : Environment) (d : Declaration) (budget smaller : ℕ) (found : Found) → check_declaration E d budget ≡ accepts found → smaller < found.steps → check_declaration E d smaller ≡ rejects spent
check_spent_below E d budget smaller found e l = spent_of_not (check_declaration E d smaller) (λ n.
    let enough = steps_within E d budget found e in
    let same : check_declaration E d smaller ≡ accepts found = sym (check_stays E d smaller budget n (omega (arith, enough, l))) ∙ e in
    let fewer = steps_within E d smaller found same in
    omega (arith, fewer, l))

pub check_spent_lowered : (E : Environment) (d : Declaration) (budget smaller : ℕ) → check_declaration E d budget ≡ rejects spent → smaller ≤ budget → check_declaration E d smaller ≡ rejects spent
check_spent_lowered E d budget smaller e l = spent_of_not (check_declaration E d smaller) (λ n. n (sym (check_stays E d smaller budget n l) ∙ e))

-- Accepted within a budget, and so within another that has as many as the steps.
accepted_within : (m : Counted Split) → Settles Split m → (budget other : ℕ) (o : Outcome Split) (found : Found) → m (record { rest = budget; found = [] }) ≡ o → answer_of budget o ≡ accepts found → found.steps ≤ other → answer_of other (m (record { rest = other; found = [] })) ≡ accepts found
accepted_within m p budget other (done split b) found q e l =
    let c = p.runs split (record { rest = budget; found = [] }) b q in
    let rest : budget ≡ c.0 + b.rest = c.1 in
    let made : record { visible = split.visible; proofs = split.proofs; steps = budget - b.rest } ≡ found = cc in
    let steps : budget - b.rest ≡ found.steps = ap (λ f. f.steps) made in
    let enough : c.0 ≤ other = omega (arith, rest, steps, l) in
    let same : other - (other - c.0) ≡ budget - b.rest = omega (arith, rest, enough) in
    ap (answer_of other) (c.2 other enough)
    ∙ ap (λ z. accepts (record { visible = split.visible; proofs = split.proofs; steps = z })) same
    ∙ e
accepted_within m p budget other (stops s) found q e l = cc

pub check_accepts_within : (E : Environment) (d : Declaration) (budget other : ℕ) (found : Found) → check_declaration E d budget ≡ accepts found → found.steps ≤ other → check_declaration E d other ≡ accepts found
unfolding check_declaration
check_accepts_within E d budget other found e l = accepted_within (judge E d) (holds_judge settles_compositional whnf_settles E d) budget other _ found refl e l
