-- Why a call on the language stops: it is spent or too deep, or it refuses for a cause of the language. So who
-- prints the refusal of an axiom has no other cause to put into words, and no other term.
use Rattle.std.proofs.Common.{◌≡◌, ℕ, zero, suc, ◌+◌, ◌-◌, true, false, if◌then◌else◌, Option, Some, None, List, [], ◌∷◌, refl, sym, subst, arith, ap}
use Rattle.cic_terms.specs.Tree.{TreeSort, Tree, rel, sort, prod, const}
use Rattle.cic_terms.specs.Lift.{lift_tree}
use Rattle.cic_names.specs.declared.constraint.Constraint.{Constraint}
use Rattle.cic_rules.specs.Environment.{Environment, Context, Declaration, axiom_of, constant_type, type_at}
use Rattle.cic_counted.specs.Outcome.{Budget, Outcome, Counted, done, stops, follow, ◌>>=◌, give, stop, tick, spend, deep, is_small, fitting, or_refuse, Cause, Stopped, refused, unbound, global, local, universe_form}
use Rattle.cic_counted.specs.Evaluation.{whnf_at}
use Rattle.cic_counted.specs.Inference.{Calls, as_sort, product_sort, infer_step, type_of_sort, sort_step, calls_at, calls_from}
use Rattle.cic_counted.specs.Checking.{rejects, all_visible, answer_of, check_declaration}
use Rattle.cic_top.specs.Language.{TermOfLanguage, IsOfLanguage, EnvironmentOfLanguage, CauseOfLanguage, left}
use Rattle.cic_top.proofs.language.Contexts.{TypeOfLanguage, AreOfLanguage, assumptions}
use Rattle.cic_top.proofs.language.Evaluation.{whnf_is_itself_at, whnf_at_the_last}
use Rattle.cic_top.proofs.language.TypesOfTerms.{CallsKeep, calls_keep, whnf_keeps, product_sort_is}

-- A stop that is no refusal, or one for a cause of the language.
abbrev StopOfLanguage : Stopped → Type 0
StopOfLanguage (refused cause) = CauseOfLanguage cause
StopOfLanguage _ = Unit {0}

-- An outcome that is a value, or such a stop.
abbrev StopsInLanguage : {A : Type 0} → Outcome A → Type 0
StopsInLanguage (done v b) = Unit {0}
StopsInLanguage (stops s) = StopOfLanguage s

-- Of two calls in a row, each stops so.
then_stops : {A B : Type 0} (o : Outcome A) (f : A → Counted B) → StopsInLanguage o → ((v : A) (b : Budget) → o ≡ done v b → StopsInLanguage (f v b)) → StopsInLanguage (follow o f)
then_stops (done v b) f h k = k v b refl
then_stops (stops s) f h k = h

spend_stops : (rest : ℕ) (found : List Constraint) → StopsInLanguage (spend rest found)
spend_stops zero found = tt
spend_stops (suc rest) found = tt

entered_stops : {A : Type 0} (m : Counted A) → ((b : Budget) → StopsInLanguage (m b)) → (b : Budget) → StopsInLanguage ((tick >>= λ _. m) b)
entered_stops m h b = then_stops (tick b) (λ _. m) (spend_stops b.rest b.found) (λ u b' e. h b')

fitting_stops : (t : Tree) (b : Budget) → StopsInLanguage (fitting t b)
fitting_stops t b = elim (is_small t) as (λ small. StopsInLanguage ((if small then give t else stop deep) b)) [
  | true ↦ tt
  | false ↦ tt
]

variable_stops : (o : Option Tree) (x by : ℕ) (b : Budget) → StopsInLanguage ((or_refuse o (unbound (local x)) >>= λ a. fitting (lift_tree 0 by a)) b)
variable_stops None x by b = tt
variable_stops (Some a) x by b = fitting_stops (lift_tree 0 by a) b

missing_stops : (o : Option Tree) (id : _) (b : Budget) → StopsInLanguage (or_refuse o (unbound (global id)) b)
missing_stops None id b = tt
missing_stops (Some a) id b = tt

as_sort_stops : (G : Context) (t : Tree) (b : Budget) → TypeOfLanguage t → StopsInLanguage (as_sort G t b)
as_sort_stops G (sort s) b h = tt
as_sort_stops G t b h = h

whnf_stops : (k : ℕ) (E : Environment) (ts : List Tree) (t : Tree) (b : Budget) → EnvironmentOfLanguage E → TypeOfLanguage t → StopsInLanguage (whnf_at k E (assumptions ts) t b)
whnf_stops zero E ts t b g h = subst StopsInLanguage (sym (whnf_at_the_last E ts t b)) tt
whnf_stops (suc k) E ts t b g h = subst StopsInLanguage (sym (whnf_is_itself_at k E ts t b g h)) (entered_stops (give t) (λ b. tt) b)

-- What the calls that are so much less deep stop with.
record CallsStop (E : Environment) (calls : Calls) : Type 0 where
  infer : (ts : List Tree) (t : Tree) (b : Budget) → AreOfLanguage ts → TermOfLanguage t → StopsInLanguage (calls.infer (assumptions ts) t b)
  sort_of : (ts : List Tree) (t : Tree) (b : Budget) → AreOfLanguage ts → TermOfLanguage t → StopsInLanguage (calls.sort_of (assumptions ts) t b)

module _ (k : ℕ) (E : Environment) (in_language : EnvironmentOfLanguage E) (calls : Calls) (keeps : CallsKeep E calls) (h : CallsStop E calls) where
  product_stops : (ts : List Tree) (a u : Tree) (b : Budget) → AreOfLanguage ts → TermOfLanguage a → TermOfLanguage u → StopsInLanguage (infer_step (whnf_at k E) calls E (assumptions ts) (prod a u) b)
  product_stops ts a u b g p q =
      then_stops (calls.sort_of (assumptions ts) a b) (λ s. calls.sort_of (assumptions (a ∷ ts)) u >>= λ s'. or_refuse (product_sort s s') (universe_form s s') >>= λ r. give (sort r)) (h.sort_of ts a b g p)
      (λ s b' e. then_stops (calls.sort_of (assumptions (a ∷ ts)) u b') (λ s'. or_refuse (product_sort s s') (universe_form s s') >>= λ r. give (sort r)) (h.sort_of (a ∷ ts) u b' (p, g) q) (λ s' b'' e'.
      subst StopsInLanguage (sym (ap (λ o. (or_refuse o (universe_form s s') >>= λ r. give (sort r)) b'') (product_sort_is s s' (keeps.sort_of ts a s b b' g p e).kind (keeps.sort_of (a ∷ ts) u s' b' b'' (p, g) q e').kind))) tt))

  infer_stops : (ts : List Tree) (t : Tree) (b : Budget) → AreOfLanguage ts → TermOfLanguage t → StopsInLanguage (infer_step (whnf_at k E) calls E (assumptions ts) t b)
  infer_stops ts (rel x) b g p = variable_stops (type_at (assumptions ts) x) x (x + 1) b
  infer_stops ts (sort s) b g p = subst (λ r. StopsInLanguage (type_of_sort r b)) (sym p) tt
  infer_stops ts (const c) b g p = missing_stops (constant_type E c) c b
  infer_stops ts (prod a u) b g p = product_stops ts a u b g p.0 p.1
  infer_stops ts t b g p = absurd p

  sort_stops : (ts : List Tree) (t : Tree) (b : Budget) → AreOfLanguage ts → TermOfLanguage t → StopsInLanguage (sort_step (whnf_at k E) calls (assumptions ts) t b)
  sort_stops ts t b g p =
      then_stops (calls.infer (assumptions ts) t b) (λ S. whnf_at k E (assumptions ts) S >>= as_sort (assumptions ts)) (h.infer ts t b g p)
      (λ S b' e.
      let type = (keeps.infer ts t S b b' g p e).kind in
      then_stops (whnf_at k E (assumptions ts) S b') (as_sort (assumptions ts)) (whnf_stops k E ts S b' in_language type)
      (λ V b'' e'. as_sort_stops (assumptions ts) V b'' (whnf_keeps k E ts S V b' b'' in_language type e').kind))

calls_stop : (k : ℕ) (E : Environment) → EnvironmentOfLanguage E → CallsStop E (calls_at k E)
unfolding calls_at
calls_stop zero E g = record {
  infer = λ ts t b p q. tt;
  sort_of = λ ts t b p q. tt;
}
calls_stop (suc k) E g = record {
  infer = λ ts t b p q. entered_stops (infer_step (whnf_at k E) (calls_at k E) E (assumptions ts) t) (λ b. infer_stops k E g (calls_at k E) (calls_keep k E g) (calls_stop k E g) ts t b p q) b;
  sort_of = λ ts t b p q. entered_stops (sort_step (whnf_at k E) (calls_at k E) (assumptions ts) t) (λ b. sort_stops k E g (calls_at k E) (calls_keep k E g) (calls_stop k E g) ts t b p q) b;
}

calls_stop_from : (d : ℕ) (E : Environment) → EnvironmentOfLanguage E → CallsStop E (calls_from d E)
unfolding calls_from
calls_stop_from d E g = calls_stop (2001 - d) E g

-- The cause of an answer that refuses, where the sort of the type has this outcome.
cause_of_answer : (o : Outcome TreeSort) (budget : ℕ) (cause : Cause) → StopsInLanguage o → answer_of budget (follow o (λ _. all_visible)) ≡ rejects (refused cause) → CauseOfLanguage cause
cause_of_answer (done s b) budget cause h e = absurd (grind arith)
cause_of_answer (stops s) budget cause h e = let same : s ≡ refused cause = cc in subst StopOfLanguage same h

pub refused_for_cause_of_language : (E : Environment) (d : Declaration) (budget : ℕ) (cause : Cause) → EnvironmentOfLanguage E → IsOfLanguage d →
    check_declaration E d budget ≡ rejects (refused cause) → CauseOfLanguage cause
unfolding check_declaration
refused_for_cause_of_language E (axiom_of id type) budget cause g h e =
    cause_of_answer ((calls_from 1 E).sort_of [] type (left budget)) budget cause ((calls_stop_from 1 E g).sort_of [] type (left budget) tt h) e
refused_for_cause_of_language E d budget cause g h e = absurd h
