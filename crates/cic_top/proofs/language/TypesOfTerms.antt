-- What inference comes to in the language: types are of the language again or a universe, sorts are
-- universes, and no constraint is found. So the code needs no constraints, and no other sort.
use Rattle.std.proofs.Common.{◌≡◌, ℕ, zero, suc, ◌+◌, ◌-◌, Option, Some, None, List, ◌∷◌, refl, sym, ap, ◌∙◌, subst, inl, inr, arith}
use Rattle.std.specs.Prelude.{IfSome}
use Rattle.cic_terms.specs.Tree.{TreeSort, Tree, rel, sort, prod, const}
use Rattle.cic_terms.specs.Lift.{lift_tree}
use Rattle.cic_names.specs.declared.constraint.Constraint.{Constraint}
use Rattle.cic_rules.specs.Environment.{Environment, Context, constant_type, type_at}
use Rattle.cic_counted.specs.Outcome.{Budget, Counted, done, stops, ◌>>=◌, give, tick, fitting, or_refuse, Cause, Stopped, unbound, global, local, universe_form}
use Rattle.cic_counted.specs.Evaluation.{whnf_at}
use Rattle.cic_counted.specs.Inference.{Calls, as_sort, product_sort, infer_step, type_of_sort, sort_step, calls_at, calls_from}
use Rattle.cic_counted.proofs.Taken.{follow_done, done_value, done_rest, fitting_done}
use Rattle.cic_top.specs.Language.{TermOfLanguage, EnvironmentOfLanguage, IsUniverse, above_set}
use Rattle.cic_top.proofs.language.Contexts.{TypeOfLanguage, AreOfLanguage, assumptions}
use Rattle.cic_top.proofs.language.Lookups.{constant_types_of_language, variable_types, element_of_language}
use Rattle.cic_top.proofs.language.Evaluation.{whnf_is_itself_at, whnf_at_the_last}

pub lift_of_language : (from by : ℕ) (t : Tree) → TermOfLanguage t → TermOfLanguage (lift_tree from by t)
lift_of_language from by (rel x) h = tt
lift_of_language from by (sort s) h = h
lift_of_language from by (const c) h = tt
lift_of_language from by (prod a b) h = (lift_of_language from by a h.0, lift_of_language (from + 1) by b h.1)
lift_of_language from by t h = absurd h

-- A term of the language is a type of the language.
pub term_is_type : (t : Tree) → TermOfLanguage t → TypeOfLanguage t
term_is_type (sort s) h = inl h
term_is_type t h = h

-- The sort of a product is that of its codomain.
pub product_sort_is : (s s' : TreeSort) → IsUniverse s → IsUniverse s' → product_sort s s' ≡ Some s'
product_sort_is s s' (inl p) (inl q) = rw (p, q) refl
product_sort_is s s' (inl p) (inr q) = rw (p, q) refl
product_sort_is s s' (inr p) (inl q) = rw (p, q) refl
product_sort_is s s' (inr p) (inr q) = rw (p, q) refl

-- A call that is done with a value of a kind, and that finds nothing.
pub record Keeps {A : Type 0} (P : A → Type 0) (before : Budget) (value : A) (after : Budget) : Type 0 where
  pub kind : P value
  pub found : after.found ≡ before.found

stops_not_done : {A : Type 0} {s : Stopped} {v : A} {b : Budget} → stops s ≡ done v b → ⊥
stops_not_done e = grind arith

kept : {A : Type 0} {P : A → Type 0} {v w : A} {b b' : Budget} → P v → done v b ≡ done w b' → Keeps P b w b'
kept {A} {P} h e = record { kind = subst P (done_value e) h; found = ap (λ (z : Budget). z.found) (sym (done_rest e)) }

kept_then : {A : Type 0} {P : A → Type 0} {v : A} {b b' b'' : Budget} → b'.found ≡ b.found → Keeps P b' v b'' → Keeps P b v b''
kept_then f k = record { kind = k.kind; found = k.found ∙ f }

tick_keeps : (rest : ℕ) (found : List Constraint) (u : Unit {0}) (b : Budget) → tick (record { rest = rest; found = found }) ≡ done u b → b.found ≡ found
tick_keeps zero found u b e = absurd (grind arith)
tick_keeps (suc rest) found u b e = ap (λ (z : Budget). z.found) (sym (done_rest e))

variable_keeps : (o : Option Tree) (cause : Cause) (by : ℕ) (T : Tree) (b b' : Budget) → IfSome o TermOfLanguage →
    (or_refuse o cause >>= λ a. fitting (lift_tree 0 by a)) b ≡ done T b' → Keeps TypeOfLanguage b T b'
variable_keeps None cause by T b b' h e = absurd (grind arith)
variable_keeps (Some a) cause by T b b' h e =
    let f = fitting_done (lift_tree 0 by a) T b b' e in
    record { kind = subst TypeOfLanguage f.1 (term_is_type (lift_tree 0 by a) (lift_of_language 0 by a h)); found = ap (λ (z : Budget). z.found) (sym f.2) }

constant_keeps : (o : Option Tree) (cause : Cause) (T : Tree) (b b' : Budget) → IfSome o TermOfLanguage → or_refuse o cause b ≡ done T b' → Keeps TypeOfLanguage b T b'
constant_keeps None cause T b b' h e = absurd (grind arith)
constant_keeps (Some a) cause T b b' h e = kept {P = TypeOfLanguage} (term_is_type a h) e

as_sort_keeps : (G : Context) (t : Tree) (s : TreeSort) (b b' : Budget) → TypeOfLanguage t → as_sort G t b ≡ done s b' → Keeps IsUniverse b s b'
as_sort_keeps G (sort s') s b b' h e = kept {P = IsUniverse} h e
as_sort_keeps G t s b b' h e = absurd (grind arith)

entry_keeps : (t v : Tree) (b b' : Budget) → TypeOfLanguage t → (tick >>= λ _. give t) b ≡ done v b' → Keeps TypeOfLanguage b v b'
entry_keeps t v b b' h e =
    let i = follow_done (tick b) (λ _. give t) v b' e in
    kept_then (tick_keeps b.rest b.found i.0 i.1 i.2) (kept {P = TypeOfLanguage} h i.3)

pub whnf_keeps : (k : ℕ) (E : Environment) (ts : List Tree) (t v : Tree) (b b' : Budget) → EnvironmentOfLanguage E → TypeOfLanguage t →
    whnf_at k E (assumptions ts) t b ≡ done v b' → Keeps TypeOfLanguage b v b'
whnf_keeps zero E ts t v b b' g h e = let d = sym (whnf_at_the_last E ts t b) ∙ e in absurd (grind arith)
whnf_keeps (suc k) E ts t v b b' g h e = entry_keeps t v b b' h (sym (whnf_is_itself_at k E ts t b g h) ∙ e)

-- What the calls that are so much less deep keep.
pub record CallsKeep (E : Environment) (calls : Calls) : Type 0 where
  pub infer : (ts : List Tree) (t T : Tree) (b b' : Budget) → AreOfLanguage ts → TermOfLanguage t → calls.infer (assumptions ts) t b ≡ done T b' → Keeps TypeOfLanguage b T b'
  pub sort_of : (ts : List Tree) (t : Tree) (s : TreeSort) (b b' : Budget) → AreOfLanguage ts → TermOfLanguage t → calls.sort_of (assumptions ts) t b ≡ done s b' → Keeps IsUniverse b s b'

module _ (k : ℕ) (E : Environment) (in_language : EnvironmentOfLanguage E) (calls : Calls) (h : CallsKeep E calls) where
  product_keeps : (ts : List Tree) (a u T : Tree) (b b' : Budget) → AreOfLanguage ts → TermOfLanguage a → TermOfLanguage u →
      infer_step (whnf_at k E) calls E (assumptions ts) (prod a u) b ≡ done T b' → Keeps TypeOfLanguage b T b'
  product_keeps ts a u T b b' g p q e =
      let i = follow_done (calls.sort_of (assumptions ts) a b) (λ s. calls.sort_of (assumptions (a ∷ ts)) u >>= λ s'. or_refuse (product_sort s s') (universe_form s s') >>= λ r. give (sort r)) T b' e in
      let j = follow_done (calls.sort_of (assumptions (a ∷ ts)) u i.1) (λ s'. or_refuse (product_sort i.0 s') (universe_form i.0 s') >>= λ r. give (sort r)) T b' i.3 in
      let domain = h.sort_of ts a i.0 b i.1 g p i.2 in
      let codomain = h.sort_of (a ∷ ts) u j.0 i.1 j.1 (p, g) q j.2 in
      kept_then (codomain.found ∙ domain.found)
      (kept {P = TypeOfLanguage} {v = sort j.0} codomain.kind
      (sym (ap (λ o. (or_refuse o (universe_form i.0 j.0) >>= λ r. give (sort r)) j.1) (product_sort_is i.0 j.0 domain.kind codomain.kind)) ∙ j.3))

  infer_keeps : (ts : List Tree) (t T : Tree) (b b' : Budget) → AreOfLanguage ts → TermOfLanguage t →
      infer_step (whnf_at k E) calls E (assumptions ts) t b ≡ done T b' → Keeps TypeOfLanguage b T b'
  infer_keeps ts (rel x) T b b' g p e =
      variable_keeps (type_at (assumptions ts) x) (unbound (local x)) (x + 1) T b b'
      (subst (λ o. IfSome o TermOfLanguage) (sym (variable_types ts x)) (element_of_language ts x g)) e
  infer_keeps ts (sort s) T b b' g p e =
      kept {P = TypeOfLanguage} {v = sort above_set} (inr refl) (ap (λ r. type_of_sort r b) (sym p) ∙ e)
  infer_keeps ts (const c) T b b' g p e =
      constant_keeps (constant_type E c) (unbound (global c)) T b b' (constant_types_of_language E c in_language) e
  infer_keeps ts (prod a u) T b b' g p e = product_keeps ts a u T b b' g p.0 p.1 e
  infer_keeps ts t T b b' g p e = absurd p

  sort_keeps : (ts : List Tree) (t : Tree) (s : TreeSort) (b b' : Budget) → AreOfLanguage ts → TermOfLanguage t →
      sort_step (whnf_at k E) calls (assumptions ts) t b ≡ done s b' → Keeps IsUniverse b s b'
  sort_keeps ts t s b b' g p e =
      let i = follow_done (calls.infer (assumptions ts) t b) (λ S. whnf_at k E (assumptions ts) S >>= as_sort (assumptions ts)) s b' e in
      let j = follow_done (whnf_at k E (assumptions ts) i.0 i.1) (as_sort (assumptions ts)) s b' i.3 in
      let type = h.infer ts t i.0 b i.1 g p i.2 in
      let form = whnf_keeps k E ts i.0 j.0 i.1 j.1 in_language type.kind j.2 in
      kept_then (form.found ∙ type.found) (as_sort_keeps (assumptions ts) j.0 s j.1 b' form.kind j.3)

entered_keeps : {A : Type 0} {P : A → Type 0} (m : Counted A) → ((v : A) (b b' : Budget) → m b ≡ done v b' → Keeps P b v b') →
    (v : A) (b b' : Budget) → (tick >>= λ _. m) b ≡ done v b' → Keeps P b v b'
entered_keeps m h v b b' e =
    let i = follow_done (tick b) (λ _. m) v b' e in
    kept_then (tick_keeps b.rest b.found i.0 i.1 i.2) (h v i.1 b' i.3)

pub calls_keep : (k : ℕ) (E : Environment) → EnvironmentOfLanguage E → CallsKeep E (calls_at k E)
unfolding calls_at
calls_keep zero E g = record {
  infer = λ ts t T b b' p q e. absurd (stops_not_done e);
  sort_of = λ ts t s b b' p q e. absurd (stops_not_done e);
}
calls_keep (suc k) E g = record {
  infer = λ ts t T b b' p q e. entered_keeps (infer_step (whnf_at k E) (calls_at k E) E (assumptions ts) t) (λ v b b' e. infer_keeps k E g (calls_at k E) (calls_keep k E g) ts t v b b' p q e) T b b' e;
  sort_of = λ ts t s b b' p q e. entered_keeps (sort_step (whnf_at k E) (calls_at k E) (assumptions ts) t) (λ v b b' e. sort_keeps k E g (calls_at k E) (calls_keep k E g) ts t v b b' p q e) s b b' e;
}

pub calls_keep_from : (d : ℕ) (E : Environment) → EnvironmentOfLanguage E → CallsKeep E (calls_from d E)
unfolding calls_from
calls_keep_from d E g = calls_keep (2001 - d) E g
