-- From a step of a search back to its start: the edges on the way, in order, are a walk to where the step leads.
-- With the new constraint before them they are the walk that shows a conflict.
use Rattle.std.proofs.Common.{◌≡◌, ◌∙◌, ◌⊎◌, inl, inr, ◌<◌, ℕ, zero, suc, List, [], ◌∷◌, ◌++◌, length, reverse, Bool, true, false, refl, ap, sym, subst, arith}
use Rattle.std.specs.Prelude.{Some, slice_get, ◌||◌, Contains, Result, Ok, Err, IfOk}
use Rattle.std.proofs.lemmas.List.{reverse-append}
use Rattle.std.proofs.lemmas.Option.{slice_get_within}
use Rattle.std.proofs.lemmas.List.Elements.{Contains-append_left, Contains-append_right, Contains-append_cases}
use Rattle.cic_names.specs.declared.level.LevelName.{LevelName}
use Rattle.cic_names.specs.declared.level.Level.{Level}
use Rattle.cic_names.specs.declared.level.Level.TheVariants.{Set, Named}
use Rattle.univ_cycles.specs.declared.cycle.Tag.TheVariants.{Levels}
use Rattle.cic_rules.specs.Numbering.{Chain}
use Rattle.univ_cycles.specs.declared.cycle.Tagged.{Tagged}
use Rattle.univ_graph.specs.declared.board.Edge.{Edge}
use Rattle.univ_graph.specs.declared.board.Board.{Board}
use Rattle.univ_graph.specs.declared.spread.Step.{Step}
use Rattle.univ_cycles.specs.Numbers.{constraints}
use Rattle.univ_cycles.specs.calls.Walks.{has_strict, IsClosedAt, IsPartOf}
use Rattle.univ_cycles.specs.calls.Places.{level_at}
use Rattle.univ_graph.specs.Kept.{AreStepsAmong}
use Rattle.univ_graph.specs.calls.Boards.{IsSound, IsSpread, IsConflictWalk, tagged}
use Rattle.univ_nodes.proofs.AtPlaces.{same_some}
use Rattle.univ_cycles.proofs.WalkLaws.{one_member}

-- The steps to a list of tagged constraints, of which the last is the first of the way.
pub record IsWayBack (b : Board) (steps : List Step) (goal : Level) (j : ℕ) (back : List Tagged) : Type 0 where
  pub step : Step
  pub step_is : slice_get steps j ≡ Some step
  pub chain : (l : Level) → level_at b.names step.place ≡ Some l → Chain l (constraints (reverse back)) goal
  pub strict : (step.strict || has_strict (reverse back)) ≡ true
  pub among : (t : Tagged) → Contains (reverse back) t → Contains (tagged b.edges.items) t

tagged_member : (edges : List Edge) (k : ℕ) (r : Edge) → slice_get edges k ≡ Some r → Contains (tagged edges) r.tagged
tagged_member [] k r is = absurd (cc)
tagged_member (x ∷ edges) zero r is = (zero, omega arith, ap (λ z. z.tagged) (same_some x r is))
tagged_member (x ∷ edges) (suc k) r is =
    let m = tagged_member edges k r is in
    let lt : m.0 < length (tagged edges) = m.1 in (suc m.0, omega arith, m.2)

reverse_more : (xs : List Tagged) (x : Tagged) → reverse (xs ++ x ∷ []) ≡ x ∷ reverse xs
reverse_more xs x = reverse-append xs (x ∷ [])

or_moved : (a b c s : Bool) → s ≡ (a || b) → (s || c) ≡ true → (a || (b || c)) ≡ true
or_moved true b c s e h = refl
or_moved false b c s e h = sym (ap (λ z. z || c) e) ∙ h

first_or_rest : (x t : Tagged) (xs : List Tagged) → Contains (x ∷ xs) t → (x ≡ t) ⊎ Contains xs t
first_or_rest x t xs h = elim (Contains-append_cases (x ∷ []) xs t h) [
  | inl a ↦ inl (one_member x t a)
  | inr b ↦ inr b
]

pub back_start : (b : Board) (steps : List Step) (goal : Level) (j left : ℕ) (s : Step) → slice_get steps j ≡ Some s → s.place ≡ left → s.strict ≡ true →
    level_at b.names left ≡ Some goal → IsWayBack b steps goal j []
back_start b steps goal j left s is place strict at_left = record {
  step = s;
  step_is = is;
  chain = λ l at_l. same_some l goal (sym at_l ∙ ap (level_at b.names) place ∙ at_left);
  strict = ap (λ z. z || false) strict;
  among = λ t h. let lt : h.0 < 0 = h.1 in absurd (omega arith);
}

pub back_more : (b : Board) (from : ℕ) (way : Bool) (n : ℕ) (marks : List ℕ) (steps : List Step) (goal : Level) (j : ℕ) (s : Step) (r : Edge) (back : List Tagged) (t : Tagged) →
    IsSound b → IsSpread b from way n marks steps → IsWayBack b steps goal (suc j) back → slice_get steps (suc j) ≡ Some s →
    slice_get b.edges.items s.edge ≡ Some r → t ≡ r.tagged → IsWayBack b steps goal s.before (back ++ t ∷ [])
back_more b from way n marks steps goal j s r back t sound h w is at_edge same =
    let link = h.linked j s is in
    let e : link.edge ≡ r = same_some link.edge r (sym link.edge_is ∙ at_edge) in
    let mine : w.step ≡ s = same_some w.step s (sym w.step_is ∙ is) in
    let turned = reverse_more back t in
    let tied = sound.tied s.edge r at_edge in
    let leaves : r.left ≡ link.step.place = ap (λ z. z.left) (sym e) ∙ link.leaves in
    let arrives : r.right ≡ w.step.place = ap (λ z. z.right) (sym e) ∙ link.arrives ∙ ap (λ z. z.place) (sym mine) in
    let on : w.step.strict ≡ (link.step.strict || r.tagged.constraint.strict) =
    ap (λ z. z.strict) mine ∙ link.strict ∙ ap (λ z. link.step.strict || z.tagged.constraint.strict) e in
    record {
      step = link.step;
      step_is = link.step_is;
      chain = λ l at_l.
          let left : r.tagged.constraint.left ≡ l = same_some r.tagged.constraint.left l (sym tied.0 ∙ ap (level_at b.names) leaves ∙ at_l) in
          let rest : Chain r.tagged.constraint.right (constraints (reverse back)) goal = w.chain r.tagged.constraint.right (ap (level_at b.names) (sym arrives) ∙ tied.1) in
          let whole : Chain l (constraints (r.tagged ∷ reverse back)) goal = (left, rest) in
          subst (λ z. Chain l (constraints z) goal) (ap (λ z. z ∷ reverse back) (sym same) ∙ sym turned) whole;
      strict =
          let k : (link.step.strict || (r.tagged.constraint.strict || has_strict (reverse back))) ≡ true =
          or_moved link.step.strict r.tagged.constraint.strict (has_strict (reverse back)) w.step.strict on w.strict in
          subst (λ z. (link.step.strict || has_strict z) ≡ true) (ap (λ z. z ∷ reverse back) (sym same) ∙ sym turned) k;
      among = λ u has. elim (first_or_rest t u (reverse back) (subst (λ z. Contains z u) turned has)) [
        | inl first ↦ subst (λ z. Contains (tagged b.edges.items) z) (sym same ∙ first) (tagged_member b.edges.items s.edge r at_edge)
        | inr rest ↦ w.among u rest
      ];
    }

pub back_whole : (b : Board) (from n left : ℕ) (marks : List ℕ) (steps : List Step) (asked t : Tagged) (back : List Tagged) →
    IsSpread b from asked.constraint.strict n marks steps → level_at b.names from ≡ Some asked.constraint.right → IsWayBack b steps asked.constraint.left 0 back → t ≡ asked →
    IsConflictWalk asked.constraint.left (tagged b.edges.items ++ asked ∷ []) (reverse (back ++ t ∷ []))
back_whole b from n left marks steps asked t back h at_from w same =
    let turned = reverse_more back t ∙ ap (λ z. z ∷ reverse back) same in
    let mine : h.first.0 ≡ w.step = same_some h.first.0 w.step (sym h.first.1 ∙ w.step_is) in
    let place : w.step.place ≡ from = ap (λ z. z.place) (sym mine) ∙ h.first.2 in
    let way : w.step.strict ≡ asked.constraint.strict = ap (λ z. z.strict) (sym mine) ∙ h.first.3 in
    let rest : Chain asked.constraint.right (constraints (reverse back)) asked.constraint.left = w.chain asked.constraint.right (ap (level_at b.names) place ∙ at_from) in
    let closed : IsClosedAt asked.constraint.left (asked ∷ reverse back) = (refl, rest) in
    record {
      closed = subst (λ z. IsClosedAt asked.constraint.left z) (sym turned) closed;
      strict = ap has_strict turned ∙ sym (ap (λ z. z || has_strict (reverse back)) way) ∙ w.strict;
      steps = λ u has. elim (first_or_rest asked u (reverse back) (subst (λ z. Contains z u) turned has)) [
        | inl first ↦ inl (Contains-append_right (tagged b.edges.items) (asked ∷ []) u (zero, omega arith, first))
        | inr more ↦ inl (Contains-append_left (tagged b.edges.items) (asked ∷ []) u (w.among u more))
      ];
    }

pub back_step : (b : Board) (from : ℕ) (way : Bool) (n : ℕ) (marks : List ℕ) (steps : List Step) (goal : Level) (j : ℕ) (s : Step) (r : Edge) (back : List Tagged) (t : Tagged) →
    0 < j → IsSound b → IsSpread b from way n marks steps → IsWayBack b steps goal j back → slice_get steps j ≡ Some s →
    slice_get b.edges.items s.edge ≡ Some r → t ≡ r.tagged → IsWayBack b steps goal s.before (back ++ t ∷ [])
back_step b from way n marks steps goal zero s r back t lt sound h w is at_edge same = absurd (omega arith)
back_step b from way n marks steps goal (suc j) s r back t lt sound h w is at_edge same = back_more b from way n marks steps goal j s r back t sound h w is at_edge same

-- A step behind the first one comes along an edge, from an earlier step.
pub step_back : (b : Board) (from : ℕ) (way : Bool) (n : ℕ) (marks : List ℕ) (steps : List Step) (j : ℕ) (s : Step) → 0 < j → IsSpread b from way n marks steps →
    slice_get steps j ≡ Some s → (s.edge < length b.edges.items) × (s.before < j)
step_back b from way n marks steps zero s lt h is = absurd (omega arith)
step_back b from way n marks steps (suc j) s lt h is =
    let l = h.linked j s is in
    let e = l.earlier in (slice_get_within b.edges.items s.edge l.edge l.edge_is, omega arith)

-- ---- where the right end is Set

abbrev pub above : LevelName → Tagged
above l = record { constraint = record { left = Set; strict = true; right = Named l }; tag = Levels }

pub walk_one : (asked t : Tagged) (w : List Tagged) → asked.constraint.right ≡ Set → asked.constraint.left ≡ Set → asked.constraint.strict ≡ true → t ≡ asked → w ≡ t ∷ [] →
    IsConflictWalk Set (asked ∷ []) w
walk_one asked t w right left way same is = subst (λ z. IsConflictWalk Set (asked ∷ []) z) (ap (λ z. z ∷ []) (sym same) ∙ sym is) (record {
  closed = (left, right);
  strict = rw way refl;
  steps = λ u has. inl has;
})

pub walk_two : (asked s t : Tagged) (l : LevelName) (w : List Tagged) → asked.constraint.right ≡ Set → asked.constraint.left ≡ Named l → s ≡ above l → t ≡ asked → w ≡ s ∷ t ∷ [] →
    IsConflictWalk Set (asked ∷ []) w
walk_two asked s t l w right left up same is =
    let whole : w ≡ above l ∷ asked ∷ [] = is ∙ ap (λ z. z ∷ t ∷ []) up ∙ ap (λ z. above l ∷ z ∷ []) same in
    subst (λ z. IsConflictWalk Set (asked ∷ []) z) (sym whole) (record {
      closed = (refl, (left, right));
      strict = refl;
      steps = λ u has. elim (first_or_rest (above l) u (asked ∷ []) has) [
        | inl first ↦ inr (l, sym first)
        | inr rest ↦ inl rest
      ];
    })

pub if_ok_map : {A E : Type 0} (P Q : A → Type 0) (r : Result A E) → ((x : A) → P x → Q x) → IfOk r P → IfOk r Q
if_ok_map P Q (Ok x) f h = f x h
if_ok_map P Q (Err e) f h = h

pub if_ok_here : {A E : Type 0} (P : A → Type 0) (r : Result A E) (x : A) → r ≡ Ok x → IfOk r P → P x
if_ok_here P r x e h = subst (λ z. IfOk z P) e h

pub steps_of_last : (all : List Tagged) (asked : Tagged) (w : List Tagged) → AreStepsAmong (asked ∷ []) w → AreStepsAmong (all ++ asked ∷ []) w
steps_of_last all asked w h t has = elim (h t has) [
  | inl a ↦ inl (Contains-append_right all (asked ∷ []) t a)
  | inr b ↦ inr b
]

pub steps_of_part : (all walk cycle : List Tagged) → IsPartOf cycle walk → AreStepsAmong all walk → AreStepsAmong all cycle
steps_of_part all walk cycle part h t has = h t (part t has)
