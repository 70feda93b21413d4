-- What a whole graph answers: its numbers are a witness, a constraint that it takes leaves it whole, and a cycle shows that none could be taken.
-- The public contract on constraints rests on these.
use Rattle.std.proofs.Common.{◌≡◌, ◌∙◌, ◌⊎◌, inl, inr, ◌<◌, ◌≤◌, ◌+◌, ◌^◌, ℕ, zero, suc, List, [], ◌∷◌, ◌++◌, length, true, refl, ap, sym, subst, arith}
use Rattle.std.specs.Prelude.{Option, Some, None, Contains, slice_index_or, Result, Ok, Err, OnOk, OnErr, IfErr}
use Rattle.cic_names.specs.declared.level.LevelName.{LevelName}
use Rattle.cic_names.specs.declared.level.Level.{Level}
use Rattle.cic_names.specs.declared.level.Level.TheVariants.{Set, Named}
use Rattle.cic_names.specs.declared.constraint.Constraint.{Constraint}
use Rattle.cic_names.specs.Sameness.{same_level_name}
use Rattle.cic_rules.specs.Numbering.{Numbering, level_number, IsNumbering, Meets, MeetsAll, Consistent, IsCycle}
use Rattle.univ_cycles.specs.declared.cycle.Tagged.{Tagged}
use Rattle.univ_cycles.specs.declared.cycle.Tag.TheVariants as T
use Rattle.univ_graph.specs.declared.board.Edge.{Edge}
use Rattle.univ_graph.specs.declared.board.Board.{Board}
use Rattle.univ_graph.specs.declared.fault.GraphFault.{GraphFault}
use Rattle.univ_graph.specs.declared.fault.GraphFault.TheVariants.{Conflict, Limit, NoMemory}
use Rattle.univ_cycles.specs.Numbers.{constraints}
use Rattle.univ_cycles.specs.calls.Places.{level_at, paired, rest}
use Rattle.univ_graph.specs.Kept.{Kept, AreStepsAmong, Answers, IsWitness, with_ends, named_levels, level_count, level_limit}
use Rattle.univ_nodes.specs.calls.Bands.{AreBands}
use Rattle.univ_graph.specs.calls.Boards.{at, tagged, kept, kept_of, AreNumbers, IsSound, IsWhole, AreWhole, IsConflictAmong}
use Rattle.cic_names.proofs.Equality.{same_level_name_decides}
use Rattle.univ_cycles.proofs.LevelNumbers.{true_or_false, number_here}
use Rattle.univ_cycles.proofs.Cycles.{meets_each, meets_all, cycle_not_consistent}
use Rattle.univ_cycles.proofs.WalkLaws.{constraints_append}
use Rattle.univ_graph.proofs.Soundness.{AreLists, sound_of}
use Rattle.univ_graph.proofs.LevelLists.{AreDistinct, distinct_from, levels_from_more, kept_numbering, kept_number, edges_meet, kept_levels}

names_distinct : (b : Board) → IsWhole b → AreDistinct b.names
names_distinct b h = subst AreDistinct (sym h.names) (distinct_from [] (constraints (tagged b.edges.items)) tt)

pub number_at_place : (b : Board) (p : ℕ) (l : Level) → IsWhole b → level_at b.names p ≡ Some l → level_number (kept b).numbers l ≡ at b.numbers.items p
number_at_place b p l h is = kept_number b.names b.numbers.items p l (names_distinct b h) h.sound.numbers is

pub witness_of : (b : Board) → IsWhole b → IsWitness (kept b)
witness_of b h = record {
  is_numbering = kept_numbering b.names b.numbers.items (names_distinct b h) h.sound.numbers;
  meets = edges_meet b.names b.numbers.items b.edges.items (names_distinct b h) h.sound.numbers h.sound.tied h.sound.met;
  levels = kept_levels b.names b.numbers.items h.sound.numbers ∙ h.names;
}

-- So they are before the first constraint.
pub witness_kept : (board : Option Board) → AreWhole board → IsWitness (kept_of board)
witness_kept None h = record { is_numbering = tt; meets = tt; levels = refl }
witness_kept (Some b) h = witness_of b h

first_numbers : AreNumbers [] (0 ∷ [])
first_numbers = record {
  lengths = omega arith;
  set = refl;
  positive = λ p lt. absurd (omega arith);
  bounded = small;
}
  where
    small : (p : ℕ) → at (0 ∷ []) p ≤ 2 ^ 30
    small zero = omega arith
    small (suc p) = omega arith

no_lists : (b : Board) → length b.outgoing.lists.items ≡ 1 → length b.incoming.lists.items ≡ 1 → AreLists b 1 []
no_lists b out into = record {
  roomy = omega arith;
  roomy_into = omega arith;
  listed = λ k r is. absurd (cc);
  listed_into = λ k r is. absurd (cc);
}

pub whole_new : (b : Board) → b.names ≡ [] → b.numbers.items ≡ 0 ∷ [] → AreBands b.bands.bands.items (0 ∷ []) → length b.outgoing.lists.items ≡ 1 → length b.incoming.lists.items ≡ 1 → b.edges.items ≡ [] →
    IsWhole b
whole_new b names numbers bands out into edges = record {
  sound = sound_of b [] (0 ∷ []) [] (record { names_are = names; numbers_are = numbers; edges_are = edges }) first_numbers bands (no_lists b out into) (λ k r is. absurd (cc)) (λ k r is. absurd (cc));
  names = names ∙ sym (ap (λ z. named_levels (constraints (tagged z))) edges);
  few = subst (λ z. length z + 1 ≤ level_limit) (sym names) (omega arith);
}

pub kept_new : (names : List LevelName) (ns : List ℕ) (edges : List Edge) → names ≡ [] → edges ≡ [] →
    ◌≡◌ {A = Kept} (record { enforced = tagged edges; numbers = paired names (rest ns) }) (record { enforced = []; numbers = [] })
kept_new names ns edges no_names no_edges = cc (ap (λ z. paired z (rest ns)) no_names, ap tagged no_edges)

-- The names of the levels with one more constraint.
names_with : (b : Board) (t : Tagged) → IsWhole b → named_levels (constraints (tagged b.edges.items ++ t ∷ [])) ≡ with_ends b.names t.constraint
names_with b t h =
    ap named_levels (constraints_append (tagged b.edges.items) (t ∷ [])) ∙ levels_from_more [] (constraints (tagged b.edges.items)) (t.constraint ∷ [])
    ∙ ap (λ z. with_ends z t.constraint) (sym h.names)

pub count_with : (b : Board) (t : Tagged) → IsWhole b → level_count (constraints (tagged b.edges.items ++ t ∷ [])) ≡ length (with_ends b.names t.constraint) + 1
count_with b t h = ap (λ z. length z + 1) (names_with b t h)

pub whole_after : (old new : Board) (t : Tagged) (r : Result (Unit {0}) GraphFault) → IsWhole old → IsSound new → OnOk r (new.names ≡ with_ends old.names t.constraint) →
    OnOk r (tagged new.edges.items ≡ tagged old.edges.items ++ t ∷ []) → OnErr r (new.names ≡ old.names) → OnErr r (new.edges.items ≡ old.edges.items) →
    length (with_ends old.names t.constraint) + 1 ≤ level_limit → IsWhole new
whole_after old new t (Ok x) h sound names taken same_names same_edges few = record {
  sound = sound;
  names = names ∙ sym (names_with old t h) ∙ sym (ap (λ z. named_levels (constraints z)) taken);
  few = subst (λ z. length z + 1 ≤ level_limit) (sym names) few;
}
whole_after old new t (Err e) h sound names taken same_names same_edges few = record {
  sound = sound;
  names = same_names ∙ h.names ∙ sym (ap (λ z. named_levels (constraints (tagged z))) same_edges);
  few = subst (λ z. length z + 1 ≤ level_limit) (sym same_names) h.few;
}

-- ---- a cycle of these constraints and of levels above Set

number_positive : (N : Numbering) (l : LevelName) → IsNumbering N → 1 ≤ level_number N (Named l)
number_positive [] l h = omega arith
number_positive (a ∷ N) l h = elim (true_or_false (same_level_name a.level l)) [
  | inl t ↦ let e = number_here a N l ((same_level_name_decides a.level l).0 t) in let o = h.0 in omega arith
  | inr f ↦ rw f (number_positive N l h.2)
]

constraint_member : (all : List Tagged) (t : Tagged) (k : ℕ) → k < length all → slice_index_or all k t ≡ t → Contains (constraints all) t.constraint
constraint_member [] t k lt is = absurd (omega arith)
constraint_member (x ∷ all) t zero lt is = (zero, omega arith, ap (λ z. z.constraint) is)
constraint_member (x ∷ all) t (suc k) lt is =
    let m = constraint_member all t k (omega arith) is in
    let less : m.0 < length (constraints all) = m.1 in (suc m.0, omega arith, m.2)

tagged_of : (all : List Tagged) (c : Constraint) (k : ℕ) → k < length (constraints all) → slice_index_or (constraints all) k c ≡ c → (t : Tagged) × Contains all t × (t.constraint ≡ c)
tagged_of [] c k lt is = absurd (omega arith)
tagged_of (x ∷ all) c zero lt is = (x, (zero, omega arith, refl), is)
tagged_of (x ∷ all) c (suc k) lt is =
    let m = tagged_of all c k (omega arith) is in
    let less : m.1.0 < length all = m.1.1 in (m.0, (suc m.1.0, omega arith, m.1.2), m.2)

step_met : (all : List Tagged) (N : Numbering) (t : Tagged) → IsNumbering N → MeetsAll N (constraints all) → (Contains all t) ⊎ ((l : LevelName) × (t ≡ record { constraint = record { left = Set; strict = true; right = Named l }; tag = T.Levels })) →
    Meets N t.constraint
step_met all N t numbered meets (inl has) =
    let m = constraint_member all t has.0 has.1 has.2 in meets_each N (constraints all) t.constraint m.0 meets m.1 m.2
step_met all N t numbered meets (inr up) =
    let one : 0 < level_number N (Named up.0) = number_positive N up.0 numbered in
    subst (λ z. Meets N z.constraint) (sym up.1) one

pub not_consistent : (all cycle : List Tagged) → IsCycle (constraints cycle) → AreStepsAmong all cycle → Consistent (constraints all) → ⊥
not_consistent all cycle cyc steps k =
    cycle_not_consistent (constraints cycle) (constraints cycle) cyc (λ c h. h) (record {
      numbering = k.numbering;
      is_numbering = k.is_numbering;
      meets = meets_all k.numbering (constraints cycle) (λ c has.
          let t = tagged_of cycle c has.0 has.1 has.2 in
          subst (λ z. Meets k.numbering z) t.2 (step_met all k.numbering t.0 k.is_numbering k.meets (steps t.0 t.1)));
    })

pub answers_of : (old new : Board) (t : Tagged) (r : Result (Unit {0}) GraphFault) → IsWhole old → IsWhole new →
    OnOk r (tagged new.edges.items ≡ tagged old.edges.items ++ t ∷ []) → OnErr r (kept new ≡ kept old) → IfErr r (IsConflictAmong (tagged old.edges.items ++ t ∷ [])) →
    length (with_ends old.names t.constraint) + 1 ≤ level_limit → Answers (kept old) (kept new) t r
answers_of old new t (Ok x) h whole taken same conflict few =
    let w = witness_of new whole in (
      taken,
      subst (λ z. level_count (constraints z) ≤ level_limit) (sym taken) (subst (λ z. z ≤ level_limit) (sym (count_with old t h)) few),
      record { numbering = (kept new).numbers; is_numbering = w.is_numbering; meets = w.meets },
    )
answers_of old new t (Err (Conflict cycle)) h whole taken same conflict few =
    (same, (subst (λ z. z ≤ level_limit) (sym (count_with old t h)) few, not_consistent (tagged old.edges.items ++ t ∷ []) cycle conflict.0 conflict.1, conflict.0, conflict.1))
answers_of old new t (Err (Limit n)) h whole taken same conflict few = absurd conflict
answers_of old new t (Err NoMemory) h whole taken same conflict few = (same, tt)
