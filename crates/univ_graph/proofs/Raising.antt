-- Raised numbers, and numbers in the same order that are close together, meet what they have to meet.
-- So a graph has new numbers for its levels where no strict way leads back to the new constraint.
use Rattle.std.proofs.Common.{◌≡◌, ◌∙◌, ◌<◌, ◌≤◌, ◌+◌, ℕ, zero, suc, List, [], ◌∷◌, length, Bool, true, false, refl, ap, sym, subst, arith}
use Rattle.std.specs.Prelude.{Some, slice_get, ◌||◌}
use Rattle.cic_names.specs.declared.level.LevelName.{LevelName}
use Rattle.cic_rules.specs.Numbering.{MeetsAt}
use Rattle.univ_graph.specs.declared.board.Edge.{Edge}
use Rattle.univ_graph.specs.declared.board.Board.{Board}
use Rattle.univ_graph.specs.declared.spread.Step.{Step}
use Rattle.cic_names.specs.declared.level.Level.{Level}
use Rattle.cic_names.specs.declared.level.Level.TheVariants.{Named}
use Rattle.std.specs.Option.{option_map}
use Rattle.std.proofs.lemmas.Option.{slice_get_within}
use Rattle.univ_cycles.specs.calls.Places.{level_at}
use Rattle.univ_graph.specs.calls.Boards.{at, mark_of, raised, all_raised, least_of, AreNumbers, AreInOrder, AreRaised, IsSound, IsSpread}
use Rattle.univ_nodes.proofs.AtPlaces.{at_within}

pub all_raised_length : (least : ℕ) (ns ms : List ℕ) → length ms ≡ length ns → length (all_raised least ns ms) ≡ length ns
all_raised_length least [] ms e = refl
all_raised_length least (n ∷ ns) [] e = absurd (omega arith)
all_raised_length least (n ∷ ns) (m ∷ ms) e = let r = all_raised_length least ns ms (omega arith) in omega arith

pub raised_at : (least : ℕ) (ns ms : List ℕ) (p : ℕ) → length ms ≡ length ns → p < length ns → at (all_raised least ns ms) p ≡ raised least (at ns p) (at ms p)
raised_at least [] ms p e lt = absurd (omega arith)
raised_at least (n ∷ ns) [] p e lt = absurd (omega arith)
raised_at least (n ∷ ns) (m ∷ ms) zero e lt = refl
raised_at least (n ∷ ns) (m ∷ ms) (suc p) e lt = raised_at least ns ms p (omega arith) (omega arith)

raised_grows : (least n m : ℕ) → n ≤ raised least n m
raised_grows least n zero = omega arith
raised_grows least n (suc zero) = omega arith
raised_grows least n (suc (suc m)) = omega arith

-- A constraint between places is still met, where the mark of its right place is as high as it has to be.
raised_meets : (least n n' m m' : ℕ) (b : Bool) → m ≤ 2 → m' ≤ 2 → (m ≡ 1 → mark_of (false || b) ≤ m') → (m ≡ 2 → mark_of (true || b) ≤ m') →
    MeetsAt b n n' → MeetsAt b (raised least n m) (raised least n' m')
raised_meets least n n' zero m' true small small' one two h = let g = raised_grows least n' m' in omega arith
raised_meets least n n' zero m' false small small' one two h = let g = raised_grows least n' m' in omega arith
raised_meets least n n' (suc zero) zero b small small' one two h = let k = one refl in absurd (by b k)
  where
    by : (c : Bool) → mark_of (false || c) ≤ 0 → ⊥
    by true k = omega arith
    by false k = omega arith
raised_meets least n n' (suc zero) (suc zero) true small small' one two h = let k = one refl in absurd (omega arith)
raised_meets least n n' (suc zero) (suc zero) false small small' one two h = omega arith
raised_meets least n n' (suc zero) (suc (suc m')) true small small' one two h = omega arith
raised_meets least n n' (suc zero) (suc (suc m')) false small small' one two h = omega arith
raised_meets least n n' (suc (suc zero)) zero b small small' one two h = let k = two refl in absurd (omega arith)
raised_meets least n n' (suc (suc zero)) (suc zero) b small small' one two h = let k = two refl in absurd (omega arith)
raised_meets least n n' (suc (suc zero)) (suc (suc m')) true small small' one two h = omega arith
raised_meets least n n' (suc (suc zero)) (suc (suc m')) false small small' one two h = omega arith
raised_meets least n n' (suc (suc (suc m))) m' b small small' one two h = absurd (omega arith)

-- The new constraint is met.
raised_new : (n n' m m' : ℕ) (b : Bool) → m ≤ 2 → m' ≤ 2 → (m ≡ 2 → ⊥) → 1 ≤ n' → mark_of b ≤ m' →
    MeetsAt b (raised (least_of b n) n m) (raised (least_of b n) n' m')
raised_new n n' (suc (suc m)) m' b small small' none one up = let z : m ≡ 0 = omega arith in absurd (none (ap (λ k. suc (suc k)) z))
raised_new n n' m zero true small small' none one up = absurd (omega arith)
raised_new n n' m zero false small small' none one up = absurd (omega arith)
raised_new n n' m (suc zero) true small small' none one up = absurd (omega arith)
raised_new n n' zero (suc zero) false small small' none one up = omega arith
raised_new n n' (suc zero) (suc zero) false small small' none one up = omega arith
raised_new n n' zero (suc (suc m')) true small small' none one up = omega arith
raised_new n n' zero (suc (suc m')) false small small' none one up = omega arith
raised_new n n' (suc zero) (suc (suc m')) true small small' none one up = omega arith
raised_new n n' (suc zero) (suc (suc m')) false small small' none one up = omega arith

mark_one : (b : Bool) → mark_of b ≡ 1 → b ≡ false
mark_one true h = absurd (omega arith)
mark_one false h = refl

mark_two : (b : Bool) → mark_of b ≡ 2 → b ≡ true
mark_two true h = refl
mark_two false h = absurd (omega arith)

pub place_within : (names : List LevelName) (p : ℕ) (l : Level) → level_at names p ≡ Some l → p < length names + 1
place_within names zero l h = omega arith
place_within names (suc p) l h = let r = inside names p l h in omega arith
  where
    inside : (ns : List LevelName) (q : ℕ) (k : Level) → option_map Named (slice_get ns q) ≡ Some k → q < length ns
    inside [] q k e = absurd (cc)
    inside (n ∷ ns) zero k e = omega arith
    inside (n ∷ ns) (suc q) k e = let r = inside ns q k e in omega arith

-- Edges with a marked left place have their right place marked.
closed_edge : (b : Board) (from : ℕ) (way : Bool) (marks : List ℕ) (steps : List Step) (m : ℕ) (s : Bool) (k : ℕ) (r : Edge) → IsSpread b from way (length steps) marks steps →
    slice_get b.edges.items k ≡ Some r → 1 ≤ at marks r.left → at marks r.left ≡ m → ((t : Bool) → mark_of t ≡ m → t ≡ s) →
    mark_of (s || r.tagged.constraint.strict) ≤ at marks r.right
closed_edge b from way marks steps m s k r h is one e only =
    let w = h.witness r.left one in
    let t : w.1.strict ≡ s = only w.1.strict (w.4 ∙ e) in
    let c = h.closed w.0 w.1 (slice_get_within steps w.0 w.1 w.2) w.2 k r is (sym w.3) in
    subst (λ z. mark_of (z || r.tagged.constraint.strict) ≤ at marks r.right) t c

zero_or : (n : ℕ) → (1 ≤ n → ⊥) → n ≡ 0
zero_or zero h = refl
zero_or (suc n) h = absurd (h (omega arith))

pub raised_good : (b : Board) (left right : ℕ) (strict : Bool) (marks : List ℕ) (steps : List Step) (v : List ℕ) → IsSound b → IsSpread b right strict (length steps) marks steps →
    ((j : ℕ) (s : Step) → slice_get steps j ≡ Some s → s.place ≡ left → s.strict ≡ true → ⊥) → left < length b.numbers.items → 1 ≤ at b.numbers.items right →
    AreInOrder (all_raised (least_of strict (at b.numbers.items left)) b.numbers.items marks) v → AreRaised b left right strict v
raised_good b left right strict marks steps v sound h none within one ordered =
    let ns = b.numbers.items in
    let least = least_of strict (at ns left) in
    let after = all_raised least ns marks in
    let lengths : length after ≡ length ns = all_raised_length least ns marks h.lengths in
    let rl = at_within ns right one in
    let numbers = sound.numbers in
    let no_set : 1 ≤ at marks 0 → ⊥ = λ up.
    let w = h.witness 0 up in
    let a = h.above w.0 w.1 w.2 in
    let z : at ns w.1.place ≡ 0 = ap (at ns) w.3 ∙ numbers.set in omega arith
    in
    let first : 0 < length ns = let l = numbers.lengths in omega arith in
    let set_after : at after 0 ≡ 0 =
    let r = raised_at least ns marks 0 h.lengths first in
    let m : at marks 0 ≡ 0 = zero_or (at marks 0) no_set in
    r ∙ ap (raised least (at ns 0)) m ∙ numbers.set
    in
    let new_right : mark_of strict ≤ at marks right = h.start in
    record {
      numbers_are = record {
        lengths = ordered.lengths ∙ lengths ∙ numbers.lengths;
        set = ordered.set set_after;
        positive = λ p lt.
            let lp : suc p < length ns = let a = ordered.lengths in omega arith in
            let old = numbers.positive p lp in
            let r = raised_at least ns marks (suc p) h.lengths lp in
            let g = raised_grows least (at ns (suc p)) (at marks (suc p)) in
            let less : at after 0 < at after (suc p) = omega arith in
            let o = ordered.order true 0 (suc p) (omega arith) (omega arith) less in omega arith;
        bounded = ordered.bounded;
      };
      met = λ k r is.
          let tied = sound.tied k r is in
          let ll : r.left < length ns = let w = place_within b.names r.left r.tagged.constraint.left tied.0 in let l = numbers.lengths in omega arith in
          let lr : r.right < length ns = let w = place_within b.names r.right r.tagged.constraint.right tied.1 in let l = numbers.lengths in omega arith in
          let m = raised_meets least (at ns r.left) (at ns r.right) (at marks r.left) (at marks r.right) r.tagged.constraint.strict (h.small r.left) (h.small r.right)
          (λ e. closed_edge b right strict marks steps 1 false k r h is (let f = e in omega arith) e mark_one)
          (λ e. closed_edge b right strict marks steps 2 true k r h is (let f = e in omega arith) e mark_two)
          (sound.met k r is) in
          ordered.order r.tagged.constraint.strict r.left r.right (omega arith) (omega arith)
          (subst (λ x. MeetsAt r.tagged.constraint.strict x (at after r.right)) (sym (raised_at least ns marks r.left h.lengths ll))
          (subst (λ y. MeetsAt r.tagged.constraint.strict (raised least (at ns r.left) (at marks r.left)) y) (sym (raised_at least ns marks r.right h.lengths lr)) m));
      new_met =
          let m = raised_new (at ns left) (at ns right) (at marks left) (at marks right) strict (h.small left) (h.small right)
          (λ e. let w = h.witness left (let f = e in omega arith) in none w.0 w.1 w.2 w.3 (mark_two w.1.strict (w.4 ∙ e)))
          one new_right in
          ordered.order strict left right (omega arith) (omega arith)
          (subst (λ x. MeetsAt strict x (at after right)) (sym (raised_at least ns marks left h.lengths within))
          (subst (λ y. MeetsAt strict (raised least (at ns left) (at marks left)) y) (sym (raised_at least ns marks right h.lengths rl)) m));
    }

pub above_set : (names : List LevelName) (ns : List ℕ) (p : ℕ) (l : Level) → AreNumbers names ns → level_at names p ≡ Some l → (p ≡ 0 → ⊥) → 1 ≤ at ns p
above_set names ns zero l h is ne = absurd (ne refl)
above_set names ns (suc p) l h is ne = let w = place_within names (suc p) l is in let e = h.lengths in h.positive p (omega arith)
