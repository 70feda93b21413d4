-- What holds of the parts of a graph stays so with one more level, with one more edge, and where what was added is taken away again.
-- The functions that change a graph rest on these.
use Rattle.std.proofs.Common.{◌≡◌, ◌∙◌, inl, inr, ◌<◌, ◌≤◌, ◌+◌, ℕ, zero, suc, List, [], ◌∷◌, ◌++◌, length, take, Bool, true, false, refl, ap, sym, subst, arith}
use Rattle.std.specs.Prelude.{Some, slice_get, Result, Ok, Err, OnOk, OnErr}
use Rattle.std.specs.Option.{option_map}
use Rattle.cic_names.specs.declared.level.LevelName.{LevelName}
use Rattle.cic_names.specs.declared.level.Level.{Level}
use Rattle.cic_names.specs.declared.level.Level.TheVariants.{Named}
use Rattle.cic_rules.specs.Numbering.{MeetsAt}
use Rattle.univ_graph.specs.declared.board.Edge.{Edge}
use Rattle.univ_graph.specs.declared.board.Board.{Board}
use Rattle.univ_cycles.specs.calls.Places.{level_at}
use Rattle.univ_nodes.specs.calls.PlaceSets.{IsFront}
use Rattle.univ_nodes.specs.calls.Bands.{AreBands}
use Rattle.univ_graph.specs.calls.Boards.{at, tagged, AreNumbers, AreListed, AreRaised, IsSound, IsMet, IsTied}
use Rattle.univ_nodes.proofs.AtPlaces.{get_more, get_last, at_past, at_some}
use Rattle.univ_nodes.proofs.RankLaws.{more_length, at_front, less_or_at, compare_or}
use Rattle.univ_graph.proofs.Raising.{place_within}
use Rattle.univ_nodes.proofs.BandLaws.{bands_more, bands_front}
use Rattle.univ_nodes.proofs.ListLaws.{AreKept}
use Rattle.univ_graph.proofs.ListedEdges.{listed_kept}

pub front_take : {X : Type 0} (xs ys : List X) → take (length xs) (xs ++ ys) ≡ xs
front_take [] [] = refl
front_take [] (y ∷ ys) = refl
front_take (x ∷ xs) ys = ap (λ z. x ∷ z) (front_take xs ys)

pub level_front : (names more : List LevelName) (p : ℕ) (l : Level) → level_at names p ≡ Some l → level_at (names ++ more) p ≡ Some l
level_front names more zero l h = h
level_front names more (suc p) l h = inside names p l h
  where
    inside : (ns : List LevelName) (q : ℕ) (k : Level) → option_map Named (slice_get ns q) ≡ Some k → option_map Named (slice_get (ns ++ more) q) ≡ Some k
    inside [] q k e = absurd (cc)
    inside (n ∷ ns) zero k e = e
    inside (n ∷ ns) (suc q) k e = inside ns q k e

pub level_last : (names : List LevelName) (l : LevelName) → level_at (names ++ l ∷ []) (suc (length names)) ≡ Some (Named l)
level_last names l = ap (option_map Named) (get_last names l)

any_length : {X : Type 0} (xs : List X) (x : X) → length (xs ++ x ∷ []) ≡ length xs + 1
any_length [] x = refl
any_length (y ∷ xs) x = let r = any_length xs x in omega arith

numbers_more : (names : List LevelName) (ns : List ℕ) (l : LevelName) → AreNumbers names ns → AreNumbers (names ++ l ∷ []) (ns ++ 1 ∷ [])
numbers_more names ns l h =
    let some : 0 < length ns = let e = h.lengths in omega arith in
    let last : at (ns ++ 1 ∷ []) (length ns) ≡ 1 = at_some (ns ++ 1 ∷ []) (length ns) 1 (get_last ns 1) in
    let longer = more_length ns 1 in
    record {
      lengths = let a = any_length names l in let e = h.lengths in omega arith;
      set = at_front ns (1 ∷ []) 0 some ∙ h.set;
      positive = λ p lt. elim (less_or_at (suc p) (length ns) (omega arith)) [
        | inl less ↦ let f = at_front ns (1 ∷ []) (suc p) less in let o = h.positive p less in omega arith
        | inr e ↦ let k : at (ns ++ 1 ∷ []) (suc p) ≡ 1 = ap (at (ns ++ 1 ∷ [])) e ∙ last in omega arith
      ];
      bounded = λ p. elim (compare_or (length ns) p) [
        | inr less ↦ let f = at_front ns (1 ∷ []) p less in let o = h.bounded p in omega arith
        | inl past ↦ elim (compare_or (length (ns ++ 1 ∷ [])) p) [
          | inl beyond ↦ let z = at_past (ns ++ 1 ∷ []) p beyond in omega arith
          | inr near ↦ let e : p ≡ length ns = omega arith in let k : at (ns ++ 1 ∷ []) p ≡ 1 = ap (at (ns ++ 1 ∷ [])) e ∙ last in omega arith
        ]
      ];
    }

-- The levels, numbers and edges of a board.
pub record AreParts (b : Board) (names : List LevelName) (ns : List ℕ) (edges : List Edge) : Type 0 where
  pub names_are : b.names ≡ names
  pub numbers_are : b.numbers.items ≡ ns
  pub edges_are : b.edges.items ≡ edges

-- The lists of a board have room for so many places, and each edge is in those of its ends.
pub record AreLists (b : Board) (places : ℕ) (edges : List Edge) : Type 0 where
  pub roomy : places ≤ length b.outgoing.lists.items
  pub roomy_into : places ≤ length b.incoming.lists.items
  pub listed : AreListed true b.outgoing.lists.items edges
  pub listed_into : AreListed false b.incoming.lists.items edges

pub sound_of : (b : Board) (names : List LevelName) (ns : List ℕ) (edges : List Edge) → AreParts b names ns edges → AreNumbers names ns → AreBands b.bands.bands.items ns → AreLists b (length ns) edges →
    ((k : ℕ) (r : Edge) → slice_get edges k ≡ Some r → IsTied names r) → ((k : ℕ) (r : Edge) → slice_get edges k ≡ Some r → IsMet ns r) → IsSound b
sound_of b names ns edges parts numbers bands lists tied met = record {
  numbers = subst (λ z. AreNumbers z b.numbers.items) (sym parts.names_are) (subst (λ z. AreNumbers names z) (sym parts.numbers_are) numbers);
  bands = subst (λ z. AreBands b.bands.bands.items z) (sym parts.numbers_are) bands;
  roomy = subst (λ z. length z ≤ length b.outgoing.lists.items) (sym parts.numbers_are) lists.roomy;
  roomy_into = subst (λ z. length z ≤ length b.incoming.lists.items) (sym parts.numbers_are) lists.roomy_into;
  tied = λ k r is. subst (λ z. IsTied z r) (sym parts.names_are) (tied k r (sym (ap (λ z. slice_get z k) parts.edges_are) ∙ is));
  met = λ k r is. subst (λ z. IsMet z r) (sym parts.numbers_are) (met k r (sym (ap (λ z. slice_get z k) parts.edges_are) ∙ is));
  listed = subst (λ z. AreListed true b.outgoing.lists.items z) (sym parts.edges_are) lists.listed;
  listed_into = subst (λ z. AreListed false b.incoming.lists.items z) (sym parts.edges_are) lists.listed_into;
}

pub sound_same : (b c : Board) → IsSound b → AreParts c b.names b.numbers.items b.edges.items → c.bands.bands.items ≡ b.bands.bands.items → AreLists c (length b.numbers.items) b.edges.items → IsSound c
sound_same b c h parts bands lists =
    sound_of c b.names b.numbers.items b.edges.items parts h.numbers (subst (λ z. AreBands z b.numbers.items) (sym bands) h.bands) lists h.tied h.met

pub sound_room : (b c : Board) → IsSound b → AreParts c b.names b.numbers.items b.edges.items → c.bands.bands.items ≡ b.bands.bands.items →
    length b.outgoing.lists.items ≤ length c.outgoing.lists.items → length b.incoming.lists.items ≤ length c.incoming.lists.items →
    AreKept b.outgoing.lists.items c.outgoing.lists.items → AreKept b.incoming.lists.items c.incoming.lists.items → IsSound c
sound_room b c h parts bands longer longer_into kept kept_into = sound_same b c h parts bands record {
  roomy = let r = h.roomy in omega arith;
  roomy_into = let r = h.roomy_into in omega arith;
  listed = listed_kept true b.outgoing.lists.items c.outgoing.lists.items b.edges.items kept h.listed;
  listed_into = listed_kept false b.incoming.lists.items c.incoming.lists.items b.edges.items kept_into h.listed_into;
}

pub sound_more : (b c : Board) (l : LevelName) → IsSound b → AreParts c (b.names ++ l ∷ []) (b.numbers.items ++ 1 ∷ []) b.edges.items → c.bands.bands.items ≡ b.bands.bands.items →
    AreLists c (length b.numbers.items + 1) b.edges.items → IsSound c
sound_more b c l h parts bands lists =
    sound_of c (b.names ++ l ∷ []) (b.numbers.items ++ 1 ∷ []) b.edges.items parts (numbers_more b.names b.numbers.items l h.numbers)
    (subst (λ z. AreBands z (b.numbers.items ++ 1 ∷ [])) (sym bands) (bands_more b.bands.bands.items b.numbers.items h.bands))
    (subst (λ z. AreLists c z b.edges.items) (sym (more_length b.numbers.items 1)) lists)
    (λ k r is. (level_front b.names (l ∷ []) r.left r.tagged.constraint.left (h.tied k r is).0, level_front b.names (l ∷ []) r.right r.tagged.constraint.right (h.tied k r is).1))
    (λ k r is.
    let e = h.numbers.lengths in
    let wl = place_within b.names r.left r.tagged.constraint.left (h.tied k r is).0 in
    let wr = place_within b.names r.right r.tagged.constraint.right (h.tied k r is).1 in
    subst (λ x. MeetsAt r.tagged.constraint.strict x (at (b.numbers.items ++ 1 ∷ []) r.right)) (sym (at_front b.numbers.items (1 ∷ []) r.left (omega arith)))
    (subst (λ y. MeetsAt r.tagged.constraint.strict (at b.numbers.items r.left) y) (sym (at_front b.numbers.items (1 ∷ []) r.right (omega arith))) (h.met k r is)))

front_length : (xs ys : List ℕ) → length xs ≤ length (xs ++ ys)
front_length [] ys = omega arith
front_length (x ∷ xs) ys = let r = front_length xs ys in omega arith

-- What was added is taken away again.
pub sound_back : (old mid new : Board) → IsSound old → IsSound mid → AreParts new old.names old.numbers.items mid.edges.items → new.bands.bands.items ≡ mid.bands.bands.items →
    new.outgoing.lists.items ≡ mid.outgoing.lists.items → new.incoming.lists.items ≡ mid.incoming.lists.items → mid.edges.items ≡ old.edges.items → IsFront old.numbers.items mid.numbers.items → IsSound new
sound_back old mid new h m parts bands out into same front =
    let more : length old.numbers.items ≤ length mid.numbers.items =
    let f : length mid.numbers.items ≡ length (old.numbers.items ++ front.0) = ap length front.1 in let g = front_length old.numbers.items front.0 in omega arith
    in
    sound_of new old.names old.numbers.items mid.edges.items parts h.numbers
    (subst (λ z. AreBands z old.numbers.items) (sym bands) (bands_front mid.bands.bands.items old.numbers.items front.0 (subst (λ z. AreBands mid.bands.bands.items z) front.1 m.bands)))
    (record {
      roomy = let r = m.roomy in let e = ap length out in omega arith;
      roomy_into = let r = m.roomy_into in let e = ap length into in omega arith;
      listed = subst (λ z. AreListed true z mid.edges.items) (sym out) m.listed;
      listed_into = subst (λ z. AreListed false z mid.edges.items) (sym into) m.listed_into;
    })
    (λ k r is. h.tied k r (sym (ap (λ z. slice_get z k) same) ∙ is)) (λ k r is. h.met k r (sym (ap (λ z. slice_get z k) same) ∙ is))

-- ---- one more edge

pub tagged_more : (edges : List Edge) (edge : Edge) → tagged (edges ++ edge ∷ []) ≡ tagged edges ++ edge.tagged ∷ []
tagged_more [] edge = refl
tagged_more (r ∷ edges) edge = ap (λ z. r.tagged ∷ z) (tagged_more edges edge)

raised_same : (b : Board) (left right : ℕ) (strict : Bool) → IsSound b → MeetsAt strict (at b.numbers.items left) (at b.numbers.items right) → AreRaised b left right strict b.numbers.items
raised_same b left right strict h met = record { numbers_are = h.numbers; met = h.met; new_met = met }

pub sound_taken : (b c : Board) (edge : Edge) (v : List ℕ) → IsSound b → AreRaised b edge.left edge.right edge.tagged.constraint.strict v → IsTied b.names edge →
    AreParts c b.names v (b.edges.items ++ edge ∷ []) → AreBands c.bands.bands.items v → AreLists c (length b.numbers.items) (b.edges.items ++ edge ∷ []) → IsSound c
sound_taken b c edge v h raised tied parts bands lists =
    let same : length b.numbers.items ≡ length v = let a = h.numbers.lengths in let d = raised.numbers_are.lengths in omega arith in
    sound_of c b.names v (b.edges.items ++ edge ∷ []) parts raised.numbers_are bands (subst (λ z. AreLists c z (b.edges.items ++ edge ∷ [])) same lists)
    (λ k r is. elim (get_more b.edges.items edge r k is) [
      | inl old ↦ h.tied k r old
      | inr new ↦ subst (λ z. IsTied b.names z) new.1 tied
    ])
    (λ k r is. elim (get_more b.edges.items edge r k is) [
      | inl old ↦ raised.met k r old
      | inr new ↦ subst (λ z. IsMet v z) new.1 raised.new_met
    ])

-- The lists after an edge was put behind the others.
pub lists_put : (b c : Board) → IsSound b → length c.outgoing.lists.items ≡ length b.outgoing.lists.items → length c.incoming.lists.items ≡ length b.incoming.lists.items →
    AreListed true c.outgoing.lists.items c.edges.items → AreListed false c.incoming.lists.items c.edges.items → AreLists c (length b.numbers.items) c.edges.items
lists_put b c h out into listed listed_into = record {
  roomy = let r = h.roomy in omega arith;
  roomy_into = let r = h.roomy_into in omega arith;
  listed = listed;
  listed_into = listed_into;
}

pub sound_put : {A E : Type 0} (r : Result A E) (b c : Board) (edge : Edge) → IsSound b → MeetsAt edge.tagged.constraint.strict (at b.numbers.items edge.left) (at b.numbers.items edge.right) → IsTied b.names edge →
    c.names ≡ b.names → c.numbers.items ≡ b.numbers.items → c.bands.bands.items ≡ b.bands.bands.items → OnOk r (c.edges.items ≡ b.edges.items ++ edge ∷ []) → OnErr r (c.edges.items ≡ b.edges.items) →
    AreLists c (length b.numbers.items) c.edges.items → IsSound c
sound_put (Ok x) b c edge h met tied names numbers bands more same lists =
    sound_taken b c edge b.numbers.items h (raised_same b edge.left edge.right edge.tagged.constraint.strict h met) tied (record { names_are = names; numbers_are = numbers; edges_are = more })
    (subst (λ z. AreBands z b.numbers.items) (sym bands) h.bands) (subst (λ z. AreLists c (length b.numbers.items) z) more lists)
sound_put (Err e) b c edge h met tied names numbers bands more same lists =
    sound_same b c h (record { names_are = names; numbers_are = numbers; edges_are = same }) bands (subst (λ z. AreLists c (length b.numbers.items) z) same lists)

-- The same board with bands that its numbers are in too.
pub sound_bands : (b c : Board) → IsSound b → AreParts c b.names b.numbers.items b.edges.items → AreBands c.bands.bands.items b.numbers.items → AreLists c (length b.numbers.items) b.edges.items → IsSound c
sound_bands b c h parts bands lists = sound_of c b.names b.numbers.items b.edges.items parts h.numbers bands lists h.tied h.met

-- A board whose lists have one more edge behind them than these, and the numbers and bands of another.
pub sound_taken_with : (b c d : Board) (edge : Edge) (v : List ℕ) → IsSound b → AreRaised b edge.left edge.right edge.tagged.constraint.strict v → IsTied b.names edge →
    c.edges.items ≡ b.edges.items ++ edge ∷ [] → AreLists c (length b.numbers.items) c.edges.items → AreParts d b.names v c.edges.items → d.outgoing ≡ c.outgoing → d.incoming ≡ c.incoming → AreBands d.bands.bands.items v →
    IsSound d
sound_taken_with b c d edge v h raised tied edges lists parts out into bands =
    sound_taken b d edge v h raised tied (record { names_are = parts.names_are; numbers_are = parts.numbers_are; edges_are = parts.edges_are ∙ edges }) bands
    (record {
      roomy = subst (λ z. length b.numbers.items ≤ length z.lists.items) (sym out) lists.roomy;
      roomy_into = subst (λ z. length b.numbers.items ≤ length z.lists.items) (sym into) lists.roomy_into;
      listed = subst (λ z. AreListed true z.lists.items (b.edges.items ++ edge ∷ [])) (sym out) (subst (λ z. AreListed true c.outgoing.lists.items z) edges lists.listed);
      listed_into = subst (λ z. AreListed false z.lists.items (b.edges.items ++ edge ∷ [])) (sym into) (subst (λ z. AreListed false c.incoming.lists.items z) edges lists.listed_into);
    })

-- The same board, where there was no memory for one more edge.
pub sound_not_taken : (b c : Board) → IsSound b → AreParts c b.names b.numbers.items b.edges.items → c.bands.bands.items ≡ b.bands.bands.items → AreLists c (length b.numbers.items) c.edges.items → IsSound c
sound_not_taken b c h parts bands lists = sound_same b c h parts bands (subst (λ z. AreLists c (length b.numbers.items) z) parts.edges_are lists)

-- A place of a level is within the numbers, and within the lists.
pub level_within : (b : Board) (p : ℕ) (l : Level) → IsSound b → level_at b.names p ≡ Some l → p < length b.numbers.items
level_within b p l h is = let w = place_within b.names p l is in let e = h.numbers.lengths in omega arith

pub level_listed : (b : Board) (p : ℕ) (l : Level) → IsSound b → level_at b.names p ≡ Some l → (p < length b.outgoing.lists.items) × (p < length b.incoming.lists.items)
level_listed b p l h is =
    let w = level_within b p l h is in
    let r = h.roomy in
    let s = h.roomy_into in (omega arith, omega arith)
