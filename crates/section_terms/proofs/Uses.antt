-- Which hypotheses names use.
use Rattle.std.proofs.Common.{◌≡◌, Bool, true, false, if◌then◌else◌, IsTrue, List, [], ◌∷◌, ◌++◌, refl, Contains, inl, inr, arith}
use Rattle.std.proofs.lemmas.List.Elements.{Contains-append_cases, Contains-append_left, Contains-append_right}
use Rattle.cic_names.specs.declared.name.GlobalId.{GlobalId}
use Rattle.section_terms.specs.Hypotheses.{Hypothesis}
use Rattle.section_terms.specs.Used.{with_those_of, is_in, names_in_hypotheses, used}
use Rattle.section_terms.specs.Laws.{AreAmong, IsClosed}

pub used_among : (over : GlobalId → List GlobalId) (hs : List Hypothesis) (names : List GlobalId) → AreAmong (used over hs names) hs
used_among over [] names = λ x has. has
used_among over (h ∷ later) names =
    go (is_in h.id (with_those_of over (names ++ names_in_hypotheses (used over later names)))) (used_among over later names)
  where
    go : (b : Bool) → AreAmong (used over later names) later → AreAmong (if b then h ∷ used over later names else used over later names) (h ∷ later)
    go true all = λ x has. elim (Contains-append_cases (h ∷ []) (used over later names) x has) [
      | inl here ↦ Contains-append_left (h ∷ []) later x here
      | inr there ↦ Contains-append_right (h ∷ []) later x (all x there)
    ]
    go false all = λ x has. Contains-append_right (h ∷ []) later x (all x has)

pub nothing_used : (over : GlobalId → List GlobalId) (hs : List Hypothesis) → used over hs [] ≡ []
nothing_used over [] = refl
nothing_used over (h ∷ later) = let e = nothing_used over later in rw e refl

in_used : (b : Bool) (h : Hypothesis) (hs : List Hypothesis) → IsTrue b → Contains (if b then h ∷ hs else hs) h
in_used true h hs e = (0, omega arith, refl)
in_used false h hs e = absurd (cc)

still_used : (b : Bool) (g h : Hypothesis) (hs : List Hypothesis) → Contains hs h → Contains (if b then g ∷ hs else hs) h
still_used true g h hs has = Contains-append_right (g ∷ []) hs h has
still_used false g h hs has = has

pub used_closed : (over : GlobalId → List GlobalId) (earlier later : List Hypothesis) (h : Hypothesis) (names : List GlobalId) → IsClosed over earlier h later names
used_closed over [] later h names = λ e. in_used _ h (used over later names) e
used_closed over (g ∷ earlier) later h names = λ e. still_used _ g h (used over (earlier ++ h ∷ later) names) (used_closed over earlier later h names e)
