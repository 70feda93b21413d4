-- The closure, from the last hypothesis to the first.
use Rattle.std.proofs.Common.{◌≡◌, ℕ, ◌+◌, ◌<◌, ◌≤◌, Bool, true, false, ◌||◌, if◌then◌else◌, List, [], ◌∷◌, ◌++◌, map, reverse, length, drop, get_or, refl, sym, ap, ◌∙◌, arith}
use Rattle.std.proofs.lemmas.List.{reverse-append, map_push}
use Rattle.cic_names.specs.declared.name.GlobalId.{GlobalId}
use Rattle.section_terms.specs.Hypotheses.{Hypothesis}
use Rattle.section_terms.specs.Used.{is_in, with_those_of, names_in_hypothesis, names_in_hypotheses, used}
use Rattle.cic_terms.proofs.Children.{drop_at, drop_whole}
use Rattle.section_uses.specs.Kept.{hypothesis}
use Rattle.section_uses.specs.declared.hypothesis.Hypothesis.{Hypothesis as Kept}
use Rattle.section_uses.specs.declared.seen.Seen.{Seen}
use Rattle.section_uses.specs.calls.Closing.{has, Sees, Considers}
use Rattle.section_uses.proofs.Membership.{or_none, sees_more}
use Rattle.section_uses.proofs.Noted.{names_end}

-- What is found among the hypotheses from a place on, and what is seen then
pub record IsClosedFrom (over : GlobalId → List GlobalId) (names : List GlobalId) (later : List Hypothesis) (seen : Seen) (found : List Hypothesis) : Type 0 where
  pub found_all : reverse found ≡ used over later names
  pub seen_all : (id : GlobalId) → has seen id ≡ is_in id (with_those_of over (names ++ names_in_hypotheses (used over later names)))

found_more : (b : Bool) (found : List Hypothesis) (h : Hypothesis) (uses : List Hypothesis) → reverse found ≡ uses →
    reverse (if b then found ++ h ∷ [] else found) ≡ (if b then h ∷ uses else uses)
found_more true found h uses e = reverse-append found (h ∷ []) ∙ ap (λ (hs : List Hypothesis). h ∷ hs) e
found_more false found h uses e = e

pub considered : (over : GlobalId → List GlobalId) (names : List GlobalId) (h : Hypothesis) (later : List Hypothesis) (before after : Seen) (found found' : List Hypothesis) →
    IsClosedFrom over names later before found → Considers over h before after found found' → IsClosedFrom over names (h ∷ later) after found'
considered over names h later before after found found' closed step =
    let uses : List Hypothesis = used over later names in
    let test : has before h.id ≡ is_in h.id (with_those_of over (names ++ names_in_hypotheses uses)) = closed.seen_all h.id in
    let both : Bool → List Hypothesis = λ b. if b then h ∷ uses else uses in
    record {
      found_all = ap reverse step.finds ∙ found_more (has before h.id) found h uses closed.found_all ∙ ap both test;
      seen_all = λ id.
          step.seen id
          ∙ ap (λ z. is_in id (if has before h.id then with_those_of over (names_in_hypothesis h) else []) || z) (closed.seen_all id)
          ∙ sees_more over id (has before h.id) h uses names
          ∙ ap (λ b. is_in id (with_those_of over (names ++ names_in_hypotheses (both b)))) test;
    }

map_drop : (all : List Kept) (n i : ℕ) (h : Kept) → n < length all → h ≡ get_or all n h → n + 1 ≡ i → map hypothesis (drop n all) ≡ hypothesis h ∷ map hypothesis (drop i all)
map_drop all n i h lt e f = ap (map hypothesis) (drop_at all n h lt e) ∙ ap (λ k. hypothesis h ∷ map hypothesis (drop k all)) f

pub closed_more : (over : GlobalId → List GlobalId) (names : List GlobalId) (all : List Kept) (i n : ℕ) (h : Kept) (before after : Seen) (found found' : List Hypothesis) →
    h ≡ get_or all n h → n + 1 ≡ i → i ≤ length all →
    IsClosedFrom over names (map hypothesis (drop i all)) before found → Considers over (hypothesis h) before after found found' →
    IsClosedFrom over names (map hypothesis (drop n all)) after found'
closed_more over names all i n h before after found found' e f le closed step =
    rw (map_drop all n i h (omega arith) e f) (considered over names (hypothesis h) (map hypothesis (drop i all)) before after found found' closed step)

pub closed_begin : (over : GlobalId → List GlobalId) (names : List GlobalId) (all : List Kept) (n : ℕ) (fresh seen : Seen) (found : List Kept) →
    length all ≤ n → ((id : GlobalId) → has fresh id ≡ false) → Sees (with_those_of over names) fresh seen → found ≡ [] →
    IsClosedFrom over names (map hypothesis (drop n all)) seen (map hypothesis found)
closed_begin over names all n fresh seen found le none sees e =
    rw (drop_whole all n le, e) (record {
      found_all = refl;
      seen_all = λ id.
          sees id ∙ ap (λ z. is_in id (with_those_of over names) || z) (none id) ∙ or_none (is_in id (with_those_of over names))
          ∙ ap (λ (xs : List GlobalId). is_in id (with_those_of over xs)) (sym (names_end names));
    })

map_reversed : (found : List Kept) → map hypothesis (reverse found) ≡ reverse (map hypothesis found)
map_reversed [] = refl
map_reversed (x ∷ found) =
    ap (map hypothesis) (reverse-append (x ∷ []) found)
    ∙ map_push hypothesis (reverse found) x
    ∙ ap (λ l. l ++ hypothesis x ∷ []) (map_reversed found)
    ∙ sym (reverse-append (hypothesis x ∷ []) (map hypothesis found))

pub closed_end : (over : GlobalId → List GlobalId) (names : List GlobalId) (all : List Kept) (n : ℕ) (seen : Seen) (found turned : List Kept) →
    n ≤ 0 → IsClosedFrom over names (map hypothesis (drop n all)) seen (map hypothesis found) → turned ≡ reverse found →
    map hypothesis turned ≡ used over (map hypothesis all) names
closed_end over names all n seen found turned le closed e =
    let z : n ≡ 0 = omega arith in
    ap (map hypothesis) e ∙ map_reversed found ∙ closed.found_all ∙ ap (λ k. used over (map hypothesis (drop k all)) names) z
