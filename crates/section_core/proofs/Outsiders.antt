-- The first hypothesis that is not among ids.
use Rattle.std.proofs.Common.{◌≡◌, ℕ, ◌+◌, ◌≤◌, ◌<◌, Bool, true, false, ◌||◌, if◌then◌else◌, Option, Some, None, List, map, length, drop, get_or, sym, ap, ◌∙◌}
use Rattle.cic_names.specs.declared.name.GlobalId.{GlobalId}
use Rattle.cic_terms.proofs.Children.{drop_at, drop_whole}
use Rattle.section_terms.specs.Hypotheses.{Hypothesis}
use Rattle.section_terms.specs.Used.{is_in}
use Rattle.section_uses.specs.Kept.{hypothesis}
use Rattle.section_uses.specs.declared.hypothesis.Hypothesis.{Hypothesis as Kept}
use Rattle.section_uses.specs.declared.seen.Seen.{Seen}
use Rattle.section_uses.specs.calls.Closing.{has, Sees}
use Rattle.section_uses.proofs.Membership.{or_none}
use Rattle.section_core.specs.Sections.{first_outside}

-- What is seen of a new set are these ids.
pub seen_are : (ids : List GlobalId) (fresh seen : Seen) (id : GlobalId) → ((k : GlobalId) → has fresh k ≡ false) → Sees ids fresh seen → has seen id ≡ is_in id ids
seen_are ids fresh seen id none sees = sees id ∙ ap (λ b. is_in id ids || b) (none id) ∙ or_none (is_in id ids)

next_outside : (ids : List GlobalId) (hs : List Kept) (i : ℕ) (h : Kept) (b : Bool) → i < length hs → h ≡ get_or hs i h → is_in h.id ids ≡ b →
    first_outside ids (map hypothesis (drop i hs)) ≡ (if b then first_outside ids (map hypothesis (drop (i + 1) hs)) else Some (hypothesis h))
next_outside ids hs i h b lt at e =
    ap (λ (ks : List Kept). first_outside ids (map hypothesis ks)) (drop_at hs i h lt at)
    ∙ ap (λ (c : Bool). if c then first_outside ids (map hypothesis (drop (i + 1) hs)) else Some (hypothesis h)) e

pub outside_here : (ids : List GlobalId) (hs : List Kept) (i : ℕ) (h : Kept) (whole : Option Hypothesis) → i < length hs → h ≡ get_or hs i h → is_in h.id ids ≡ false →
    first_outside ids (map hypothesis (drop i hs)) ≡ whole → Some (hypothesis h) ≡ whole
outside_here ids hs i h whole lt at e all = sym (next_outside ids hs i h false lt at e) ∙ all

pub outside_later : (ids : List GlobalId) (hs : List Kept) (i : ℕ) (h : Kept) (whole : Option Hypothesis) → i < length hs → h ≡ get_or hs i h → is_in h.id ids ≡ true →
    first_outside ids (map hypothesis (drop i hs)) ≡ whole → first_outside ids (map hypothesis (drop (i + 1) hs)) ≡ whole
outside_later ids hs i h whole lt at e all = sym (next_outside ids hs i h true lt at e) ∙ all

pub outside_none : (ids : List GlobalId) (hs : List Kept) (i : ℕ) (whole : Option Hypothesis) → length hs ≤ i →
    first_outside ids (map hypothesis (drop i hs)) ≡ whole → None ≡ whole
outside_none ids hs i whole le all = sym (ap (λ (ks : List Kept). first_outside ids (map hypothesis ks)) (drop_whole hs i le)) ∙ all
