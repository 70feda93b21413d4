-- The state of open sections, and how it changes.
use Rattle.std.proofs.Common.{◌≡◌, ℕ, ◌≤◌, ◌<◌, List, [], ◌∷◌, ◌++◌, map, length, reverse, take, drop, refl, sym, ap, ap₂, subst, ◌∙◌, append_assoc, arith}
use Rattle.std.proofs.Math.Seq.{take-append_seam, drop-append_seam}
use Rattle.std.proofs.lemmas.List.{append-nil, reverse-append, reverse-reverse, map_push, drop-map, take-map, length-map, length-append, length-reverse}
use Rattle.cic_names.specs.declared.name.GlobalId.{GlobalId}
use Rattle.cic_rules.specs.Environment.{Declaration, declared_ids}
use Rattle.cic_env.specs.Declarations.{declaration}
use Rattle.section_terms.specs.Hypotheses.{Hypothesis, ids_of}
use Rattle.section_uses.specs.Kept.{hypothesis, Layer, layered, all_layered, layers_of, list_of}
use Rattle.section_uses.specs.calls.Layers.{LosesLast}
use Rattle.section_uses.specs.declared.hypothesis.Hypothesis.{Hypothesis as Kept}
use Rattle.section_uses.proofs.Inserted.{layer_more, nothing_below}
use Rattle.section_core.specs.Sections.{Allowed, Entry, assumed, added, Section, Known, know, know_all, known, giving, used_by, into_innermost}
use Rattle.section_core.specs.Answers.{Declares}
use Rattle.section_core.specs.calls.Names.{allowed}
use Rattle.section_core.specs.calls.Layers.{PutsAll}
use Rattle.section_core.specs.calls.Stored.{entry_of, hypotheses_in, UsesRight}
use Rattle.section_core.specs.calls.States.{section_of, sections_of, IsRight, AreRight, IsState, PutsEntry, IsAdded, Closes}
use Rattle.section_core.specs.declared.entry.Added.{Added}
use Rattle.section_core.specs.declared.entry.Entry.{Entry as Stored}
use Rattle.section_core.specs.declared.entry.Entry.TheVariants as stored
use Rattle.section_core.specs.declared.open_section.OpenSection.{OpenSection}
use Rattle.section_core.specs.declared.state.State.{State}
use Rattle.section_core.proofs.Layered.{same_everywhere}

-- What the constants of the sections are generalised over
over_of : (os : List OpenSection) (ls : List Layer) → AreRight os ls → all_layered nothing_below (reverse ls) ≡ (known (map section_of os)).over
over_of [] [] r = refl
over_of [] (l ∷ ls) r = absurd r
over_of (o ∷ os) [] r = absurd r
over_of (o ∷ os) (l ∷ ls) r =
    ap (all_layered nothing_below) (reverse-append (l ∷ []) ls)
    ∙ layer_more nothing_below (reverse ls) l
    ∙ ap (λ (f : GlobalId → List GlobalId). layered f l) (over_of os ls r.1)
    ∙ r.0.over

pub known_over : (s : State) → IsState s → list_of s.over ≡ (known (sections_of s)).over
known_over s is =
    ap (all_layered nothing_below) (sym (reverse-reverse (layers_of s.over))) ∙ over_of (reverse s.sections.items) (reverse (layers_of s.over)) is.right

-- One more entry
know_more : (k : Known) (es : List Entry) (e : Entry) → know_all k (es ++ e ∷ []) ≡ know (know_all k es) e
know_more k [] e = refl
know_more k (x ∷ es) e = know_more (know k x) es e

known_hypotheses : (k : Known) (es : List Entry) → (know_all k es).hypotheses ≡ k.hypotheses ++ hypotheses_in es
known_hypotheses k [] = sym (append-nil k.hypotheses)
known_hypotheses k (assumed h ∷ es) = known_hypotheses (know k (assumed h)) es ∙ append_assoc k.hypotheses (h ∷ []) (hypotheses_in es)
known_hypotheses k (added d u ∷ es) = known_hypotheses (know k (added d u)) es

-- An entry is right where that much is known before it, and these are the hypotheses of the section before it.
abbrev pub EntryRight : Known → (own : List Hypothesis) → Stored → Type 0
EntryRight k own (stored.Assumed h) = Unit {0}
EntryRight k own (stored.Added a) = (map hypothesis a.uses.items ≡ used_by k.over own (declaration a.decl) (allowed a.usage)) × Declares (declaration a.decl)

uses_more : (k : Known) (own all : List Hypothesis) (es : List Stored) (e : Stored) → all ≡ own ++ hypotheses_in (map entry_of es) →
    EntryRight (know_all k (map entry_of es)) all e → UsesRight k own es → UsesRight k own (es ++ e ∷ [])
uses_more k own all [] (stored.Assumed h) f right uses = tt
uses_more k own all [] (stored.Added a) f right uses =
    (right.0 ∙ ap (λ (hs : List Hypothesis). used_by k.over hs (declaration a.decl) (allowed a.usage)) (f ∙ append-nil own), right.1, tt)
uses_more k own all (stored.Assumed h ∷ es) e f right uses =
    uses_more (know k (assumed (hypothesis h))) (own ++ hypothesis h ∷ []) all es e (f ∙ sym (append_assoc own (hypothesis h ∷ []) (hypotheses_in (map entry_of es)))) right uses
uses_more k own all (stored.Added a ∷ es) e f right uses =
    (uses.0, uses.1, uses_more (know k (added (declaration a.decl) (allowed a.usage))) own all es e f right uses.2)

-- The innermost section, and its layer
record FirstRight (o : OpenSection) (os : List OpenSection) (ls : List Layer) : Type 0 where
  first : Layer
  rest : List Layer
  is : ls ≡ first ∷ rest
  right : IsRight (known (map section_of os)) o first
  outer : AreRight os rest

first_right : (o : OpenSection) (os : List OpenSection) (ls : List Layer) → AreRight (o ∷ os) ls → FirstRight o os ls
first_right o os [] r = absurd r
first_right o os (l ∷ ls) r = record { first = l; rest = ls; is = refl; right = r.0; outer = r.1 }

-- An entry is put into the innermost section.
pub record PutsIn (e : Stored) (old new : State) : Type 0 where
  pub inner : OpenSection
  pub changed : OpenSection
  pub rest : List OpenSection
  pub was : old.sections.items ≡ rest ++ inner ∷ []
  pub is : new.sections.items ≡ rest ++ changed ∷ []
  pub puts : PutsEntry e inner changed

turned : (xs rest : List OpenSection) (x : OpenSection) → xs ≡ rest ++ x ∷ [] → reverse xs ≡ x ∷ reverse rest
turned xs rest x e = ap reverse e ∙ reverse-append rest (x ∷ [])

-- What an open section is, and what is known in it, by the sections around it
abbrev around : List OpenSection → Known
around os = known (map section_of os)

abbrev within : OpenSection → List OpenSection → Known
within o os = know_all (around os) (map entry_of o.entries.items)

abbrev own_of : OpenSection → List Hypothesis
own_of o = hypotheses_in (map entry_of o.entries.items)

section_put : (e : Stored) (inner changed : OpenSection) → PutsEntry e inner changed →
    section_of changed ≡ record { name = inner.name; entries = map entry_of inner.entries.items ++ entry_of e ∷ [] }
section_put e inner changed p =
    let make : List ℕ → List Entry → Section = λ n es. record { name = n; entries = es } in
    ap₂ make p.name (ap (map entry_of) p.entries ∙ map_push entry_of inner.entries.items e)

known_changed : (e : Stored) (inner changed : OpenSection) (os : List OpenSection) → PutsEntry e inner changed → within changed os ≡ know (within inner os) (entry_of e)
known_changed e inner changed os p =
    ap (know_all (around os)) (ap (map entry_of) p.entries ∙ map_push entry_of inner.entries.items e) ∙ know_more (around os) (map entry_of inner.entries.items) (entry_of e)

right_changed : (e : Stored) (inner changed : OpenSection) (os : List OpenSection) (l l' : Layer) → PutsEntry e inner changed → IsRight (around os) inner l →
    EntryRight (within inner os) (own_of inner) e → layered (around os).over l' ≡ (know (within inner os) (entry_of e)).over → IsRight (around os) changed l'
right_changed e inner changed os l l' p right entry over = record {
  start = p.start ∙ right.start;
  uses =
      subst (λ (es : List Stored). UsesRight (around os) [] es) (sym p.entries)
      (uses_more (around os) [] (own_of inner) inner.entries.items e refl entry right.uses);
  over = over ∙ ap (λ (k : Known). k.over) (sym (known_changed e inner changed os p));
}

module _ (e : Stored) (old new : State) (p : PutsIn e old new) where
  sections_old : sections_of old ≡ section_of p.inner ∷ map section_of (reverse p.rest)
  sections_old = ap (map section_of) (turned old.sections.items p.rest p.inner p.was)

  sections_new : sections_of new ≡ section_of p.changed ∷ map section_of (reverse p.rest)
  sections_new = ap (map section_of) (turned new.sections.items p.rest p.changed p.is)

  pub sections_put : sections_of new ≡ into_innermost (sections_of old) (entry_of e ∷ [])
  sections_put =
      sections_new
      ∙ ap (λ (s : Section). s ∷ map section_of (reverse p.rest)) (section_put e p.inner p.changed p.puts)
      ∙ ap (λ (ss : List Section). into_innermost ss (entry_of e ∷ [])) (sym sections_old)

  pub known_old : known (sections_of old) ≡ within p.inner (reverse p.rest)
  known_old = ap known sections_old

  pub known_new : known (sections_of new) ≡ know (known (sections_of old)) (entry_of e)
  known_new =
      ap known sections_new ∙ known_changed e p.inner p.changed (reverse p.rest) p.puts
      ∙ ap (λ (k : Known). know k (entry_of e)) (sym known_old)

  first : IsState old → FirstRight p.inner (reverse p.rest) (reverse (layers_of old.over))
  first is =
      first_right p.inner (reverse p.rest) (reverse (layers_of old.over))
      (subst (λ (os : List OpenSection). AreRight os (reverse (layers_of old.over))) (turned old.sections.items p.rest p.inner p.was) is.right)

  put_right : (l l' : Layer) (ls : List Layer) → IsState old → reverse (layers_of old.over) ≡ l ∷ ls → reverse (layers_of new.over) ≡ l' ∷ ls →
      EntryRight (within p.inner (reverse p.rest)) (own_of p.inner) e →
      ((below : GlobalId → List GlobalId) → layered below l ≡ (within p.inner (reverse p.rest)).over → layered below l' ≡ (know (within p.inner (reverse p.rest)) (entry_of e)).over) →
      AreRight (reverse new.sections.items) (reverse (layers_of new.over))
  put_right l l' ls is f g entry over =
      let h : FirstRight p.inner (reverse p.rest) (reverse (layers_of old.over)) = first is in
      let both : l ∷ ls ≡ h.first ∷ h.rest = sym f ∙ h.is in
      let same : l ≡ h.first = cc in
      let others : ls ≡ h.rest = cc in
      let right : IsRight (around (reverse p.rest)) p.inner l = subst (λ (x : Layer). IsRight (around (reverse p.rest)) p.inner x) (sym same) h.right in
      subst (λ (xs : List Layer). AreRight (reverse new.sections.items) xs) (sym g)
      (subst (λ (os : List OpenSection). AreRight os (l' ∷ ls)) (sym (turned new.sections.items p.rest p.changed p.is)) (
        right_changed e p.inner p.changed (reverse p.rest) l l' p.puts right entry (over (around (reverse p.rest)).over right.over),
        subst (λ (xs : List Layer). AreRight (reverse p.rest) xs) (sym others) h.outer,
      ))

-- A hypothesis is put into the innermost section.
pub assumed_right : (h copy : Kept) (old new : State) → PutsIn (stored.Assumed h) old new → IsState old → new.hypotheses.items ≡ old.hypotheses.items ++ copy ∷ [] →
    hypothesis copy ≡ hypothesis h → layers_of new.over ≡ layers_of old.over → IsState new
assumed_right h copy old new p is more same layers =
    let f : FirstRight p.inner (reverse p.rest) (reverse (layers_of old.over)) = first (stored.Assumed h) old new p is in
    record {
      right = put_right (stored.Assumed h) old new p f.first f.first f.rest is f.is (ap reverse layers ∙ f.is) tt (λ below over. over);
      hypotheses =
          ap (map hypothesis) more ∙ map_push hypothesis old.hypotheses.items copy
          ∙ ap₂ (λ (hs : List Hypothesis) (x : Hypothesis). hs ++ x ∷ []) is.hypotheses same
          ∙ ap (λ (k : Known). k.hypotheses) (sym (known_new (stored.Assumed h) old new p));
    }

-- The hypotheses of the innermost section
module _ (old : State) (inner : OpenSection) (rest : List OpenSection) (was : old.sections.items ≡ rest ++ inner ∷ []) (is : IsState old) where
  here : FirstRight inner (reverse rest) (reverse (layers_of old.over))
  here =
      first_right inner (reverse rest) (reverse (layers_of old.over))
      (subst (λ (os : List OpenSection). AreRight os (reverse (layers_of old.over))) (turned old.sections.items rest inner was) is.right)

  all_hypotheses : map hypothesis old.hypotheses.items ≡ (around (reverse rest)).hypotheses ++ own_of inner
  all_hypotheses =
      is.hypotheses ∙ ap (λ (ss : List Section). (known ss).hypotheses) (ap (map section_of) (turned old.sections.items rest inner was))
      ∙ known_hypotheses (around (reverse rest)) (map entry_of inner.entries.items)

  pub start_within : inner.start ≤ length old.hypotheses.items
  start_within =
      let lengths : length (map hypothesis old.hypotheses.items) ≡ length ((around (reverse rest)).hypotheses ++ own_of inner) = ap length all_hypotheses in
      omega (arith, lengths, here.right.start, length-map old.hypotheses.items hypothesis, length-append (around (reverse rest)).hypotheses (own_of inner))

  pub own_hypotheses : map hypothesis (drop inner.start old.hypotheses.items) ≡ own_of inner
  own_hypotheses =
      sym (drop-map hypothesis inner.start old.hypotheses.items)
      ∙ ap₂ (λ (n : ℕ) (hs : List Hypothesis). drop n hs) here.right.start all_hypotheses
      ∙ drop-append_seam (around (reverse rest)).hypotheses (own_of inner)

  pub outer_hypotheses : map hypothesis (take inner.start old.hypotheses.items) ≡ (around (reverse rest)).hypotheses
  outer_hypotheses =
      sym (take-map hypothesis inner.start old.hypotheses.items)
      ∙ ap₂ (λ (n : ℕ) (hs : List Hypothesis). take n hs) here.right.start all_hypotheses
      ∙ take-append_seam (around (reverse rest)).hypotheses (own_of inner)

  -- The innermost section is closed.
  pub closed_right : (new : State) → new.sections.items ≡ rest → new.hypotheses.items ≡ take inner.start old.hypotheses.items →
      LosesLast (layers_of old.over) (layers_of new.over) → IsState new
  closed_right new same hypotheses loses =
      let both : loses.last ∷ reverse (layers_of new.over) ≡ here.first ∷ here.rest =
      sym (ap reverse loses.was ∙ reverse-append (layers_of new.over) (loses.last ∷ [])) ∙ here.is in
      let others : here.rest ≡ reverse (layers_of new.over) = cc in
      record {
        right = subst (λ (os : List OpenSection). AreRight (reverse os) (reverse (layers_of new.over))) (sym same)
            (subst (λ (ls : List Layer). AreRight (reverse rest) ls) others here.outer);
        hypotheses =
            ap (map hypothesis) hypotheses ∙ outer_hypotheses
            ∙ ap (λ (os : List OpenSection). (known (map section_of (reverse os))).hypotheses) (sym same);
      }

  pub closes : (new : State) → new.sections.items ≡ rest → Closes (sections_of old) (sections_of new)
  closes new same = record {
    inner = section_of inner;
    was = ap (map section_of) (turned old.sections.items rest inner was) ∙ ap (λ (os : List OpenSection). section_of inner ∷ map section_of (reverse os)) (sym same);
  }

-- A declaration is put into the innermost section.
module _ (a : Added) (old new : State) (p : PutsIn (stored.Added a) old new) (is : IsState old) where
  abbrev decl : Declaration
  decl = declaration a.decl

  abbrev usage : Allowed
  usage = allowed a.usage

  over_within : list_of old.over ≡ (within p.inner (reverse p.rest)).over
  over_within = known_over old is ∙ ap (λ (k : Known). k.over) (known_old (stored.Added a) old new p)

  hypotheses_within : map hypothesis old.hypotheses.items ≡ (within p.inner (reverse p.rest)).hypotheses
  hypotheses_within = is.hypotheses ∙ ap (λ (k : Known). k.hypotheses) (known_old (stored.Added a) old new p)

  pub put_added : (uses : List Hypothesis) → new.hypotheses.items ≡ old.hypotheses.items → Declares decl →
      uses ≡ used_by (list_of old.over) (map hypothesis old.hypotheses.items) decl usage →
      map hypothesis a.uses.items ≡ used_by (list_of old.over) (map hypothesis (drop p.inner.start old.hypotheses.items)) decl usage →
      PutsAll (declared_ids decl) (ids_of uses) (layers_of old.over) (layers_of new.over) → IsState new
  put_added uses same declares all own q =
      let over : (below : GlobalId → List GlobalId) → layered below q.last ≡ (within p.inner (reverse p.rest)).over →
      layered below q.changed ≡ giving (declared_ids decl) (ids_of (used_by (within p.inner (reverse p.rest)).over (within p.inner (reverse p.rest)).hypotheses decl usage)) (within p.inner (reverse p.rest)).over
      = λ below e.
      same_everywhere (layered below q.changed) (giving (declared_ids decl) (ids_of uses) (layered below q.last)) (q.gives below)
      ∙ ap₂ (λ (us : List Hypothesis) (f : GlobalId → List GlobalId). giving (declared_ids decl) (ids_of us) f)
      (all ∙ ap₂ (λ (f : GlobalId → List GlobalId) (hs : List Hypothesis). used_by f hs decl usage) over_within hypotheses_within) e in
      record {
        right = put_right (stored.Added a) old new p q.last q.changed q.earlier is q.was q.is
            (own ∙ ap₂ (λ (f : GlobalId → List GlobalId) (hs : List Hypothesis). used_by f hs decl usage) over_within (own_hypotheses old p.inner p.rest p.was is), declares)
            over;
        hypotheses = ap (map hypothesis) same ∙ is.hypotheses ∙ ap (λ (k : Known). k.hypotheses) (sym (known_new (stored.Added a) old new p));
      }

-- The same by what the entry is of
pub added_right : (e : Stored) (d : Declaration) (u : Allowed) (own uses : List Hypothesis) (old new : State) (p : PutsIn e old new) → IsState old → IsAdded d u own e →
    new.hypotheses.items ≡ old.hypotheses.items → Declares d → uses ≡ used_by (list_of old.over) (map hypothesis old.hypotheses.items) d u →
    own ≡ used_by (list_of old.over) (map hypothesis (drop p.inner.start old.hypotheses.items)) d u →
    PutsAll (declared_ids d) (ids_of uses) (layers_of old.over) (layers_of new.over) → IsState new
added_right (stored.Assumed h) d u own uses old new p is of same declares all own_are q = absurd of
added_right (stored.Added a) d u own uses old new p is of same declares all own_are q =
    put_added a old new p is uses same
    (subst Declares (sym of.0) declares)
    (all ∙ ap₂ (λ (x : Declaration) (y : Allowed). used_by (list_of old.over) (map hypothesis old.hypotheses.items) x y) (sym of.0) (sym of.1))
    (of.2 ∙ own_are ∙ ap₂ (λ (x : Declaration) (y : Allowed). used_by (list_of old.over) (map hypothesis (drop p.inner.start old.hypotheses.items)) x y) (sym of.0) (sym of.1))
    (subst (λ (x : Declaration). PutsAll (declared_ids x) (ids_of uses) (layers_of old.over) (layers_of new.over)) (sym of.0) q)

pub added_is : (e : Stored) (d : Declaration) (u : Allowed) (own : List Hypothesis) → IsAdded d u own e → entry_of e ≡ added d u
added_is (stored.Assumed h) d u own of = absurd of
added_is (stored.Added a) d u own of = ap₂ (λ (x : Declaration) (y : Allowed). added x y) of.0 of.1

-- There is a layer, since a section is open.
pub some_layer : (old : State) (inner : OpenSection) (rest : List OpenSection) → old.sections.items ≡ rest ++ inner ∷ [] → IsState old → 0 < length (layers_of old.over)
some_layer old inner rest was is =
    let f : FirstRight inner (reverse rest) (reverse (layers_of old.over)) = here old inner rest was is in
    let lengths : length (reverse (layers_of old.over)) ≡ length (f.first ∷ f.rest) = ap length f.is in
    omega (arith, lengths, length-reverse (layers_of old.over))

-- A section is opened.
pub entered_right : (old new : State) (o : OpenSection) → IsState old → new.sections.items ≡ old.sections.items ++ o ∷ [] → o.entries.items ≡ [] →
    o.start ≡ length old.hypotheses.items → new.hypotheses.items ≡ old.hypotheses.items → layers_of new.over ≡ layers_of old.over ++ [] ∷ [] → IsState new
entered_right old new o is sections none start same layers =
    let k : Known = known (sections_of old) in
    let first : IsRight k o [] = record {
      start = start ∙ sym (length-map old.hypotheses.items hypothesis) ∙ ap length is.hypotheses;
      uses = subst (λ (es : List Stored). UsesRight k [] es) (sym none) tt;
      over = ap (λ (es : List Stored). (know_all k (map entry_of es)).over) (sym none);
    } in
    let whole : AreRight (o ∷ reverse old.sections.items) ([] ∷ reverse (layers_of old.over)) = (first, is.right) in
    record {
      right =
          subst (λ (ls : List Layer). AreRight (reverse new.sections.items) ls) (sym (ap reverse layers ∙ reverse-append (layers_of old.over) ([] ∷ [])))
          (subst (λ (os : List OpenSection). AreRight os ([] ∷ reverse (layers_of old.over))) (sym (turned new.sections.items old.sections.items o sections)) whole);
      hypotheses =
          ap (map hypothesis) same ∙ is.hypotheses
          ∙ ap (λ (es : List Stored). (know_all k (map entry_of es)).hypotheses) (sym none)
          ∙ ap (λ (os : List OpenSection). (known (map section_of os)).hypotheses) (sym (turned new.sections.items old.sections.items o sections));
    }

pub entered : (old new : State) (o : OpenSection) (name : List ℕ) → new.sections.items ≡ old.sections.items ++ o ∷ [] → o.entries.items ≡ [] → o.name ≡ name →
    sections_of new ≡ record { name = name; entries = [] } ∷ sections_of old
entered old new o name sections none e =
    ap (map section_of) (turned new.sections.items old.sections.items o sections)
    ∙ ap₂ (λ (n : List ℕ) (es : List Stored). record { name = n; entries = map entry_of es } ∷ sections_of old) e none
