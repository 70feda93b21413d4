-- The test of the guard answers the first function that is not guarded, and the number of its first bad call among the
-- occurrences of the functions in its body; and only these.
use Rattle.std.proofs.Common.{◌≡◌, ℕ, zero, suc, ◌+◌, Bool, true, false, Option, Some, None, List, [], ◌∷◌, ◌++◌, length, refl, sym, ap, ◌∙◌, arith, subst}
use Rattle.std.specs.Prelude.{min, option_map}
use Rattle.cic_terms.specs.Tree.{over, Tree, rel, node, Children, no_child, child, app, ind, case, fix}
use Rattle.cic_names.specs.declared.name.GlobalId.{GlobalId}
use Rattle.cic_rules.specs.Environment.{Environment, whole_block, element, or_else}
use Rattle.cic_rules.specs.Telescopes.{apply, head_of, Function}
use Rattle.cic_counted.specs.Readings.{arguments_of}
use Rattle.cic_rules.specs.Inductive.{Each}
use Rattle.cic_rules.specs.Shapes.{GuardShape}
use Rattle.cic_rules.specs.Guard.{Mark, plain, main, smaller, function, Marks, under_marks, under_plain, recursive_marks, body_marks, recursive_places, GuardedFunction}
use Rattle.cic_counted.specs.Outcome.{next_number}
use Rattle.cic_counted.specs.GuardTest.{marks_or_plain, known_value, smaller_shape, Walk, passed, failed, then_walk, argument_shape, call_shape, occurrence_at, occurrence, body_flags, fix_marks, walk, walk_children, walk_branches, walk_chosen, failed_call, walk_fault, head_of_domain, function_fault, Unguarded, functions_fault, guard_fault}
use Rattle.cic_soundness.specs.FirstFaults.{FirstNot}
use Rattle.cic_soundness.specs.calls.FixParts.{HasAllParts}
use Rattle.cic_soundness.specs.Occurrences.{Occurrence, occurrences_of, GoodCall, occurrences, in_parts, in_branches, in_chosen, FirstBadCall, no_head, bad_call, FirstUnguarded}
use Rattle.cic_soundness.proofs.evaluations.Readings.{apply_head}
use Rattle.cic_soundness.proofs.fixpoints.Sound.{call_right, guarded_function}
use Rattle.cic_soundness.proofs.exactness.Guard.{AllBetterThanPlain, as_it_was, smaller_has_shape, with_own_better, nothing_by_nothing, function_passes}
use Rattle.cic_metatheory.proofs.basics.Options.{some_inj, some_is_not_none}
use Rattle.cic_metatheory.proofs.basics.Applications.{head_of_apply}

module _ (recursive : (known : Option GuardShape) → GlobalId → (place : ℕ) → Option (List Mark)) (places : List ℕ) where
  -- The walk over some occurrences
  abbrev walk_over : List Occurrence → ℕ → Walk recursive places
  walk_over [] call = passed call
  walk_over (o ∷ os) call = then_walk recursive places (occurrence recursive places o.marks (function o.j) o.arguments call) (walk_over os)

  then_last : (w : Walk recursive places) → w ≡ then_walk recursive places w (λ call. passed call)
  then_last (passed call) = refl
  then_last (failed call) = refl

  then_split : (w : Walk recursive places) (next last both : ℕ → Walk recursive places) → ((call : ℕ) → both call ≡ then_walk recursive places (next call) last) → then_walk recursive places w both ≡ then_walk recursive places (then_walk recursive places w next) last
  then_split (passed call) next last both h = h call
  then_split (failed call) next last both h = refl

  then_same : (w w' : Walk recursive places) (next next' : ℕ → Walk recursive places) → w ≡ w' → ((call : ℕ) → next call ≡ next' call) → then_walk recursive places w next ≡ then_walk recursive places w' next'
  then_same w w' next next' e h = ap (λ z. then_walk recursive places z next) e ∙ after w'
    where
      after : (w : Walk recursive places) → then_walk recursive places w next ≡ then_walk recursive places w next'
      after (passed call) = h call
      after (failed call) = refl

  over_both : (os ps : List Occurrence) (call : ℕ) → walk_over (os ++ ps) call ≡ then_walk recursive places (walk_over os call) (walk_over ps)
  over_both [] ps call = refl
  over_both (o ∷ os) ps call =
      then_split (occurrence recursive places o.marks (function o.j) o.arguments call) (walk_over os) (walk_over ps) (walk_over (os ++ ps)) (over_both os ps)

  one_after_other : (w : Walk recursive places) (next : ℕ → Walk recursive places) (os ps : List Occurrence) (call : ℕ) → w ≡ walk_over os call → ((c : ℕ) → next c ≡ walk_over ps c) → then_walk recursive places w next ≡ walk_over (os ++ ps) call
  one_after_other w next os ps call e h = then_same w (walk_over os call) next (walk_over ps) e h ∙ sym (over_both os ps call)

  mark_walked : (marks : Marks) (m : Mark) (us : List Tree) (call : ℕ) → occurrence recursive places marks m us call ≡ walk_over (occurrences_of marks m us) call
  mark_walked marks (function j) us call = then_last (occurrence recursive places marks (function j) us call)
  mark_walked marks plain us call = refl
  mark_walked marks main us call = refl
  mark_walked marks (smaller s) us call = refl

  -- The walk over a term is that over its occurrences.
  mutual
    walked : (t : Tree) (marks : Marks) (us : List Tree) (call : ℕ) → walk recursive places marks us t call ≡ walk_over (occurrences recursive places marks us t) call
    walked (rel x) marks us call = mark_walked marks (marks x) us call
    walked (app f u) marks us call =
        one_after_other (walk recursive places marks (u ∷ us) f call) (walk recursive places marks [] u) (occurrences recursive places marks (u ∷ us) f) (occurrences recursive places marks [] u) call
        (walked f marks (u ∷ us) call) (walked u marks [])
    walked (case id n p v branches) marks us call =
        let known = known_value recursive places marks v (smaller_shape recursive places marks v) in
        one_after_other (walk recursive places (under_plain (n + 1) marks) [] p call) _ (occurrences recursive places (under_plain (n + 1) marks) [] p)
        (occurrences recursive places marks [] v ++ in_branches recursive places marks known id 0 branches) call
        (walked p (under_plain (n + 1) marks) [] call)
        (λ c. one_after_other (walk recursive places marks [] v c) (walk_branches recursive places marks known id 0 branches) (occurrences recursive places marks [] v) (in_branches recursive places marks known id 0 branches) c
        (walked v marks [] c) (branches_walked branches marks known id 0))
    walked (fix which shapes parts) marks us call =
        let types = body_flags recursive places true false shapes in
        let bodies = body_flags recursive places false true shapes in
        let o = fix_marks recursive places marks us shapes in
        one_after_other (walk_chosen recursive places marks None types parts call) (walk_chosen recursive places marks o bodies parts) (in_chosen recursive places marks None types parts) (in_chosen recursive places marks o bodies parts) call
        (chosen_walked parts marks None types call) (chosen_walked parts marks o bodies)
    walked (node f ks) marks us call = parts_walked ks marks call

    parts_walked : (ks : Children) (marks : Marks) (call : ℕ) → walk_children recursive places marks ks call ≡ walk_over (in_parts recursive places marks ks) call
    parts_walked no_child marks call = refl
    parts_walked (child b t ks) marks call =
        one_after_other (walk recursive places (under_plain (over b 0) marks) [] t call) (walk_children recursive places marks ks) (occurrences recursive places (under_plain (over b 0) marks) [] t) (in_parts recursive places marks ks) call
        (walked t (under_plain (over b 0) marks) [] call) (parts_walked ks marks)

    branches_walked : (ks : Children) (marks : Marks) (known : Option GuardShape) (id : GlobalId) (place call : ℕ) → walk_branches recursive places marks known id place ks call ≡ walk_over (in_branches recursive places marks known id place ks) call
    branches_walked no_child marks known id place call = refl
    branches_walked (child b t ks) marks known id place call =
        let f = under_marks (marks_or_plain (over b 0) (recursive known id place)) marks in
        one_after_other (walk recursive places f [] t call) (walk_branches recursive places marks known id (place + 1) ks) (occurrences recursive places f [] t) (in_branches recursive places marks known id (place + 1) ks) call
        (walked t f [] call) (branches_walked ks marks known id (place + 1))

    chosen_walked : (ks : Children) (marks : Marks) (o : Option (List Mark)) (flags : List Bool) (call : ℕ) → walk_chosen recursive places marks o flags ks call ≡ walk_over (in_chosen recursive places marks o flags ks) call
    chosen_walked no_child marks o flags call = refl
    chosen_walked (child b t ks) marks o [] call = refl
    chosen_walked (child b t ks) marks o (true ∷ flags) call =
        let f = under_marks (marks_or_plain (over b 0) o) marks in
        one_after_other (walk recursive places f [] t call) (walk_chosen recursive places marks o flags ks) (occurrences recursive places f [] t) (in_chosen recursive places marks o flags ks) call
        (walked t f [] call) (chosen_walked ks marks o flags)
    chosen_walked (child b t ks) marks o (false ∷ flags) call = chosen_walked ks marks o flags call

  -- A walk fails at the first bad occurrence.
  module _ (of_nothing : (id : GlobalId) (place : ℕ) → recursive None id place ≡ None)
      (only_smaller : (known : Option GuardShape) (id : GlobalId) (place : ℕ) (ms : List Mark) → recursive known id place ≡ Some ms → AllBetterThanPlain ms) where
    good_has_shape : (o : Occurrence) (g : GoodCall recursive places o) → call_shape recursive places o.marks (element places o.j) o.arguments ≡ Some g.s
    good_has_shape o g =
        ap (λ k. call_shape recursive places o.marks k o.arguments) g.its_place ∙ ap (argument_shape recursive places o.marks) g.stands
        ∙ smaller_has_shape recursive places of_nothing only_smaller g.is_smaller o.marks (λ x. as_it_was)

    shape_is_good : (o : Occurrence) (s : GuardShape) → call_shape recursive places o.marks (element places o.j) o.arguments ≡ Some s → GoodCall recursive places o
    shape_is_good o s e =
        let r = call_right recursive places o.marks (element places o.j) o.arguments s e in
        record { k = r.0; u = r.2; s = s; its_place = r.1; stands = r.3; is_smaller = r.4 }

    failed_inj : {m n : ℕ} → ◌≡◌ {A = Walk recursive places} (failed m) (failed n) → m ≡ n
    failed_inj e = cc

    fails_first : (os : List Occurrence) (call n : ℕ) → walk_over os call ≡ failed n → (place : ℕ) × (o : Occurrence) × (n ≡ min (call + place + 1) 4294967295) × FirstNot (GoodCall recursive places) os place o
    fails_first [] call n e = absurd (grind arith)
    fails_first (o ∷ os) call n e = by_shape (call_shape recursive places o.marks (element places o.j) o.arguments) refl e (fails_first os (next_number call) n)
      where
        by_shape : (s : Option GuardShape) → call_shape recursive places o.marks (element places o.j) o.arguments ≡ s → then_walk recursive places (occurrence_at recursive places s (next_number call)) (walk_over os) ≡ failed n →
            (walk_over os (next_number call) ≡ failed n → (place : ℕ) × (o : Occurrence) × (n ≡ min (next_number call + place + 1) 4294967295) × FirstNot (GoodCall recursive places) os place o) →
            (place : ℕ) × (p : Occurrence) × (n ≡ min (call + place + 1) 4294967295) × FirstNot (GoodCall recursive places) (o ∷ os) place p
        by_shape None q e later =
            let m : next_number call ≡ min (call + 0 + 1) 4294967295 = omega arith in
            (0, o, sym (failed_inj e) ∙ m, record { stands = refl; before = tt; is_not = λ g. some_is_not_none (sym q ∙ good_has_shape o g) })
        by_shape (Some s) q e later =
            let f = later e in
            let m : min (next_number call + f.0 + 1) 4294967295 ≡ min (call + suc f.0 + 1) 4294967295 = omega arith in
            (suc f.0, f.1, f.2 ∙ m, record { stands = f.3.stands; before = (shape_is_good o s q, f.3.before); is_not = f.3.is_not })

    fails_at : (os : List Occurrence) (call place : ℕ) (o : Occurrence) → FirstNot (GoodCall recursive places) os place o → walk_over os call ≡ failed (min (call + place + 1) 4294967295)
    fails_at [] call place o h = some_is_not_none h.stands
    fails_at (x ∷ os) call zero o h = by_shape (call_shape recursive places x.marks (element places x.j) x.arguments) refl
      where
        by_shape : (s : Option GuardShape) → call_shape recursive places x.marks (element places x.j) x.arguments ≡ s → then_walk recursive places (occurrence_at recursive places s (next_number call)) (walk_over os) ≡ failed (min (call + 0 + 1) 4294967295)
        by_shape None q = let m : next_number call ≡ min (call + 0 + 1) 4294967295 = omega arith in ap failed m
        by_shape (Some s) q = absurd (h.is_not (subst (GoodCall recursive places) (some_inj h.stands) (shape_is_good x s q)))
    fails_at (x ∷ os) call (suc place) o h =
        let g = h.before.0 in
        let m : min (next_number call + place + 1) 4294967295 ≡ min (call + suc place + 1) 4294967295 = omega arith in
        ap (λ s. then_walk recursive places (occurrence_at recursive places s (next_number call)) (walk_over os)) (good_has_shape x g)
        ∙ fails_at os (next_number call) place o (record { stands = h.stands; before = h.before.1; is_not = h.is_not }) ∙ ap failed m

-- One function
failed_is : {recursive : (known : Option GuardShape) → GlobalId → (place : ℕ) → Option (List Mark)} {places : List ℕ} (w : Walk recursive places) (n : ℕ) → failed_call w ≡ Some n → w ≡ failed n
failed_is (passed call) n e = some_is_not_none e
failed_is (failed call) n e = ap failed (some_inj e)

module _ (E : Environment) (fs : List Function) where
  no_marks_of_nothing : (head id : GlobalId) (place : ℕ) → recursive_marks E head None id place ≡ None
  no_marks_of_nothing head id place = nothing_by_nothing E (whole_block E head) id place

  marks_are_better : (head : GlobalId) (known : Option GuardShape) (id : GlobalId) (place : ℕ) (ms : List Mark) → recursive_marks E head known id place ≡ Some ms → AllBetterThanPlain ms
  marks_are_better head known id place ms e = with_own_better E (whole_block E head) known id place ms e

  head_first : (f : Function) (n : ℕ) (a h : Tree) → element f.domains f.recursive_place ≡ Some a → head_of a ≡ h → walk_fault E (recursive_places fs) (length fs) f h ≡ Some n → FirstBadCall E fs f n
  head_first f n a (ind id) d q e =
      let places = recursive_places fs in
      let w = failed_is (walk (recursive_marks E id) places (body_marks (length fs) f) [] f.body 0) n e in
      let r = fails_first (recursive_marks E id) places (no_marks_of_nothing id) (marks_are_better id) (occurrences (recursive_marks E id) places (body_marks (length fs) f) [] f.body) 0 n
      (sym (walked (recursive_marks E id) places f.body (body_marks (length fs) f) [] 0) ∙ w) in
      let m : min (0 + r.0 + 1) 4294967295 ≡ min (r.0 + 1) 4294967295 = omega arith in
      bad_call id (arguments_of a) r.0 r.1 (r.2 ∙ m) (d ∙ ap Some (sym (apply_head a) ∙ ap (λ z. apply z (arguments_of a)) q)) r.3
  head_first f n a h d q e =
      no_head (sym (some_inj e)) (λ id us k. (let r = sym q ∙ ap head_of (some_inj (sym d ∙ k)) ∙ head_of_apply us (ind id) in absurd (grind (arith, r))))

  function_first : (f : Function) (n : ℕ) (o : Option Tree) → element f.domains f.recursive_place ≡ o → walk_fault E (recursive_places fs) (length fs) f (head_of_domain o) ≡ Some n → FirstBadCall E fs f n
  function_first f n None d e = no_head (sym (some_inj e)) (λ id us k. some_is_not_none (sym d ∙ k))
  function_first f n (Some a) d e = head_first f n a (head_of a) d refl e

  no_head_fault : (f : Function) (a h : Tree) → head_of a ≡ h → ((id : GlobalId) (us : List Tree) → a ≡ apply (ind id) us → ⊥) → walk_fault E (recursive_places fs) (length fs) f h ≡ Some 0
  no_head_fault f a (ind id) q n = absurd (n id (arguments_of a) (sym (apply_head a) ∙ ap (λ z. apply z (arguments_of a)) q))
  no_head_fault f a h q n = refl

  no_domain_fault : (f : Function) (o : Option Tree) → element f.domains f.recursive_place ≡ o → ((id : GlobalId) (us : List Tree) → element f.domains f.recursive_place ≡ Some (apply (ind id) us) → ⊥) → walk_fault E (recursive_places fs) (length fs) f (head_of_domain o) ≡ Some 0
  no_domain_fault f None d n = refl
  no_domain_fault f (Some a) d n = no_head_fault f a (head_of a) refl (λ id us e. n id us (d ∙ ap Some e))

  function_at : (f : Function) (n : ℕ) → FirstBadCall E fs f n → function_fault E (recursive_places fs) (length fs) f ≡ Some n
  function_at f n (no_head e h) = no_domain_fault f (element f.domains f.recursive_place) refl h ∙ ap Some (sym e)
  function_at f n (bad_call id us place o e d h) =
      let places = recursive_places fs in
      let m : min (0 + place + 1) 4294967295 ≡ n = omega (arith, e) in
      ap (λ z. walk_fault E places (length fs) f (head_of_domain z)) d
      ∙ ap (walk_fault E places (length fs) f) (head_of_apply us (ind id))
      ∙ ap (λ w. failed_call w) (walked (recursive_marks E id) places f.body (body_marks (length fs) f) [] 0
      ∙ fails_at (recursive_marks E id) places (no_marks_of_nothing id) (marks_are_better id) (occurrences (recursive_marks E id) places (body_marks (length fs) f) [] f.body) 0 place o h)
      ∙ ap Some m

  -- All functions
  abbrev pub at_call : (f : ℕ) → ℕ → Unguarded
  at_call f call = record { which = f; call = call }

  record FoundFunction (i : ℕ) (gs : List Function) (fault : Unguarded) : Type 0 where
    j : ℕ
    g : Function
    first : FirstNot (GuardedFunction E fs) gs j g
    place_is : fault.which ≡ i + j
    fault_is : function_fault E (recursive_places fs) (length fs) g ≡ Some fault.call

  functions_first : (i : ℕ) (gs : List Function) (fault : Unguarded) → Each (λ f. HasAllParts f.body) gs → functions_fault E (recursive_places fs) (length fs) i gs ≡ Some fault → FoundFunction i gs fault
  functions_first i [] fault s e = some_is_not_none e
  functions_first i (g ∷ gs) fault s e = by_fault (function_fault E (recursive_places fs) (length fs) g) refl e (functions_first (i + 1) gs fault s.1)
    where
      by_fault : (o : Option ℕ) → function_fault E (recursive_places fs) (length fs) g ≡ o → or_else (option_map (at_call i) o) (functions_fault E (recursive_places fs) (length fs) (i + 1) gs) ≡ Some fault →
          (functions_fault E (recursive_places fs) (length fs) (i + 1) gs ≡ Some fault → FoundFunction (i + 1) gs fault) → FoundFunction i (g ∷ gs) fault
      by_fault None q e later =
          let r = later e in
          let p = r.place_is in
          record {
            j = suc r.j;
            g = r.g;
            first = record { stands = r.first.stands; before = (guarded_function E fs g (element g.domains g.recursive_place) refl s.0 q, r.first.before); is_not = r.first.is_not };
            place_is = omega (arith, p);
            fault_is = r.fault_is;
          }
      by_fault (Some n) q e later =
          let same : at_call i n ≡ fault = some_inj e in
          let m : i ≡ i + 0 = omega arith in
          record {
            j = 0;
            g = g;
            first = record { stands = refl; before = tt; is_not = λ h. some_is_not_none (sym (function_passes E fs g s.0 h) ∙ q) };
            place_is = sym (ap (λ z. z.which) same) ∙ m;
            fault_is = q ∙ ap (λ z. Some z.call) same;
          }

  functions_at : (i : ℕ) (gs : List Function) (j : ℕ) (g : Function) (n : ℕ) → Each (λ f. HasAllParts f.body) gs → FirstNot (GuardedFunction E fs) gs j g → function_fault E (recursive_places fs) (length fs) g ≡ Some n →
      functions_fault E (recursive_places fs) (length fs) i gs ≡ Some (at_call (i + j) n)
  functions_at i [] j g n s h e = some_is_not_none h.stands
  functions_at i (x ∷ gs) zero g n s h e =
      let m : i ≡ i + 0 = omega arith in
      ap (λ o. or_else (option_map (at_call i) o) (functions_fault E (recursive_places fs) (length fs) (i + 1) gs)) (ap (function_fault E (recursive_places fs) (length fs)) (some_inj h.stands) ∙ e)
      ∙ ap (λ z. Some (at_call z n)) m
  functions_at i (x ∷ gs) (suc j) g n s h e =
      let m : i + 1 + j ≡ i + suc j = omega arith in
      ap (λ o. or_else (option_map (at_call i) o) (functions_fault E (recursive_places fs) (length fs) (i + 1) gs)) (function_passes E fs x s.0 h.before.0)
      ∙ functions_at (i + 1) gs j g n s.1 (record { stands = h.stands; before = h.before.1; is_not = h.is_not }) e ∙ ap (λ z. Some (at_call z n)) m

pub guard_fault_is_first : (E : Environment) (fs : List Function) (fault : Unguarded) → Each (λ f. HasAllParts f.body) fs → guard_fault E fs ≡ Some fault → FirstUnguarded E fs fault
guard_fault_is_first E fs fault s e =
    let r = functions_first E fs 0 fs fault s e in
    let p = r.place_is in
    let m : r.j ≡ fault.which = omega (arith, p) in
    record {
      function = r.g;
      first_function = subst (λ i. FirstNot (GuardedFunction E fs) fs i r.g) m r.first;
      first_call = function_first E fs r.g fault.call (element r.g.domains r.g.recursive_place) refl r.fault_is;
    }

pub first_guard_fault : (E : Environment) (fs : List Function) (fault : Unguarded) → Each (λ f. HasAllParts f.body) fs → FirstUnguarded E fs fault → guard_fault E fs ≡ Some fault
first_guard_fault E fs fault s h =
    let m : 0 + fault.which ≡ fault.which = omega arith in
    functions_at E fs 0 fs fault.which h.function fault.call s h.first_function (function_at E fs h.function fault.call h.first_call) ∙ ap (λ z. Some (at_call E fs z fault.call)) m
