-- A Fix that the test of the guard passes is guarded, where each Fix inside its bodies has as many parts as its shapes
-- say, so that the walk goes over all of them. The walk passes a term under arguments that are guarded only where the
-- term applied to them is guarded; and what is tested to be smaller is smaller. The rule of a Fix asks for the guard, and
-- inference for the test.
use Rattle.std.proofs.Common.{◌≡◌, ℕ, zero, suc, ◌+◌, Bool, true, false, ◌||◌, nat_eq, if◌then◌else◌, Option, Some, None, List, [], ◌∷◌, ◌++◌, length, refl, sym, ap, ap₂, ◌∙◌, arith, subst}
use Rattle.std.specs.Prelude.{option_map, replicate}
use Rattle.std.proofs.lemmas.Bool.{eqb-true, and_parts}
use Rattle.std.proofs.lemmas.List.{length-append, length-replicate}
use Rattle.cic_terms.specs.Tree.{Shape, Binders, over, Tree, rel, node, Children, no_child, child, lam, app, ind, case, fix}
use Rattle.cic_names.specs.declared.name.GlobalId.{GlobalId}
use Rattle.cic_rules.specs.Environment.{Environment, element}
use Rattle.cic_rules.specs.Telescopes.{apply, head_of, Function}
use Rattle.cic_rules.specs.Inductive.{Each}
use Rattle.std.specs.Cmp.Lexicographic.{pointwise}
use Rattle.cic_names.specs.Sameness.{same_id}
use Rattle.cic_rules.specs.Shapes.{GuardShape, own_block, nest, GuardShapes, no_more, unshaped, shaped}
use Rattle.cic_rules.specs.Guard.{Mark, plain, main, smaller, function, Marks, under_mark, under_marks, under_plain, recursive_marks, inner_marks, body_marks, recursive_places, Smaller, smaller_variable, smaller_application, smaller_abstraction, smaller_empty_match, smaller_match, ValueShape, no_value_shape, recursive_value, smaller_value, SmallerBranches, no_smaller_branch, smaller_branch, smaller_plain_branch, GuardedTerm, guarded_variable, guarded_call, guarded_parts, guarded_match, guarded_inner_fix, GuardedTerms, none_guarded, more_guarded, GuardedParts, no_guarded_part, guarded_part, GuardedBranches, no_guarded_branch, guarded_branch, guarded_plain_branch, GuardedToBody, guarded_last_part, guarded_earlier_part, GuardedFunction, EachGuarded, Guarded}
use Rattle.cic_counted.specs.Readings.{arguments_of, trees_of}
use Rattle.cic_counted.specs.Outcome.{next_number}
use Rattle.cic_counted.specs.GuardTest.{same_guard_shape, same_guard_shapes, has_guard_shape, marks_or_plain, shape_of_mark, known_of_mark, shape_if, known_value, smaller_shape, have_shape, Walk, passed, failed, then_walk, argument_shape, call_shape, occurrence_at, occurrence, body_flags, fix_marks, walk, walk_children, walk_branches, walk_chosen, failed_call, walk_fault, head_of_domain, function_fault, functions_fault, guard_fault}
use Rattle.cic_counted.proofs.Decided.{ids-is}
use Rattle.cic_soundness.specs.calls.FixParts.{part_count, HasAllParts, PartsHaveAllParts}
use Rattle.cic_soundness.proofs.evaluations.Readings.{apply_head}
use Rattle.cic_metatheory.proofs.environments.Order.{or_else_none}
use Rattle.cic_metatheory.proofs.basics.Options.{some_inj, some_is_not_none}

-- Of two walks over the parts of a Fix, one goes over each part.
abbrev Complement : List Bool → List Bool → Type 0
Complement [] [] = Unit {0}
Complement (x ∷ xs) (y ∷ ys) = ((x || y) ≡ true) × Complement xs ys
Complement _ _ = ⊥

complement_repeated : (n : ℕ) (xs ys : List Bool) → Complement xs ys → Complement (replicate n true ++ xs) (replicate n false ++ ys)
complement_repeated zero xs ys h = h
complement_repeated (suc n) xs ys h = (refl, complement_repeated n xs ys h)

-- The test of shapes decides equality.
mutual
  same_shape-is : (s s' : GuardShape) → same_guard_shape s s' ≡ true → s ≡ s'
  same_shape-is own_block own_block e = refl
  same_shape-is (nest types ss) (nest types' ss') e =
      let p = and_parts (pointwise same_id types types') (same_guard_shapes ss ss') e in
      ap₂ nest (ids-is types types' p.0) (same_shapes-is ss ss' p.1)
  same_shape-is own_block (nest types ss) e = absurd (grind arith)
  same_shape-is (nest types ss) own_block e = absurd (grind arith)

  same_shapes-is : (ss ss' : GuardShapes) → same_guard_shapes ss ss' ≡ true → ss ≡ ss'
  same_shapes-is no_more no_more e = refl
  same_shapes-is (unshaped ss) (unshaped ss') e = ap (λ z. unshaped z) (same_shapes-is ss ss' e)
  same_shapes-is (shaped s ss) (shaped s' ss') e =
      let p = and_parts (same_guard_shape s s') (same_guard_shapes ss ss') e in
      ap₂ (λ x y. shaped x y) (same_shape-is s s' p.0) (same_shapes-is ss ss' p.1)
  same_shapes-is _ _ e = absurd (grind arith)

shape_of_smaller : (m : Mark) (s : GuardShape) → shape_of_mark m ≡ Some s → m ≡ smaller s
shape_of_smaller (smaller r) s e = ap smaller (some_inj e)
shape_of_smaller plain s e = some_is_not_none e
shape_of_smaller main s e = some_is_not_none e
shape_of_smaller (function j) s e = some_is_not_none e

has_shape-is : (s : GuardShape) (o : Option GuardShape) → has_guard_shape s o ≡ true → o ≡ Some s
has_shape-is s None e = absurd (grind arith)
has_shape-is s (Some s') e = ap Some (sym (same_shape-is s s' e))

shape_if-is : (test : GuardShape → Bool) (o : Option GuardShape) (s : GuardShape) → shape_if test o ≡ Some s → (o ≡ Some s) × (test s ≡ true)
shape_if-is test None s e = some_is_not_none e
shape_if-is test (Some r) s e = cases (test r) refl e
  where
    cases : (b : Bool) → test r ≡ b → (if b then Some r else None) ≡ Some s → (Some r ≡ Some s) × (test s ≡ true)
    cases true q e = (e, ap test (sym (some_inj e)) ∙ q)
    cases false q e = some_is_not_none e

module _ (recursive : (known : Option GuardShape) → GlobalId → (place : ℕ) → Option (List Mark)) (places : List ℕ) where
  flags_complement : (ss : List Shape) → Complement (body_flags recursive places true false ss) (body_flags recursive places false true ss)
  flags_complement [] = tt
  flags_complement (s ∷ ss) = complement_repeated (s.domains + 1) _ _ (refl, flags_complement ss)

  flag_count : (types bodies : Bool) (ss : List Shape) → length (body_flags recursive places types bodies ss) ≡ part_count ss
  flag_count types bodies [] = refl
  flag_count types bodies (s ∷ ss) =
      let p = length-append (replicate (s.domains + 1) types) (bodies ∷ body_flags recursive places types bodies ss) in
      let q = length-replicate (s.domains + 1) types in
      let r = flag_count types bodies ss in
      omega (arith, p, q, r)

  -- The test of smaller terms
  known_mark : (marks : Marks) (x : ℕ) (m : Mark) → marks x ≡ m → ValueShape recursive places marks (rel x) (known_of_mark m)
  known_mark marks x main e = recursive_value e
  known_mark marks x (smaller s) e = smaller_value (smaller_variable e)
  known_mark marks x plain e = no_value_shape
  known_mark marks x (function j) e = no_value_shape

  known_by_shape : (marks : Marks) (v : Tree) (o : Option GuardShape) → ((s : GuardShape) → o ≡ Some s → Smaller recursive places marks v s) → ValueShape recursive places marks v o
  known_by_shape marks v None h = no_value_shape
  known_by_shape marks v (Some s) h = smaller_value (h s refl)

  is_known : (marks : Marks) (v : Tree) → ((s : GuardShape) → smaller_shape recursive places marks v ≡ Some s → Smaller recursive places marks v s) →
      ValueShape recursive places marks v (known_value recursive places marks v (smaller_shape recursive places marks v))
  is_known marks (rel x) h = known_mark marks x (marks x) refl
  is_known marks (node f ks) h = known_by_shape marks (node f ks) (smaller_shape recursive places marks (node f ks)) h

  -- The marks of a branch are those of its constructor's arguments, or all plain.
  data BranchMarks (known : Option GuardShape) (id : GlobalId) (place n : ℕ) : List Mark → Type 0 where
    of_constructor : {ms : List Mark} → recursive known id place ≡ Some ms → n ≡ length ms → BranchMarks known id place n ms
    all_plain : BranchMarks known id place n (replicate n plain)

  marks_of_branch : (known : Option GuardShape) (id : GlobalId) (place n : ℕ) (o : Option (List Mark)) → recursive known id place ≡ o → BranchMarks known id place n (marks_or_plain n o)
  marks_of_branch known id place n None e = all_plain
  marks_of_branch known id place n (Some ms) e = cases (nat_eq (length ms) n) refl
    where
      cases : (test : Bool) → nat_eq (length ms) n ≡ test → BranchMarks known id place n (if test then ms else replicate n plain)
      cases true q = of_constructor e (sym (eqb-true (length ms) n q))
      cases false q = all_plain

  smaller_one_branch : {marks : Marks} {s : GuardShape} {known : Option GuardShape} {id : GlobalId} {place : ℕ} {b : Binders} {t : Tree} {ks : Children} {ms : List Mark} → BranchMarks known id place (over b 0) ms →
      Smaller recursive places (under_marks ms marks) t s → SmallerBranches recursive places marks s known id (place + 1) ks → SmallerBranches recursive places marks s known id place (child b t ks)
  smaller_one_branch {ms = ms} (of_constructor e n) h r = smaller_branch ms e n h r
  smaller_one_branch all_plain h r = smaller_plain_branch h r

  mutual
    pub smaller_shape_right : (t : Tree) (marks : Marks) (s : GuardShape) → smaller_shape recursive places marks t ≡ Some s → Smaller recursive places marks t s
    smaller_shape_right (rel x) marks s e = smaller_variable (shape_of_smaller (marks x) s e)
    smaller_shape_right (app f u) marks s e = smaller_application (smaller_shape_right f marks s e)
    smaller_shape_right (lam a t) marks s e = smaller_abstraction (smaller_shape_right t (under_mark plain marks) s e)
    smaller_shape_right (case id n p v no_child) marks s e =
        subst (Smaller recursive places marks (case id n p v no_child)) (some_inj e) smaller_empty_match
    smaller_shape_right (case id n p v (child b t ks)) marks s e =
        let known = known_value recursive places marks v (smaller_shape recursive places marks v) in
        let ms = marks_or_plain (over b 0) (recursive known id 0) in
        let p = shape_if-is (λ r. have_shape recursive places marks known id 1 r ks) (smaller_shape recursive places (under_marks ms marks) t) s e in
        smaller_match known (is_known marks v (smaller_shape_right v marks))
        (smaller_one_branch (marks_of_branch known id 0 (over b 0) (recursive known id 0) refl) (smaller_shape_right t (under_marks ms marks) s p.0)
        (have_shape_right ks marks known id 1 s p.1))
    smaller_shape_right t marks s e = some_is_not_none e

    have_shape_right : (ks : Children) (marks : Marks) (known : Option GuardShape) (id : GlobalId) (place : ℕ) (s : GuardShape) → have_shape recursive places marks known id place s ks ≡ true → SmallerBranches recursive places marks s known id place ks
    have_shape_right no_child marks known id place s e = no_smaller_branch
    have_shape_right (child b t ks) marks known id place s e =
        let ms = marks_or_plain (over b 0) (recursive known id place) in
        let p = and_parts (has_guard_shape s (smaller_shape recursive places (under_marks ms marks) t)) (have_shape recursive places marks known id (place + 1) s ks) e in
        smaller_one_branch (marks_of_branch known id place (over b 0) (recursive known id place) refl)
        (smaller_shape_right t (under_marks ms marks) s (has_shape-is s (smaller_shape recursive places (under_marks ms marks) t) p.0))
        (have_shape_right ks marks known id (place + 1) s p.1)

  -- A walk that passes passes each of its parts.
  passed_both : (w : Walk recursive places) (next : ℕ → Walk recursive places) (last : ℕ) → then_walk recursive places w next ≡ passed last → (middle : ℕ) × (w ≡ passed middle) × (next middle ≡ passed last)
  passed_both (passed middle) next last e = (middle, refl, e)
  passed_both (failed call) next last e = absurd (grind arith)

  -- Applications
  guarded_applied : (marks : Marks) (us : List Tree) (f : Tree) → GuardedTerm recursive places marks f → GuardedTerms recursive places marks us → GuardedTerm recursive places marks (apply f us)
  guarded_applied marks [] f h k = h
  guarded_applied marks (u ∷ us) f h (more_guarded p q) = guarded_applied marks us (app f u) (guarded_parts (guarded_part h (guarded_part p no_guarded_part))) q

  argument_right : (marks : Marks) (o : Option Tree) (s : GuardShape) → argument_shape recursive places marks o ≡ Some s → (u : Tree) × (o ≡ Some u) × Smaller recursive places marks u s
  argument_right marks None s e = some_is_not_none e
  argument_right marks (Some u) s e = (u, refl, smaller_shape_right u marks s e)

  pub call_right : (marks : Marks) (o : Option ℕ) (us : List Tree) (s : GuardShape) → call_shape recursive places marks o us ≡ Some s → (k : ℕ) × (o ≡ Some k) × (u : Tree) × (element us k ≡ Some u) × Smaller recursive places marks u s
  call_right marks None us s e = some_is_not_none e
  call_right marks (Some k) us s e = let r = argument_right marks (element us k) s e in (k, refl, r.0, r.1, r.2)

  occurrence_guarded : (marks : Marks) (x : ℕ) (us : List Tree) (m : Mark) (call last : ℕ) → marks x ≡ m → occurrence recursive places marks m us call ≡ passed last → GuardedTerms recursive places marks us →
      GuardedTerm recursive places marks (apply (rel x) us)
  occurrence_guarded marks x us (function j) call last h e k = cases (call_shape recursive places marks (element places j) us) refl e
    where
      cases : (o : Option GuardShape) → call_shape recursive places marks (element places j) us ≡ o → occurrence_at recursive places o (next_number call) ≡ passed last → GuardedTerm recursive places marks (apply (rel x) us)
      cases (Some s) q e = let r = call_right marks (element places j) us s q in guarded_call x j r.0 us r.2 s refl h r.1 r.3 r.4 k
      cases None q e = absurd (grind arith)
  occurrence_guarded marks x us plain call last h e k = guarded_applied marks us (rel x) (guarded_variable (λ j f. absurd (grind arith))) k
  occurrence_guarded marks x us main call last h e k = guarded_applied marks us (rel x) (guarded_variable (λ j f. absurd (grind arith))) k
  occurrence_guarded marks x us (smaller s) call last h e k = guarded_applied marks us (rel x) (guarded_variable (λ j f. absurd (grind arith))) k

  guarded_one_branch : {marks : Marks} {known : Option GuardShape} {id : GlobalId} {place : ℕ} {b : Binders} {t : Tree} {ks : Children} {ms : List Mark} → BranchMarks known id place (over b 0) ms →
      GuardedTerm recursive places (under_marks ms marks) t → GuardedBranches recursive places marks known id (place + 1) ks → GuardedBranches recursive places marks known id place (child b t ks)
  guarded_one_branch {ms = ms} (of_constructor e n) h r = guarded_branch ms e n h r
  guarded_one_branch all_plain h r = guarded_plain_branch h r

  -- A body is guarded under its marks, or else under plain ones.
  data BodyGuarded (marks : Marks) (o : Option (List Mark)) (b : Binders) (t : Tree) : Type 0 where
    under_its_marks : (ms : List Mark) → o ≡ Some ms → over b 0 ≡ length ms → GuardedTerm recursive places (under_marks ms marks) t → BodyGuarded marks o b t
    under_plain_marks : GuardedTerm recursive places (under_plain (over b 0) marks) t → BodyGuarded marks o b t

  body_guarded : (marks : Marks) (o : Option (List Mark)) (b : Binders) (t : Tree) → GuardedTerm recursive places (under_marks (marks_or_plain (over b 0) o) marks) t → BodyGuarded marks o b t
  body_guarded marks None b t h = under_plain_marks h
  body_guarded marks (Some ms) b t h = cases (nat_eq (length ms) (over b 0)) refl h
    where
      cases : (test : Bool) → nat_eq (length ms) (over b 0) ≡ test → GuardedTerm recursive places (under_marks (if test then ms else replicate (over b 0) plain) marks) t → BodyGuarded marks (Some ms) b t
      cases true q h = under_its_marks ms refl (sym (eqb-true (length ms) (over b 0) q)) h
      cases false q h = under_plain_marks h

  -- The parts of a Fix of one function, where its body is guarded under its marks, or else under plain ones.
  data OneFunction (marks : Marks) (o : Option (List Mark)) (ks : Children) : Type 0 where
    to_body : (ms : List Mark) → o ≡ Some ms → GuardedToBody recursive places marks ms ks → OneFunction marks o ks
    plain_parts : GuardedParts recursive places marks ks → OneFunction marks o ks

  one_more_part : (marks : Marks) (o : Option (List Mark)) (b : Binders) (t : Tree) (ks : Children) → GuardedTerm recursive places (under_plain (over b 0) marks) t → OneFunction marks o ks → OneFunction marks o (child b t ks)
  one_more_part marks o b t ks h (to_body ms e k) = to_body ms e (guarded_earlier_part h k)
  one_more_part marks o b t ks h (plain_parts k) = plain_parts (guarded_part h k)

  last_part : (marks : Marks) (o : Option (List Mark)) (b : Binders) (t : Tree) → BodyGuarded marks o b t → OneFunction marks o (child b t no_child)
  last_part marks o b t (under_its_marks ms e n h) = to_body ms e (guarded_last_part n h)
  last_part marks o b t (under_plain_marks h) = plain_parts (guarded_part h no_guarded_part)

  -- A Fix under arguments.
  fix_guarded : (marks : Marks) (which : ℕ) (f : Shape) (parts : Children) (us : List Tree) (o : Option GuardShape) → argument_shape recursive places marks (element us f.k) ≡ o → GuardedTerms recursive places marks us →
      OneFunction marks (option_map (λ s. inner_marks s f) o) parts → GuardedTerm recursive places marks (apply (fix which (f ∷ []) parts) us)
  fix_guarded marks which f parts us o q k (plain_parts h) = guarded_applied marks us (fix which (f ∷ []) parts) (guarded_parts h) k
  fix_guarded marks which f parts us None q k (to_body ms e h) = some_is_not_none e
  fix_guarded marks which f parts us (Some s) q k (to_body ms e h) =
      let r = argument_right marks (element us f.k) s q in
      guarded_inner_fix which f parts us r.0 s refl r.1 r.2 (subst (λ z. GuardedToBody recursive places marks z parts) (sym (some_inj e)) h) k

  mutual
    walk_guarded : (t : Tree) (marks : Marks) (us : List Tree) (call last : ℕ) → HasAllParts t → walk recursive places marks us t call ≡ passed last → GuardedTerms recursive places marks us →
        GuardedTerm recursive places marks (apply t us)
    walk_guarded (rel x) marks us call last s e k = occurrence_guarded marks x us (marks x) call last refl e k
    walk_guarded (app f u) marks us call last s e k =
        let p = passed_both (walk recursive places marks (u ∷ us) f call) (walk recursive places marks [] u) last e in
        walk_guarded f marks (u ∷ us) call p.0 s.1.0 p.1 (more_guarded (walk_guarded u marks [] p.0 last s.1.1.0 p.2 none_guarded) k)
    walk_guarded (case id n p v branches) marks us call last s e k =
        let known = known_value recursive places marks v (smaller_shape recursive places marks v) in
        let a = passed_both (walk recursive places (under_plain (n + 1) marks) [] p call) (λ call'. then_walk recursive places (walk recursive places marks [] v call') (walk_branches recursive places marks known id 0 branches)) last e in
        let b = passed_both (walk recursive places marks [] v a.0) (walk_branches recursive places marks known id 0 branches) last a.2 in
        guarded_applied marks us (case id n p v branches)
        (guarded_match known (is_known marks v (smaller_shape_right v marks)) (walk_guarded p (under_plain (n + 1) marks) [] call a.0 s.1.0 a.1 none_guarded) (walk_guarded v marks [] a.0 b.0 s.1.1.0 b.1 none_guarded)
        (branches_guarded branches marks known id 0 s.1.1.1 b.0 last b.2)) k
    walk_guarded (fix which [] parts) marks us call last s e k =
        let p = passed_both (walk_chosen recursive places marks None [] parts call) (walk_chosen recursive places marks None [] parts) last e in
        guarded_applied marks us (fix which [] parts)
        (guarded_parts (chosen_guarded parts marks [] [] call p.0 p.0 last s.1 s.0 tt p.1 p.2)) k
    walk_guarded (fix which (f ∷ []) parts) marks us call last s e k =
        let o = fix_marks recursive places marks us (f ∷ []) in
        let p = passed_both (walk_chosen recursive places marks None (body_flags recursive places true false (f ∷ [])) parts call) (walk_chosen recursive places marks o (body_flags recursive places false true (f ∷ [])) parts) last e in
        fix_guarded marks which f parts us (argument_shape recursive places marks (element us f.k)) refl k
        (one_guarded (f.domains + 1) parts marks o call p.0 p.0 last s.1 (let c = s.0 in omega (arith, c)) p.1 p.2)
    walk_guarded (fix which (f ∷ g ∷ fs) parts) marks us call last s e k =
        let shapes = f ∷ g ∷ fs in
        let p = passed_both (walk_chosen recursive places marks None (body_flags recursive places true false shapes) parts call) (walk_chosen recursive places marks None (body_flags recursive places false true shapes) parts) last e in
        guarded_applied marks us (fix which shapes parts)
        (guarded_parts (chosen_guarded parts marks (body_flags recursive places true false shapes) (body_flags recursive places false true shapes) call p.0 p.0 last s.1 (flag_count true false shapes ∙ s.0) (flags_complement shapes) p.1 p.2)) k
    walk_guarded (node f ks) marks us call last s e k = guarded_applied marks us (node f ks) (guarded_parts (children_guarded ks marks call last s.1 e)) k

    children_guarded : (ks : Children) (marks : Marks) (call last : ℕ) → PartsHaveAllParts ks → walk_children recursive places marks ks call ≡ passed last → GuardedParts recursive places marks ks
    children_guarded no_child marks call last s e = no_guarded_part
    children_guarded (child b t ks) marks call last s e =
        let p = passed_both (walk recursive places (under_plain (over b 0) marks) [] t call) (walk_children recursive places marks ks) last e in
        guarded_part (walk_guarded t (under_plain (over b 0) marks) [] call p.0 s.0 p.1 none_guarded) (children_guarded ks marks p.0 last s.1 p.2)

    branches_guarded : (ks : Children) (marks : Marks) (known : Option GuardShape) (id : GlobalId) (place : ℕ) → PartsHaveAllParts ks → (call last : ℕ) → walk_branches recursive places marks known id place ks call ≡ passed last → GuardedBranches recursive places marks known id place ks
    branches_guarded no_child marks known id place s call last e = no_guarded_branch
    branches_guarded (child b t ks) marks known id place s call last e =
        let ms = marks_or_plain (over b 0) (recursive known id place) in
        let p = passed_both (walk recursive places (under_marks ms marks) [] t call) (walk_branches recursive places marks known id (place + 1) ks) last e in
        guarded_one_branch (marks_of_branch known id place (over b 0) (recursive known id place) refl) (walk_guarded t (under_marks ms marks) [] call p.0 s.0 p.1 none_guarded) (branches_guarded ks marks known id (place + 1) s.1 p.0 last p.2)

    -- The domains and the codomain of one function, then its body.
    one_guarded : (n : ℕ) (ks : Children) (marks : Marks) (o : Option (List Mark)) (call last call' last' : ℕ) → PartsHaveAllParts ks → n + 1 ≡ length (trees_of ks) →
        walk_chosen recursive places marks None (replicate n true ++ false ∷ []) ks call ≡ passed last → walk_chosen recursive places marks o (replicate n false ++ true ∷ []) ks call' ≡ passed last' → OneFunction marks o ks
    one_guarded zero (child b t no_child) marks o call last call' last' s l e e' =
        let q = passed_both (walk recursive places (under_marks (marks_or_plain (over b 0) o) marks) [] t call') (walk_chosen recursive places marks o [] no_child) last' e' in
        last_part marks o b t (body_guarded marks o b t (walk_guarded t (under_marks (marks_or_plain (over b 0) o) marks) [] call' q.0 s.0 q.1 none_guarded))
    one_guarded (suc n) (child b t ks) marks o call last call' last' s l e e' =
        let p = passed_both (walk recursive places (under_plain (over b 0) marks) [] t call) (walk_chosen recursive places marks None (replicate n true ++ false ∷ []) ks) last e in
        one_more_part marks o b t ks (walk_guarded t (under_plain (over b 0) marks) [] call p.0 s.0 p.1 none_guarded) (one_guarded n ks marks o p.0 last call' last' s.1 (omega (arith, l)) p.2 e')
    one_guarded zero (child b t (child c u ks)) marks o call last call' last' s l e e' = absurd (omega (arith, l))
    one_guarded zero no_child marks o call last call' last' s l e e' = absurd (omega (arith, l))
    one_guarded (suc n) no_child marks o call last call' last' s l e e' = absurd (omega (arith, l))

    chosen_guarded : (ks : Children) (marks : Marks) (flags flags' : List Bool) (call last call' last' : ℕ) → PartsHaveAllParts ks → length flags ≡ length (trees_of ks) → Complement flags flags' →
        walk_chosen recursive places marks None flags ks call ≡ passed last → walk_chosen recursive places marks None flags' ks call' ≡ passed last' → GuardedParts recursive places marks ks
    chosen_guarded no_child marks flags flags' call last call' last' s l h e e' = no_guarded_part
    chosen_guarded (child b t ks) marks [] flags' call last call' last' s l h e e' = absurd (omega (arith, l))
    chosen_guarded (child b t ks) marks (x ∷ flags) [] call last call' last' s l h e e' = absurd h
    chosen_guarded (child b t ks) marks (true ∷ flags) (true ∷ flags') call last call' last' s l h e e' =
        let p = passed_both (walk recursive places (under_plain (over b 0) marks) [] t call) (walk_chosen recursive places marks None flags ks) last e in
        let q = passed_both (walk recursive places (under_plain (over b 0) marks) [] t call') (walk_chosen recursive places marks None flags' ks) last' e' in
        guarded_part (walk_guarded t (under_plain (over b 0) marks) [] call p.0 s.0 p.1 none_guarded) (chosen_guarded ks marks flags flags' p.0 last q.0 last' s.1 (omega (arith, l)) h.1 p.2 q.2)
    chosen_guarded (child b t ks) marks (true ∷ flags) (false ∷ flags') call last call' last' s l h e e' =
        let p = passed_both (walk recursive places (under_plain (over b 0) marks) [] t call) (walk_chosen recursive places marks None flags ks) last e in
        guarded_part (walk_guarded t (under_plain (over b 0) marks) [] call p.0 s.0 p.1 none_guarded) (chosen_guarded ks marks flags flags' p.0 last call' last' s.1 (omega (arith, l)) h.1 p.2 e')
    chosen_guarded (child b t ks) marks (false ∷ flags) (true ∷ flags') call last call' last' s l h e e' =
        let q = passed_both (walk recursive places (under_plain (over b 0) marks) [] t call') (walk_chosen recursive places marks None flags' ks) last' e' in
        guarded_part (walk_guarded t (under_plain (over b 0) marks) [] call' q.0 s.0 q.1 none_guarded) (chosen_guarded ks marks flags flags' call last q.0 last' s.1 (omega (arith, l)) h.1 e q.2)
    chosen_guarded (child b t ks) marks (false ∷ flags) (false ∷ flags') call last call' last' s l h e e' = absurd (grind arith)

-- The functions of a Fix
not_failed : {recursive : (known : Option GuardShape) → GlobalId → (place : ℕ) → Option (List Mark)} {places : List ℕ} (w : Walk recursive places) → failed_call w ≡ None → (last : ℕ) × (w ≡ passed last)
not_failed (passed last) e = (last, refl)
not_failed (failed call) e = absurd (grind arith)

record Headed (E : Environment) (all : List Function) (f : Function) (h : Tree) : Type 0 where
  id : GlobalId
  is : h ≡ ind id
  guarded_body : GuardedTerm (recursive_marks E id) (recursive_places all) (body_marks (length all) f) f.body

headed : (E : Environment) (all : List Function) (f : Function) (h : Tree) → HasAllParts f.body → walk_fault E (recursive_places all) (length all) f h ≡ None → Headed E all f h
headed E all f (ind id) s e =
    let p = not_failed (walk (recursive_marks E id) (recursive_places all) (body_marks (length all) f) [] f.body 0) e in
    record { id = id; is = refl; guarded_body = walk_guarded (recursive_marks E id) (recursive_places all) f.body (body_marks (length all) f) [] 0 p.0 s p.1 none_guarded }
headed E all f h s e = absurd (grind arith)

pub guarded_function : (E : Environment) (all : List Function) (f : Function) (o : Option Tree) → element f.domains f.recursive_place ≡ o → HasAllParts f.body → walk_fault E (recursive_places all) (length all) f (head_of_domain o) ≡ None → GuardedFunction E all f
guarded_function E all f None q s e = absurd (grind arith)
guarded_function E all f (Some a) q s e =
    let h = headed E all f (head_of a) s e in
    record {
      head = h.id;
      arguments = arguments_of a;
      recursive_domain = q ∙ ap Some (sym (apply_head a) ∙ ap (λ z. apply z (arguments_of a)) h.is);
      guarded_body = h.guarded_body;
    }

pub none_mapped : {A B : Type 0} (f : A → B) (o : Option A) → option_map f o ≡ None → o ≡ None
none_mapped f None e = refl
none_mapped f (Some a) e = absurd (grind arith)

each_guarded : (E : Environment) (all fs : List Function) (i : ℕ) → Each (λ f. HasAllParts f.body) fs → functions_fault E (recursive_places all) (length all) i fs ≡ None → EachGuarded E all fs
each_guarded E all [] i s e = tt
each_guarded E all (f ∷ fs) i s e =
    let p = or_else_none (option_map (λ call. record { which = i; call = call }) (function_fault E (recursive_places all) (length all) f)) _ e in
    (guarded_function E all f (element f.domains f.recursive_place) refl s.0 (none_mapped _ _ p.0), each_guarded E all fs (i + 1) s.1 p.1)

pub guard_is_right : (E : Environment) (fs : List Function) → Each (λ f. HasAllParts f.body) fs → guard_fault E fs ≡ None → Guarded E fs
guard_is_right E fs s e = each_guarded E fs fs 0 s e
