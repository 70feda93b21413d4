-- The test of the guard is exact: it passes each guarded Fix whose bodies have the parts that their shapes say. A
-- derivation may do without the marks of a branch; the test never does, so it is looked at under marks that are better
-- at plain variables, where each smaller term has the one shape that the derivation gives it.
use Rattle.std.proofs.Common.{◌≡◌, ◌≢◌, ◌⊎◌, inl, inr, ℕ, zero, suc, ◌+◌, Bool, true, false, nat_eq, if◌then◌else◌, Option, Some, None, List, [], ◌∷◌, ◌++◌, length, drop, refl, sym, ap, ◌∙◌, arith, subst, eq-eqb}
use Rattle.std.specs.Prelude.{option_map, replicate}
use Rattle.std.proofs.lemmas.Bool.{eqb-true, and_from}
use Rattle.cic_terms.specs.Tree.{Shape, Former, AppF, CaseF, FixF, Binders, none, more, over, Tree, rel, node, Children, no_child, child, app, ind, fix}
use Rattle.cic_names.specs.declared.name.GlobalId.{GlobalId}
use Rattle.cic_rules.specs.Environment.{Environment, TypeInBlock, Block, TypeDeclaration, ConstructorDeclaration, bare_ids, whole_block, element, or_else}
use Rattle.cic_rules.specs.Telescopes.{is_among, apply, domains_of, Function}
use Rattle.cic_rules.specs.Shapes.{GuardShape, own_block, nest, GuardShapes, no_more, unshaped, shaped, under_shapes, shape_of_type}
use Rattle.cic_rules.specs.Guard.{Mark, plain, main, smaller, function, Marks, under_mark, under_marks, under_plain, Smaller, smaller_variable, smaller_application, smaller_abstraction, smaller_empty_match, smaller_match, ValueShape, no_value_shape, recursive_value, smaller_value, SmallerBranches, no_smaller_branch, smaller_branch, smaller_plain_branch, domain_marks, inner_marks, mark_of_shape, argument_marks, constructor_marks, type_marks, marks_in_block, marks_by_shape, marks_with_own, recursive_marks, recursive_places, GuardedFunction, EachGuarded, Guarded, GuardedTerm, guarded_variable, guarded_call, guarded_parts, guarded_match, guarded_inner_fix, GuardedTerms, none_guarded, more_guarded, GuardedParts, no_guarded_part, guarded_part, GuardedBranches, no_guarded_branch, guarded_branch, guarded_plain_branch, GuardedToBody, guarded_last_part, guarded_earlier_part}
use Rattle.cic_rules.specs.Inductive.{Each}
use Rattle.cic_counted.specs.Readings.{trees_of}
use Rattle.cic_counted.specs.Outcome.{next_number}
use Rattle.cic_counted.specs.GuardTest.{same_guard_shape, same_guard_shapes, has_guard_shape, marks_or_plain, shape_of_mark, known_of_mark, shape_if, known_value, smaller_shape, have_shape, Walk, passed, failed, then_walk, argument_shape, call_shape, occurrence_at, occurrence, body_flags, fix_marks, walk, walk_children, walk_branches, walk_chosen, failed_call, walk_fault, head_of_domain, function_fault, functions_fault, guard_fault}
use Rattle.cic_counted.proofs.Decided.{ids-refl}
use Rattle.cic_soundness.specs.calls.FixParts.{HasAllParts, PartsHaveAllParts}
use Rattle.cic_metatheory.proofs.basics.Options.{some_inj, some_is_not_none}
use Rattle.cic_metatheory.proofs.basics.Applications.{head_of_apply}

-- The test of shapes finds each the same as itself.
mutual
  same_shape-refl : (s : GuardShape) → same_guard_shape s s ≡ true
  same_shape-refl own_block = refl
  same_shape-refl (nest types ss) = and_from _ _ (ids-refl types) (same_shapes-refl ss)

  same_shapes-refl : (ss : GuardShapes) → same_guard_shapes ss ss ≡ true
  same_shapes-refl no_more = refl
  same_shapes-refl (unshaped ss) = same_shapes-refl ss
  same_shapes-refl (shaped s ss) = and_from _ _ (same_shape-refl s) (same_shapes-refl ss)

-- Better at plain variables
pub data Better : Mark → Mark → Type 0 where
  as_it_was : {m : Mark} → Better m m
  no_more_plain : {s : GuardShape} → Better plain (smaller s)

abbrev AllBetter : List Mark → List Mark → Type 0
AllBetter [] [] = Unit {0}
AllBetter (m ∷ ms) (n ∷ ns) = Better m n × AllBetter ms ns
AllBetter _ _ = ⊥

abbrev pub AllBetterThanPlain : List Mark → Type 0
AllBetterThanPlain [] = Unit {0}
AllBetterThanPlain (m ∷ ms) = Better plain m × AllBetterThanPlain ms

abbrev pub MarksBetter : Marks → Marks → Type 0
MarksBetter f f' = (x : ℕ) → Better (f x) (f' x)

under_one : (m n : Mark) (f f' : Marks) → Better m n → MarksBetter f f' → MarksBetter (under_mark m f) (under_mark n f')
under_one m n f f' h k zero = h
under_one m n f f' h k (suc x) = k x

under_all : (ms ns : List Mark) (f f' : Marks) → AllBetter ms ns → MarksBetter f f' → MarksBetter (under_marks ms f) (under_marks ns f')
under_all [] [] f f' h k = k
under_all (m ∷ ms) (n ∷ ns) f f' h k = under_all ms ns (under_mark m f) (under_mark n f') h.1 (under_one m n f f' h.0 k)
under_all [] (n ∷ ns) f f' h k = absurd h
under_all (m ∷ ms) [] f f' h k = absurd h

all_as_they_were : (ms : List Mark) → AllBetter ms ms
all_as_they_were [] = tt
all_as_they_were (m ∷ ms) = (as_it_was, all_as_they_were ms)

than_plain : (n : ℕ) (ms : List Mark) → length ms ≡ n → AllBetterThanPlain ms → AllBetter (replicate n plain) ms
than_plain zero [] l h = tt
than_plain zero (m ∷ ms) l h = absurd (grind arith)
than_plain (suc n) [] l h = absurd (grind arith)
than_plain (suc n) (m ∷ ms) l h = (h.0, than_plain n ms (omega (arith, l)) h.1)

or_plain : (n : ℕ) (o : Option (List Mark)) → ((ms : List Mark) → o ≡ Some ms → AllBetterThanPlain ms) → AllBetter (replicate n plain) (marks_or_plain n o)
or_plain n None h = all_as_they_were (replicate n plain)
or_plain n (Some ms) h = cases (nat_eq (length ms) n) refl
  where
    cases : (test : Bool) → nat_eq (length ms) n ≡ test → AllBetter (replicate n plain) (if test then ms else replicate n plain)
    cases true q = than_plain n ms (eqb-true (length ms) n q) (h ms refl)
    cases false q = all_as_they_were (replicate n plain)

under_same : (ms : List Mark) (f f' : Marks) → MarksBetter f f' → MarksBetter (under_marks ms f) (under_marks ms f')
under_same ms f f' h = under_all ms ms f f' (all_as_they_were ms) h

under_or_plain : (n : ℕ) (o : Option (List Mark)) → ((ms : List Mark) → o ≡ Some ms → AllBetterThanPlain ms) → (f f' : Marks) → MarksBetter f f' → MarksBetter (under_plain n f) (under_marks (marks_or_plain n o) f')
under_or_plain n o w f f' h = under_all (replicate n plain) (marks_or_plain n o) f f' (or_plain n o w) h

these_marks : (n : ℕ) (o : Option (List Mark)) (ms : List Mark) → o ≡ Some ms → n ≡ length ms → marks_or_plain n o ≡ ms
these_marks n o ms e l = ap (marks_or_plain n) e ∙ chosen (nat_eq (length ms) n) (eq-eqb (length ms) n (sym l))
  where
    chosen : (test : Bool) → test ≡ true → (if test then ms else replicate n plain) ≡ ms
    chosen true q = refl
    chosen false q = absurd (grind arith)

smaller_stays : (m n : Mark) (s : GuardShape) → Better m n → m ≡ smaller s → n ≡ smaller s
smaller_stays m n s as_it_was e = e
smaller_stays m n s no_more_plain e = absurd (grind arith)

main_stays : (m n : Mark) → Better m n → m ≡ main → n ≡ main
main_stays m n as_it_was e = e
main_stays m n no_more_plain e = absurd (grind arith)

shape_of_known : (m : Mark) (s : GuardShape) → shape_of_mark m ≡ Some s → known_of_mark m ≡ Some s
shape_of_known main s e = some_is_not_none e
shape_of_known plain s e = e
shape_of_known (smaller r) s e = e
shape_of_known (function j) s e = e

shape_if_holds : (test : GuardShape → Bool) (o : Option GuardShape) (s : GuardShape) → o ≡ Some s → test s ≡ true → shape_if test o ≡ Some s
shape_if_holds test o s e q = ap (shape_if test) e ∙ ap (λ b. if b then Some s else None) q

has_it : (s : GuardShape) (o : Option GuardShape) → o ≡ Some s → has_guard_shape s o ≡ true
has_it s o e = ap (has_guard_shape s) e ∙ same_shape-refl s

-- What better marks keep
no_function_stays : (m n : Mark) → Better m n → ((j : ℕ) → m ≢ function j) → (j : ℕ) → n ≢ function j
no_function_stays m n as_it_was h j e = h j e
no_function_stays m n no_more_plain h j e = grind arith

function_stays : (m n : Mark) (j : ℕ) → Better m n → m ≡ function j → n ≡ function j
function_stays m n j as_it_was e = e
function_stays m n j no_more_plain e = absurd (grind arith)

many_plain : (n : ℕ) → AllBetterThanPlain (replicate n plain)
many_plain zero = tt
many_plain (suc n) = (as_it_was, many_plain n)

domains_better : (s : GuardShape) (k n : ℕ) → AllBetterThanPlain (domain_marks (smaller s) k n)
domains_better s zero zero = tt
domains_better s (suc k) zero = tt
domains_better s zero (suc n) = (no_more_plain, many_plain n)
domains_better s (suc k) (suc n) = (as_it_was, domains_better s k n)

element_front : {A : Type 0} (xs ys : List A) (k : ℕ) (x : A) → element xs k ≡ Some x → element (xs ++ ys) k ≡ Some x
element_front [] ys k x e = some_is_not_none e
element_front (y ∷ xs) ys zero x e = e
element_front (y ∷ xs) ys (suc k) x e = element_front xs ys k x e

parts_of_arguments : (vs : List Tree) (t : Tree) → HasAllParts (apply t vs) → HasAllParts t × Each HasAllParts vs
parts_of_arguments [] t h = (h, tt)
parts_of_arguments (v ∷ vs) t h = let r = parts_of_arguments vs (app t v) h in let p = r.0 in (p.1.0, (p.1.1.0, r.1))

module _ (recursive : (known : Option GuardShape) → GlobalId → (place : ℕ) → Option (List Mark)) (places : List ℕ)
    (of_nothing : (id : GlobalId) (place : ℕ) → recursive None id place ≡ None)
    (only_smaller : (known : Option GuardShape) (id : GlobalId) (place : ℕ) (ms : List Mark) → recursive known id place ≡ Some ms → AllBetterThanPlain ms) where
  known_by_value : (f' : Marks) (v : Tree) (s : GuardShape) → smaller_shape recursive places f' v ≡ Some s → known_value recursive places f' v (smaller_shape recursive places f' v) ≡ Some s
  known_by_value f' (rel x) s e = shape_of_known (f' x) s e
  known_by_value f' (node g ks) s e = e

  still : (known known' : Option GuardShape) → (known ≡ None) ⊎ (known' ≡ known) → (id : GlobalId) (place : ℕ) (ms : List Mark) → recursive known id place ≡ Some ms → recursive known' id place ≡ Some ms
  still known known' (inl q) id place ms e = some_is_not_none (sym (of_nothing id place) ∙ ap (λ k. recursive k id place) (sym q) ∙ e)
  still known known' (inr q) id place ms e = ap (λ k. recursive k id place) q ∙ e

  branch_has_shape : (known known' : Option GuardShape) → (known ≡ None) ⊎ (known' ≡ known) → (id : GlobalId) (place n : ℕ) (ms : List Mark) → recursive known id place ≡ Some ms → n ≡ length ms → (t : Tree) (s : GuardShape) (f' : Marks) →
      smaller_shape recursive places (under_marks ms f') t ≡ Some s → smaller_shape recursive places (under_marks (marks_or_plain n (recursive known' id place)) f') t ≡ Some s
  branch_has_shape known known' (inl q) id place n ms e l t s f' h = some_is_not_none (sym (of_nothing id place) ∙ ap (λ k. recursive k id place) (sym q) ∙ e)
  branch_has_shape known known' (inr q) id place n ms e l t s f' h =
      ap (λ z. smaller_shape recursive places (under_marks z f') t) (these_marks n (recursive known' id place) ms (ap (λ k. recursive k id place) q ∙ e) l) ∙ h

  mutual
    pub smaller_has_shape : {f : Marks} {t : Tree} {s : GuardShape} → Smaller recursive places f t s → (f' : Marks) → MarksBetter f f' → smaller_shape recursive places f' t ≡ Some s
    smaller_has_shape (smaller_variable {marks = f} {x = x} {s = s} e) f' h = ap shape_of_mark (smaller_stays (f x) (f' x) s (h x) e)
    smaller_has_shape (smaller_application c) f' h = smaller_has_shape c f' h
    smaller_has_shape (smaller_abstraction {marks = f} c) f' h = smaller_has_shape c (under_mark plain f') (under_one plain plain f f' as_it_was h)
    smaller_has_shape smaller_empty_match f' h = refl
    smaller_has_shape (smaller_match {id = id} {v = v} {s = s} known k (smaller_branch {b = b} {t = t} {ks = ks} ms e n c cs)) f' h =
        let known' = known_value recursive places f' v (smaller_shape recursive places f' v) in
        let same = known_stays k f' h in
        shape_if_holds (λ r. have_shape recursive places f' known' id 1 r ks) _ s
        (branch_has_shape known known' same id 0 (over b 0) ms e n t s f' (smaller_has_shape c (under_marks ms f') (under_same ms _ f' h)))
        (branches_have_shape cs known' same f' h)
    smaller_has_shape (smaller_match {id = id} {v = v} {s = s} known k (smaller_plain_branch {b = b} {t = t} {ks = ks} c cs)) f' h =
        let known' = known_value recursive places f' v (smaller_shape recursive places f' v) in
        let same = known_stays k f' h in
        shape_if_holds (λ r. have_shape recursive places f' known' id 1 r ks) _ s
        (smaller_has_shape c (under_marks (marks_or_plain (over b 0) (recursive known' id 0)) f') (under_or_plain (over b 0) (recursive known' id 0) (only_smaller known' id 0) _ f' h))
        (branches_have_shape cs known' same f' h)

    known_stays : {f : Marks} {v : Tree} {known : Option GuardShape} → ValueShape recursive places f v known → (f' : Marks) → MarksBetter f f' →
        (known ≡ None) ⊎ (known_value recursive places f' v (smaller_shape recursive places f' v) ≡ known)
    known_stays no_value_shape f' h = inl refl
    known_stays (recursive_value {marks = f} {x = x} e) f' h = inr (ap known_of_mark (main_stays (f x) (f' x) (h x) e))
    known_stays (smaller_value {t = v} {s = s} c) f' h = inr (known_by_value f' v s (smaller_has_shape c f' h))

    branches_have_shape : {f : Marks} {s : GuardShape} {known : Option GuardShape} {id : GlobalId} {place : ℕ} {ks : Children} → SmallerBranches recursive places f s known id place ks → (known' : Option GuardShape) → (known ≡ None) ⊎ (known' ≡ known) →
        (f' : Marks) → MarksBetter f f' → have_shape recursive places f' known' id place s ks ≡ true
    branches_have_shape no_smaller_branch known' same f' h = refl
    branches_have_shape (smaller_branch {s = s} {known = known} {id = id} {place = place} {b = b} {t = t} ms e n c cs) known' same f' h =
        and_from _ _ (has_it s _ (branch_has_shape known known' same id place (over b 0) ms e n t s f' (smaller_has_shape c (under_marks ms f') (under_same ms _ f' h)))) (branches_have_shape cs known' same f' h)
    branches_have_shape (smaller_plain_branch {s = s} {id = id} {place = place} {b = b} {t = t} c cs) known' same f' h =
        and_from _ _ (has_it s _ (smaller_has_shape c (under_marks (marks_or_plain (over b 0) (recursive known' id place)) f') (under_or_plain (over b 0) (recursive known' id place) (only_smaller known' id place) _ f' h))) (branches_have_shape cs known' same f' h)

  -- Walks that pass
  Passes : Walk recursive places → Type 0
  Passes w = (last : ℕ) × (w ≡ passed last)

  it_passes : (w : Walk recursive places) (last : ℕ) → w ≡ passed last → Passes w
  unfolding Passes
  it_passes w last e = (last, e)

  same_passes : (w w' : Walk recursive places) → w ≡ w' → Passes w' → Passes w
  unfolding Passes
  same_passes w w' e p = (p.0, e ∙ p.1)

  then_passes : (w : Walk recursive places) (next : ℕ → Walk recursive places) → Passes w → ((call : ℕ) → Passes (next call)) → Passes (then_walk recursive places w next)
  unfolding Passes
  then_passes (passed call) next p q = q call
  then_passes (failed call) next p q = let e = p.1 in absurd (grind (arith, e))

  abbrev AllPass : Marks → List Tree → Type 0
  AllPass f [] = Unit {0}
  AllPass f (v ∷ vs) = ((call : ℕ) → Passes (walk recursive places f [] v call)) × AllPass f vs

  walk_apply : (f : Marks) (vs us : List Tree) (t : Tree) → ((call : ℕ) → Passes (walk recursive places f (vs ++ us) t call)) → AllPass f vs → (call : ℕ) → Passes (walk recursive places f us (apply t vs) call)
  walk_apply f [] us t h k call = h call
  walk_apply f (v ∷ vs) us t h k call =
      walk_apply f vs us (app t v) (λ c. then_passes (walk recursive places f (v ∷ (vs ++ us)) t c) (walk recursive places f [] v) (h c) k.0) k.1 call

  no_function_passes : (f : Marks) (m : Mark) (us : List Tree) (call : ℕ) → ((j : ℕ) → m ≢ function j) → Passes (occurrence recursive places f m us call)
  no_function_passes f plain us call n = it_passes (passed call) call refl
  no_function_passes f main us call n = it_passes (passed call) call refl
  no_function_passes f (smaller s) us call n = it_passes (passed call) call refl
  no_function_passes f (function j) us call n = absurd (n j refl)

  call_passes : (f : Marks) (m : Mark) (j k : ℕ) (us : List Tree) (u : Tree) (s : GuardShape) (call : ℕ) → m ≡ function j → element places j ≡ Some k → element us k ≡ Some u → smaller_shape recursive places f u ≡ Some s → Passes (occurrence recursive places f m us call)
  call_passes f m j k us u s call e p a q =
      it_passes (occurrence recursive places f m us call) (next_number call)
      (ap (λ z. occurrence recursive places f z us call) e
      ∙ ap (λ o. occurrence_at recursive places (call_shape recursive places f o us) (next_number call)) p
      ∙ ap (λ o. occurrence_at recursive places (argument_shape recursive places f o) (next_number call)) a
      ∙ ap (λ o. occurrence_at recursive places o (next_number call)) q)

  -- Parts that pass under all marks that are better than plain ones, and a last one under those better than its own
  abbrev PartPasses : Marks → Tree → Type 0
  PartPasses f t = (f' : Marks) → MarksBetter f f' → (us : List Tree) (call : ℕ) → Passes (walk recursive places f' us t call)

  abbrev PartsPass : Marks → Children → Type 0
  PartsPass f no_child = Unit {0}
  PartsPass f (child b t ks) = PartPasses (under_plain (over b 0) f) t × PartsPass f ks

  abbrev ToBodyPasses : Marks → List Mark → Children → Type 0
  ToBodyPasses f ms no_child = ⊥
  ToBodyPasses f ms (child b t no_child) = (over b 0 ≡ length ms) × PartPasses (under_marks ms f) t
  ToBodyPasses f ms (child b t (child c u ks)) = PartPasses (under_plain (over b 0) f) t × ToBodyPasses f ms (child c u ks)

  children_pass : (ks : Children) (f f' : Marks) → MarksBetter f f' → PartsPass f ks → (call : ℕ) → Passes (walk_children recursive places f' ks call)
  children_pass no_child f f' h k call = it_passes (passed call) call refl
  children_pass (child b t ks) f f' h k call =
      then_passes (walk recursive places (under_plain (over b 0) f') [] t call) (walk_children recursive places f' ks)
      (k.0 (under_plain (over b 0) f') (under_same (replicate (over b 0) plain) f f' h) [] call) (children_pass ks f f' h k.1)

  branches_pass : (ks : Children) (f f' : Marks) (known : Option GuardShape) (id : GlobalId) (place : ℕ) → MarksBetter f f' → PartsPass f ks → (call : ℕ) → Passes (walk_branches recursive places f' known id place ks call)
  branches_pass no_child f f' known id place h k call = it_passes (passed call) call refl
  branches_pass (child b t ks) f f' known id place h k call =
      then_passes (walk recursive places (under_marks (marks_or_plain (over b 0) (recursive known id place)) f') [] t call) (walk_branches recursive places f' known id (place + 1) ks)
      (k.0 (under_marks (marks_or_plain (over b 0) (recursive known id place)) f') (under_or_plain (over b 0) (recursive known id place) (only_smaller known id place) f f' h) [] call)
      (branches_pass ks f f' known id (place + 1) h k.1)

  chosen_pass : (ks : Children) (f f' : Marks) (o : Option (List Mark)) (flags : List Bool) → ((ms : List Mark) → o ≡ Some ms → AllBetterThanPlain ms) → MarksBetter f f' → PartsPass f ks → (call : ℕ) → Passes (walk_chosen recursive places f' o flags ks call)
  chosen_pass no_child f f' o flags w h k call = it_passes (passed call) call refl
  chosen_pass (child b t ks) f f' o [] w h k call = it_passes (passed call) call refl
  chosen_pass (child b t ks) f f' o (true ∷ flags) w h k call =
      then_passes (walk recursive places (under_marks (marks_or_plain (over b 0) o) f') [] t call) (walk_chosen recursive places f' o flags ks)
      (k.0 (under_marks (marks_or_plain (over b 0) o) f') (under_or_plain (over b 0) o w f f' h) [] call) (chosen_pass ks f f' o flags w h k.1)
  chosen_pass (child b t ks) f f' o (false ∷ flags) w h k call = chosen_pass ks f f' o flags w h k.1 call

  fix_marks_better : (f : Marks) (us : List Tree) (ss : List Shape) (ms : List Mark) → fix_marks recursive places f us ss ≡ Some ms → AllBetterThanPlain ms
  fix_marks_better f us [] ms e = some_is_not_none e
  fix_marks_better f us (g ∷ []) ms e = by_shape (argument_shape recursive places f (element us g.k)) e
    where
      by_shape : (o : Option GuardShape) → option_map (λ s. inner_marks s g) o ≡ Some ms → AllBetterThanPlain ms
      by_shape None e = some_is_not_none e
      by_shape (Some s) e = subst AllBetterThanPlain (some_inj e) (as_it_was, domains_better s g.k g.domains)
  fix_marks_better f us (g ∷ g' ∷ ss) ms e = some_is_not_none e

  node_passes : (g : Former) (ks : Children) (f f' : Marks) → MarksBetter f f' → PartsPass f ks → (us : List Tree) (call : ℕ) → Passes (walk recursive places f' us (node g ks) call)
  node_passes AppF (child none t (child none u no_child)) f f' h k us call =
      then_passes (walk recursive places f' (u ∷ us) t call) (walk recursive places f' [] u) (k.0 f' h (u ∷ us) call) (k.1.0 f' h [])
  node_passes (CaseF id) (child (more n) p (child none v branches)) f f' h k us call =
      let e : 0 + (n + 1) ≡ n + 1 = omega arith in
      then_passes (walk recursive places (under_plain (n + 1) f') [] p call) _
      (k.0 (under_plain (n + 1) f') (subst (λ z. MarksBetter (under_plain z f) (under_plain (n + 1) f')) (sym e) (under_same (replicate (n + 1) plain) f f' h)) [] call)
      (λ c. then_passes (walk recursive places f' [] v c) _ (k.1.0 f' h [] c)
      (branches_pass branches f f' (known_value recursive places f' v (smaller_shape recursive places f' v)) id 0 h k.1.1))
  node_passes (FixF which shapes) ks f f' h k us call =
      then_passes (walk_chosen recursive places f' None (body_flags recursive places true false shapes) ks call) _
      (chosen_pass ks f f' None (body_flags recursive places true false shapes) (λ ms e. some_is_not_none e) h k call)
      (chosen_pass ks f f' (fix_marks recursive places f' us shapes) (body_flags recursive places false true shapes) (fix_marks_better f' us shapes) h k)
  node_passes g ks f f' h k us call = children_pass ks f f' h k call

  -- A Fix of one function
  types_pass : (n : ℕ) (ks : Children) (f f' : Marks) (ms : List Mark) → n + 1 ≡ length (trees_of ks) → MarksBetter f f' → ToBodyPasses f ms ks → (call : ℕ) → Passes (walk_chosen recursive places f' None (replicate n true ++ false ∷ []) ks call)
  types_pass n no_child f f' ms l h k call = absurd k
  types_pass zero (child b t no_child) f f' ms l h k call = it_passes (passed call) call refl
  types_pass (suc n) (child b t no_child) f f' ms l h k call = absurd (omega (arith, l))
  types_pass zero (child b t (child c u ks)) f f' ms l h k call = absurd (omega (arith, l))
  types_pass (suc n) (child b t (child c u ks)) f f' ms l h k call =
      then_passes (walk recursive places (under_plain (over b 0) f') [] t call) _ (k.0 (under_plain (over b 0) f') (under_same (replicate (over b 0) plain) f f' h) [] call)
      (types_pass n (child c u ks) f f' ms (omega (arith, l)) h k.1)

  body_passes : (n : ℕ) (ks : Children) (f f' : Marks) (o : Option (List Mark)) (ms : List Mark) → o ≡ Some ms → n + 1 ≡ length (trees_of ks) → MarksBetter f f' → ToBodyPasses f ms ks → (call : ℕ) → Passes (walk_chosen recursive places f' o (replicate n false ++ true ∷ []) ks call)
  body_passes n no_child f f' o ms q l h k call = absurd k
  body_passes zero (child b t no_child) f f' o ms q l h k call =
      then_passes (walk recursive places (under_marks (marks_or_plain (over b 0) o) f') [] t call) _
      (k.1 (under_marks (marks_or_plain (over b 0) o) f') (subst (λ z. MarksBetter (under_marks ms f) (under_marks z f')) (sym (these_marks (over b 0) o ms q k.0)) (under_same ms f f' h)) [] call)
      (λ c. it_passes (passed c) c refl)
  body_passes (suc n) (child b t no_child) f f' o ms q l h k call = absurd (omega (arith, l))
  body_passes zero (child b t (child c u ks)) f f' o ms q l h k call = absurd (omega (arith, l))
  body_passes (suc n) (child b t (child c u ks)) f f' o ms q l h k call = body_passes n (child c u ks) f f' o ms q (omega (arith, l)) h k.1 call

  add_before : (f : Marks) (ms : List Mark) (b : Binders) (t : Tree) (ks : Children) → PartPasses (under_plain (over b 0) f) t → ToBodyPasses f ms ks → ToBodyPasses f ms (child b t ks)
  add_before f ms b t no_child h k = absurd k
  add_before f ms b t (child c u ks) h k = (h, k)

  mutual
    guarded_term_passes : {f : Marks} {t : Tree} → GuardedTerm recursive places f t → HasAllParts t → PartPasses f t
    guarded_term_passes (guarded_variable {marks = f} {x = x} n) s f' h us call = no_function_passes f' (f' x) us call (no_function_stays (f x) (f' x) (h x) n)
    guarded_term_passes (guarded_call {marks = f} x j k vs u g e q p a c cs) s f' h us call =
        let parts = parts_of_arguments vs (rel x) (subst HasAllParts e s) in
        subst (λ z. Passes (walk recursive places f' us z call)) (sym e)
        (walk_apply f' vs us (rel x)
        (λ i. call_passes f' (f' x) j k (vs ++ us) u g i (function_stays (f x) (f' x) j (h x) q) p (element_front vs us k u a) (smaller_has_shape c f' h))
        (all_pass cs parts.1 f' h) call)
    guarded_term_passes (guarded_parts {f = g} {ks = ks} c) s f' h us call = node_passes g ks _ f' h (parts_pass c s.1) us call
    guarded_term_passes (guarded_match {marks = f} {id = id} {n = n} {p = p} {v = v} {branches = branches} known k m w c) s f' h us call =
        let known' = known_value recursive places f' v (smaller_shape recursive places f' v) in
        then_passes (walk recursive places (under_plain (n + 1) f') [] p call) _
        (guarded_term_passes m s.1.0 (under_plain (n + 1) f') (under_same (replicate (n + 1) plain) f f' h) [] call)
        (λ i. then_passes (walk recursive places f' [] v i) _ (guarded_term_passes w s.1.1.0 f' h [] i) (known_branches_pass c s.1.1.1 known' (known_stays k f' h) f' h))
    guarded_term_passes (guarded_inner_fix {marks = f} which g parts vs u r e a c b cs) s f' h us call =
        let known_parts = parts_of_arguments vs (fix which (g ∷ []) parts) (subst HasAllParts e s) in
        let count = known_parts.0.0 in
        let k = to_body_passes b known_parts.0.1 in
        let o : fix_marks recursive places f' (vs ++ us) (g ∷ []) ≡ Some (inner_marks r g) =
        ap (λ z. option_map (λ z. inner_marks z g) (argument_shape recursive places f' z)) (element_front vs us g.k u a) ∙ ap (option_map (λ z. inner_marks z g)) (smaller_has_shape c f' h) in
        subst (λ z. Passes (walk recursive places f' us z call)) (sym e)
        (walk_apply f' vs us (fix which (g ∷ []) parts)
        (λ i. then_passes (walk_chosen recursive places f' None (body_flags recursive places true false (g ∷ [])) parts i) _
        (types_pass (g.domains + 1) parts f f' (inner_marks r g) (omega (arith, count)) h k i)
        (body_passes (g.domains + 1) parts f f' (fix_marks recursive places f' (vs ++ us) (g ∷ [])) (inner_marks r g) o (omega (arith, count)) h k))
        (all_pass cs known_parts.1 f' h) call)

    all_pass : {f : Marks} {vs : List Tree} → GuardedTerms recursive places f vs → Each HasAllParts vs → (f' : Marks) → MarksBetter f f' → AllPass f' vs
    all_pass none_guarded s f' h = tt
    all_pass (more_guarded c cs) s f' h = (λ call. guarded_term_passes c s.0 f' h [] call, all_pass cs s.1 f' h)

    parts_pass : {f : Marks} {ks : Children} → GuardedParts recursive places f ks → PartsHaveAllParts ks → PartsPass f ks
    parts_pass no_guarded_part s = tt
    parts_pass (guarded_part c cs) s = (guarded_term_passes c s.0, parts_pass cs s.1)

    to_body_passes : {f : Marks} {ms : List Mark} {ks : Children} → GuardedToBody recursive places f ms ks → PartsHaveAllParts ks → ToBodyPasses f ms ks
    to_body_passes (guarded_last_part n c) s = (n, guarded_term_passes c s.0)
    to_body_passes (guarded_earlier_part {marks = f} {ms = ms} {b = b} {t = t} {ks = ks} c cs) s = add_before f ms b t ks (guarded_term_passes c s.0) (to_body_passes cs s.1)

    known_branches_pass : {f : Marks} {known : Option GuardShape} {id : GlobalId} {place : ℕ} {ks : Children} → GuardedBranches recursive places f known id place ks → PartsHaveAllParts ks → (known' : Option GuardShape) → (known ≡ None) ⊎ (known' ≡ known) →
        (f' : Marks) → MarksBetter f f' → (call : ℕ) → Passes (walk_branches recursive places f' known' id place ks call)
    known_branches_pass no_guarded_branch s known' q f' h call = it_passes (passed call) call refl
    known_branches_pass (guarded_branch {marks = f} {known = known} {id = id} {place = place} {b = b} {t = t} {ks = ks} ms e n c cs) s known' q f' h call =
        then_passes (walk recursive places (under_marks (marks_or_plain (over b 0) (recursive known' id place)) f') [] t call) _
        (subst (λ z. Passes (walk recursive places (under_marks z f') [] t call)) (sym (these_marks (over b 0) (recursive known' id place) ms (still known known' q id place ms e) n)) (guarded_term_passes c s.0 (under_marks ms f') (under_same ms f f' h) [] call))
        (known_branches_pass cs s.1 known' q f' h)
    known_branches_pass (guarded_plain_branch {marks = f} {id = id} {place = place} {b = b} {t = t} c cs) s known' q f' h call =
        then_passes (walk recursive places (under_marks (marks_or_plain (over b 0) (recursive known' id place)) f') [] t call) _
        (guarded_term_passes c s.0 (under_marks (marks_or_plain (over b 0) (recursive known' id place)) f') (under_or_plain (over b 0) (recursive known' id place) (only_smaller known' id place) f f' h) [] call)
        (known_branches_pass cs s.1 known' q f' h)

  guarded_body_passes : {f : Marks} {t : Tree} → GuardedTerm recursive places f t → HasAllParts t → failed_call (walk recursive places f [] t 0) ≡ None
  unfolding Passes
  guarded_body_passes {f} {t} c s = let p = guarded_term_passes c s f (λ x. as_it_was) [] 0 in ap (λ w. failed_call w) p.1

-- The marks that an environment shows
marks_of_shape_better : (o : Option GuardShape) → Better plain (mark_of_shape o)
marks_of_shape_better None = as_it_was
marks_of_shape_better (Some s) = no_more_plain

arguments_better : (E : Environment) (own : List GlobalId) (variables : GuardShapes) (as_ : List Tree) → AllBetterThanPlain (argument_marks E own variables as_)
arguments_better E own vs [] = tt
arguments_better E own vs (a ∷ as_) = (marks_of_shape_better (shape_of_type E own vs no_more a), arguments_better E own (unshaped vs) as_)

constructor_better : (E : Environment) (own : List GlobalId) (variables : GuardShapes) (r : ℕ) (o : Option ConstructorDeclaration) (ms : List Mark) → constructor_marks E own variables r o ≡ Some ms → AllBetterThanPlain ms
constructor_better E own vs r None ms e = some_is_not_none e
constructor_better E own vs r (Some c) ms e = subst AllBetterThanPlain (some_inj e) (arguments_better E own vs (drop r (domains_of c.type)))

type_better : (E : Environment) (own : List GlobalId) (variables : GuardShapes) (block : Block) (place : ℕ) (o : Option TypeDeclaration) (ms : List Mark) → type_marks E own variables block place o ≡ Some ms → AllBetterThanPlain ms
type_better E own vs block place None ms e = some_is_not_none e
type_better E own vs block place (Some t) ms e = constructor_better E own vs block.parameters (element t.constructors place) ms e

in_block_better : (E : Environment) (own types : List GlobalId) (variables : GuardShapes) (id : GlobalId) (place : ℕ) (o : Option TypeInBlock) (ms : List Mark) → marks_in_block E own types variables id place o ≡ Some ms → AllBetterThanPlain ms
in_block_better E own types vs id place None ms e = some_is_not_none e
in_block_better E own types vs id place (Some J) ms e = by_test (is_among id types) e
  where
    by_test : (test : Bool) → (if test then type_marks E own vs J.block place (element J.block.types J.index) else None) ≡ Some ms → AllBetterThanPlain ms
    by_test true e = type_better E own vs J.block place (element J.block.types J.index) ms e
    by_test false e = some_is_not_none e

by_shape_better : (E : Environment) (own : List GlobalId) (known : Option GuardShape) (id : GlobalId) (place : ℕ) (ms : List Mark) → marks_by_shape E own known id place ≡ Some ms → AllBetterThanPlain ms
by_shape_better E own None id place ms e = some_is_not_none e
by_shape_better E own (Some own_block) id place ms e = in_block_better E own own no_more id place (whole_block E id) ms e
by_shape_better E own (Some (nest types ps)) id place ms e = in_block_better E own types (under_shapes ps no_more) id place (whole_block E id) ms e

pub with_own_better : (E : Environment) (o : Option TypeInBlock) (known : Option GuardShape) (id : GlobalId) (place : ℕ) (ms : List Mark) → marks_with_own E o known id place ≡ Some ms → AllBetterThanPlain ms
with_own_better E None known id place ms e = some_is_not_none e
with_own_better E (Some I) known id place ms e = by_shape_better E (bare_ids I.block.types) known id place ms e

pub nothing_by_nothing : (E : Environment) (o : Option TypeInBlock) (id : GlobalId) (place : ℕ) → marks_with_own E o None id place ≡ None
nothing_by_nothing E None id place = refl
nothing_by_nothing E (Some I) id place = refl

-- The functions of a guarded Fix
pub function_passes : (E : Environment) (all : List Function) (f : Function) → HasAllParts f.body → GuardedFunction E all f → function_fault E (recursive_places all) (length all) f ≡ None
function_passes E all f s g =
    ap (λ o. walk_fault E (recursive_places all) (length all) f (head_of_domain o)) g.recursive_domain
    ∙ ap (walk_fault E (recursive_places all) (length all) f) (head_of_apply g.arguments (ind g.head))
    ∙ guarded_body_passes (recursive_marks E g.head) (recursive_places all)
    (λ id place. nothing_by_nothing E (whole_block E g.head) id place)
    (λ known id place ms e. with_own_better E (whole_block E g.head) known id place ms e) g.guarded_body s

functions_pass : (E : Environment) (all fs : List Function) (i : ℕ) → Each (λ f. HasAllParts f.body) fs → EachGuarded E all fs → functions_fault E (recursive_places all) (length all) i fs ≡ None
functions_pass E all [] i s g = refl
functions_pass E all (f ∷ fs) i s g =
    ap (λ o. or_else (option_map (λ call. record { which = i; call = call }) o) (functions_fault E (recursive_places all) (length all) (i + 1) fs)) (function_passes E all f s.0 g.0)
    ∙ functions_pass E all fs (i + 1) s.1 g.1

pub guarded_passes : (E : Environment) (fs : List Function) → Each (λ f. HasAllParts f.body) fs → Guarded E fs → guard_fault E fs ≡ None
guarded_passes E fs s g = functions_pass E fs fs 0 s g
