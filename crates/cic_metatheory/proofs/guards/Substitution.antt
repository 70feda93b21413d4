-- The smaller terms stay smaller, and the guarded terms guarded, under a substitution that fits their marks. One induction
-- over the smaller terms, one over the guarded ones: a variable with a mark stays a variable with that mark, and a plain
-- one becomes a term without functions, which is guarded whatever its marks. The functions of a Fix stay guarded by it.
use Rattle.std.proofs.Common.{◌≡◌, ◌≢◌, ℕ, ◌+◌, List, [], ◌∷◌, map, Option, sym, ap, ◌∙◌, arith}
use Rattle.cic_terms.specs.Tree.{more, over, Tree, rel, Children, fix}
use Rattle.cic_terms.specs.Lift.{lift_tree, subst_rel, subst_tree}
use Rattle.cic_names.specs.declared.name.GlobalId.{GlobalId}
use Rattle.cic_rules.specs.Telescopes.{apply}
use Rattle.cic_rules.specs.Shapes.{GuardShape}
use Rattle.cic_rules.specs.Guard.{Mark, plain, function, Marks, under_mark, under_marks, under_plain, Smaller, smaller_variable, smaller_application, smaller_abstraction, smaller_empty_match, smaller_match, ValueShape, no_value_shape, recursive_value, smaller_value, SmallerBranches, no_smaller_branch, smaller_branch, smaller_plain_branch, GuardedTerm, guarded_variable, guarded_call, guarded_parts, guarded_match, guarded_inner_fix, GuardedTerms, none_guarded, more_guarded, GuardedParts, no_guarded_part, guarded_part, GuardedBranches, no_guarded_branch, guarded_branch, guarded_plain_branch, GuardedToBody, guarded_last_part, guarded_earlier_part}
use Rattle.cic_metatheory.specs.Substitution.{rename, substitution_under_one, substitution_under, substitute, substitute_children, lifted_variable}
use Rattle.cic_metatheory.specs.calls.Guards.{WithoutFunctions, no_function, in_no_part, PartsWithoutFunctions, no_part, part_without, RespectsMark, for_plain, same_mark, KeepsMarks, RespectsMarks}
use Rattle.cic_metatheory.proofs.substitutions.Composition.{rename_as_substitute}
use Rattle.cic_metatheory.proofs.substitutions.LiftAndSubst.{lift_renames_variables, subst_substitutes_variables}
use Rattle.cic_metatheory.proofs.substitutions.Telescopes.{element_map, substitute_apply}
use Rattle.cic_metatheory.proofs.guards.Respecting.{respects_under_one, respects_under, respects_under_plain, Variable, stays_variable}

motive_binders : (n : ℕ) → over (more n) 0 ≡ n + 1
motive_binders n = omega arith

module _ (recursive : (known : Option GuardShape) → GlobalId → (place : ℕ) → Option (List Mark)) (places : List ℕ) where
  mutual
    unfolding substitute substitution_under

    pub substitute_smaller : {f : Marks} {t : Tree} {g : GuardShape} → Smaller recursive places f t g → (s : ℕ → Tree) (f' : Marks) → RespectsMarks s f f' → Smaller recursive places f' (substitute s t) g
    substitute_smaller (smaller_variable {marks = f} {x = x} e) s f' h =
        let y : Variable f' (f x) (s x) = stays_variable f' (f x) (s x) (h x) (λ z. cc) in
        rw y.is_variable (smaller_variable (y.mark ∙ e))
    substitute_smaller (smaller_application c) s f' h = smaller_application (substitute_smaller c s f' h)
    substitute_smaller (smaller_abstraction {marks = f} c) s f' h =
        smaller_abstraction (substitute_smaller c (substitution_under_one s) (under_mark plain f') (respects_under_one f s f' plain h))
    substitute_smaller smaller_empty_match s f' h = smaller_empty_match
    substitute_smaller (smaller_match known k c) s f' h =
        smaller_match known (substitute_known k s f' h) (substitute_smaller_branches c s f' h)

    substitute_known : {f : Marks} {t : Tree} {known : Option GuardShape} → ValueShape recursive places f t known → (s : ℕ → Tree) (f' : Marks) → RespectsMarks s f f' → ValueShape recursive places f' (substitute s t) known
    substitute_known no_value_shape s f' h = no_value_shape
    substitute_known (recursive_value {marks = f} {x = x} e) s f' h =
        let y : Variable f' (f x) (s x) = stays_variable f' (f x) (s x) (h x) (λ z. cc) in
        rw y.is_variable (recursive_value (y.mark ∙ e))
    substitute_known (smaller_value c) s f' h = smaller_value (substitute_smaller c s f' h)

    substitute_smaller_branches : {f : Marks} {g : GuardShape} {known : Option GuardShape} {id : GlobalId} {place : ℕ} {ks : Children} → SmallerBranches recursive places f g known id place ks → (s : ℕ → Tree) (f' : Marks) → RespectsMarks s f f' → SmallerBranches recursive places f' g known id place (substitute_children s ks)
    substitute_smaller_branches no_smaller_branch s f' h = no_smaller_branch
    substitute_smaller_branches (smaller_branch {marks = f} {b = b} ms e n c cs) s f' h =
        smaller_branch ms e n
        (substitute_smaller c (substitution_under (over b 0) s) (under_marks ms f') (respects_under ms (over b 0) f s f' n h))
        (substitute_smaller_branches cs s f' h)
    substitute_smaller_branches (smaller_plain_branch {marks = f} {b = b} c cs) s f' h =
        smaller_plain_branch
        (substitute_smaller c (substitution_under (over b 0) s) (under_plain (over b 0) f') (respects_under_plain (over b 0) f s f' h))
        (substitute_smaller_branches cs s f' h)

  mutual
    without_functions_is_guarded : {f : Marks} {t : Tree} → WithoutFunctions f t → GuardedTerm recursive places f t
    without_functions_is_guarded (no_function n) = guarded_variable n
    without_functions_is_guarded (in_no_part c) = guarded_parts (parts_without_functions_are_guarded c)

    parts_without_functions_are_guarded : {f : Marks} {ks : Children} → PartsWithoutFunctions f ks → GuardedParts recursive places f ks
    parts_without_functions_are_guarded no_part = no_guarded_part
    parts_without_functions_are_guarded (part_without c cs) = guarded_part (without_functions_is_guarded c) (parts_without_functions_are_guarded cs)

  respecting_is_guarded : {f : Marks} {m : Mark} {t : Tree} → RespectsMark f m t → ((j : ℕ) → m ≢ function j) → GuardedTerm recursive places f t
  respecting_is_guarded (for_plain c) n = without_functions_is_guarded c
  respecting_is_guarded (same_mark e) n = guarded_variable (λ j q. n j (sym e ∙ q))

  mutual
    unfolding substitute substitution_under

    pub substitute_guarded : {f : Marks} {t : Tree} → GuardedTerm recursive places f t → (s : ℕ → Tree) (f' : Marks) → RespectsMarks s f f' → GuardedTerm recursive places f' (substitute s t)
    substitute_guarded (guarded_variable {x = x} n) s f' h = respecting_is_guarded (h x) n
    substitute_guarded (guarded_call {marks = f} x j k us u g e q p a c cs) s f' h =
        let y : Variable f' (f x) (s x) = stays_variable f' (f x) (s x) (h x) (λ z. cc) in
        guarded_call y.place j k (map (substitute s) us) (substitute s u) g
        (ap (substitute s) e ∙ substitute_apply us (rel x) s ∙ ap (λ z. apply z (map (substitute s) us)) y.is_variable)
        (y.mark ∙ q) p (element_map (substitute s) us k u a) (substitute_smaller c s f' h) (substitute_all_guarded cs s f' h)
    substitute_guarded (guarded_parts c) s f' h = guarded_parts (substitute_guarded_parts c s f' h)
    substitute_guarded (guarded_match {marks = f} {n = n} {p = p} known k m v c) s f' h =
        let fits : RespectsMarks (substitution_under (over (more n) 0) s) (under_plain (n + 1) f) (under_plain (n + 1) f') =
        rw (motive_binders n) (respects_under_plain (n + 1) f s f' h) in
        guarded_match known (substitute_known k s f' h)
        (substitute_guarded m (substitution_under (over (more n) 0) s) (under_plain (n + 1) f') fits)
        (substitute_guarded v s f' h) (substitute_guarded_branches c s f' h)
    substitute_guarded (guarded_inner_fix which f parts us u g e a c b cs) s f' h =
        guarded_inner_fix which f (substitute_children s parts) (map (substitute s) us) (substitute s u) g
        (ap (substitute s) e ∙ substitute_apply us (fix which (f ∷ []) parts) s)
        (element_map (substitute s) us f.k u a) (substitute_smaller c s f' h) (substitute_guarded_to_body b s f' h) (substitute_all_guarded cs s f' h)

    substitute_all_guarded : {f : Marks} {ts : List Tree} → GuardedTerms recursive places f ts → (s : ℕ → Tree) (f' : Marks) → RespectsMarks s f f' → GuardedTerms recursive places f' (map (substitute s) ts)
    substitute_all_guarded none_guarded s f' h = none_guarded
    substitute_all_guarded (more_guarded c cs) s f' h = more_guarded (substitute_guarded c s f' h) (substitute_all_guarded cs s f' h)

    substitute_guarded_parts : {f : Marks} {ks : Children} → GuardedParts recursive places f ks → (s : ℕ → Tree) (f' : Marks) → RespectsMarks s f f' → GuardedParts recursive places f' (substitute_children s ks)
    substitute_guarded_parts no_guarded_part s f' h = no_guarded_part
    substitute_guarded_parts (guarded_part {marks = f} {b = b} c cs) s f' h =
        guarded_part
        (substitute_guarded c (substitution_under (over b 0) s) (under_plain (over b 0) f') (respects_under_plain (over b 0) f s f' h))
        (substitute_guarded_parts cs s f' h)

    substitute_guarded_to_body : {f : Marks} {ms : List Mark} {ks : Children} → GuardedToBody recursive places f ms ks → (s : ℕ → Tree) (f' : Marks) → RespectsMarks s f f' → GuardedToBody recursive places f' ms (substitute_children s ks)
    substitute_guarded_to_body (guarded_last_part {marks = f} {ms = ms} {b = b} n c) s f' h =
        guarded_last_part n (substitute_guarded c (substitution_under (over b 0) s) (under_marks ms f') (respects_under ms (over b 0) f s f' n h))
    substitute_guarded_to_body (guarded_earlier_part {marks = f} {b = b} c cs) s f' h =
        guarded_earlier_part
        (substitute_guarded c (substitution_under (over b 0) s) (under_plain (over b 0) f') (respects_under_plain (over b 0) f s f' h))
        (substitute_guarded_to_body cs s f' h)

    substitute_guarded_branches : {f : Marks} {known : Option GuardShape} {id : GlobalId} {place : ℕ} {ks : Children} → GuardedBranches recursive places f known id place ks → (s : ℕ → Tree) (f' : Marks) → RespectsMarks s f f' → GuardedBranches recursive places f' known id place (substitute_children s ks)
    substitute_guarded_branches no_guarded_branch s f' h = no_guarded_branch
    substitute_guarded_branches (guarded_branch {marks = f} {b = b} ms e n c cs) s f' h =
        guarded_branch ms e n
        (substitute_guarded c (substitution_under (over b 0) s) (under_marks ms f') (respects_under ms (over b 0) f s f' n h))
        (substitute_guarded_branches cs s f' h)
    substitute_guarded_branches (guarded_plain_branch {marks = f} {b = b} c cs) s f' h =
        guarded_plain_branch
        (substitute_guarded c (substitution_under (over b 0) s) (under_plain (over b 0) f') (respects_under_plain (over b 0) f s f' h))
        (substitute_guarded_branches cs s f' h)

  -- Renaming, lifting, and substitution at a place
  renaming_respects : (r : ℕ → ℕ) (f f' : Marks) → KeepsMarks r f f' → RespectsMarks (λ x. rel (r x)) f f'
  renaming_respects r f f' h x = same_mark (h x)

  pub rename_smaller : {f : Marks} {t : Tree} {g : GuardShape} → Smaller recursive places f t g → (r : ℕ → ℕ) (f' : Marks) → KeepsMarks r f f' → Smaller recursive places f' (rename r t) g
  rename_smaller {f = f} {t = t} c r f' h = rw (rename_as_substitute t r) (substitute_smaller c (λ x. rel (r x)) f' (renaming_respects r f f' h))

  pub rename_guarded : {f : Marks} {t : Tree} → GuardedTerm recursive places f t → (r : ℕ → ℕ) (f' : Marks) → KeepsMarks r f f' → GuardedTerm recursive places f' (rename r t)
  rename_guarded {f = f} {t = t} c r f' h = rw (rename_as_substitute t r) (substitute_guarded c (λ x. rel (r x)) f' (renaming_respects r f f' h))

  pub lift_guarded : {f : Marks} {t : Tree} → GuardedTerm recursive places f t → (from by : ℕ) (f' : Marks) → KeepsMarks (lifted_variable from by) f f' → GuardedTerm recursive places f' (lift_tree from by t)
  lift_guarded {t = t} c from by f' h = rw (lift_renames_variables from by t) (rename_guarded c (lifted_variable from by) f' h)

  pub subst_guarded : {f : Marks} {t : Tree} → GuardedTerm recursive places f t → (at : ℕ) (u : Tree) (f' : Marks) → RespectsMarks (subst_rel at u) f f' → GuardedTerm recursive places f' (subst_tree at u t)
  subst_guarded {t = t} c at u f' h = rw (subst_substitutes_variables at u t) (substitute_guarded c (subst_rel at u) f' h)
