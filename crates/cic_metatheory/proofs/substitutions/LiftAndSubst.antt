-- Lifting is the renaming of the variables at or above a place, and substitution at a place is the
-- substitution that keeps those below it and lowers those above. So the laws of renaming and substitution
-- of all variables at once hold of the two, which the rules and the program are written with.
use Rattle.std.proofs.Common.{◌≡◌, ℕ, zero, suc, ◌+◌, ◌-◌, ◌<◌, ◌≤◌, ◌⊎◌, inl, inr, refl, sym, ap, ap₂, ◌∙◌, arith}
use Rattle.std.proofs.lemmas.Bool.Decides.{nat_tests}
use Rattle.std.proofs.lemmas.Bool.{cases_lt}
use Rattle.cic_terms.specs.Tree.{Tree, rel, node, Children, no_child, child, over}
use Rattle.cic_terms.specs.Lift.{lift_tree, lift_children, subst_rel, subst_tree, subst_children}
use Rattle.cic_terms.proofs.Laws.{over_adds}
use Rattle.cic_terms.proofs.LiftSubst.{subst_below, subst_here, subst_above}
use Rattle.cic_metatheory.specs.Substitution.{renaming_under_one, renaming_under, rename, rename_children, substitution_under_one, substitution_under, substitute, substitute_children, for_innermost, lifted_variable}
use Rattle.cic_metatheory.proofs.substitutions.Composition.{rename_rename, rename_identity, substitute_rename, substitute_identity, rename_substitute, substitute_substitute, substitute_substitute_under}

-- Lifting under binders
lifted_under_one : (from by x : ℕ) → renaming_under_one (lifted_variable from by) x ≡ lifted_variable (suc from) by x
unfolding renaming_under_one
lifted_under_one from by zero = grind (arith, nat_tests)
lifted_under_one from by (suc x) = grind (arith, nat_tests)

equal_under_one : (r r' : ℕ → ℕ) → ((x : ℕ) → r x ≡ r' x) → (x : ℕ) → renaming_under_one r x ≡ renaming_under_one r' x
unfolding renaming_under_one
equal_under_one r r' h zero = refl
equal_under_one r r' h (suc x) = ap suc (h x)

pub lifted_under : (n : ℕ) (r : ℕ → ℕ) (from by place : ℕ) → place ≡ from + n → ((x : ℕ) → r x ≡ lifted_variable from by x) →
    (x : ℕ) → renaming_under n r x ≡ lifted_variable place by x
unfolding renaming_under
lifted_under zero r from by place e h = λ x. h x ∙ ap (λ z. lifted_variable z by x) (omega arith)
lifted_under (suc n) r from by place e h =
    lifted_under n (renaming_under_one r) (suc from) by place (omega arith)
    (λ x. equal_under_one r (lifted_variable from by) h x ∙ lifted_under_one from by x)

mutual
  unfolding rename

  pub lift_is_rename : (t : Tree) (from by : ℕ) (r : ℕ → ℕ) → ((x : ℕ) → r x ≡ lifted_variable from by x) → lift_tree from by t ≡ rename r t
  lift_is_rename (rel x) from by r h = ap rel (sym (h x))
  lift_is_rename (node f ks) from by r h = ap (node f) (lift_is_rename_children ks from by r h)

  lift_is_rename_children : (ks : Children) (from by : ℕ) (r : ℕ → ℕ) → ((x : ℕ) → r x ≡ lifted_variable from by x) → lift_children from by ks ≡ rename_children r ks
  lift_is_rename_children no_child from by r h = refl
  lift_is_rename_children (child b t ks) from by r h =
      ap₂ (child b)
      (lift_is_rename t (over b from) by (renaming_under (over b 0) r) (lifted_under (over b 0) r from by (over b from) (over_adds b from) h))
      (lift_is_rename_children ks from by r h)

pub lift_renames_variables : (from by : ℕ) (t : Tree) → lift_tree from by t ≡ rename (lifted_variable from by) t
lift_renames_variables from by t = lift_is_rename t from by (lifted_variable from by) (λ x. refl)

pub lift_adds : (by : ℕ) (t : Tree) → lift_tree 0 by t ≡ rename (λ x. x + by) t
lift_adds by t = lift_is_rename t 0 by (λ x. x + by) (λ x. grind (arith, nat_tests))

pub lift_by_one : (t : Tree) → lift_tree 0 1 t ≡ rename suc t
lift_by_one t = lift_is_rename t 0 1 suc (λ x. grind (arith, nat_tests))

pub lift_by_one_more : (by : ℕ) (t : Tree) → lift_tree 0 (suc by) t ≡ rename suc (lift_tree 0 by t)
lift_by_one_more by t =
    lift_adds (suc by) t
    ∙ sym (rename_rename t suc (λ x. x + by) (λ x. x + suc by) (λ x. omega arith))
    ∙ ap (rename suc) (sym (lift_adds by t))

-- Substitution under binders
put_past_binder : (at : ℕ) (u : Tree) (x : ℕ) → rename suc (subst_rel at u x) ≡ subst_rel (suc at) u (suc x)
unfolding rename
put_past_binder at u x = go (cases_lt x at) (cases_lt at x)
  where
    go : (x < at) ⊎ (at ≤ x) → (at < x) ⊎ (x ≤ at) → rename suc (subst_rel at u x) ≡ subst_rel (suc at) u (suc x)
    go (inl below) _ = ap (rename suc) (subst_below at u x below) ∙ sym (subst_below (suc at) u (suc x) (omega arith))
    go (inr _) (inl above) =
        ap (rename suc) (subst_above at u x above) ∙ ap rel (omega arith) ∙ sym (subst_above (suc at) u (suc x) (omega arith))
    go (inr high) (inr low) =
        ap (rename suc) (subst_here at u x (omega arith)) ∙ sym (lift_by_one_more at u) ∙ sym (subst_here (suc at) u (suc x) (omega arith))

put_under_one : (at : ℕ) (u : Tree) (s : ℕ → Tree) → ((x : ℕ) → s x ≡ subst_rel at u x) → (x : ℕ) → substitution_under_one s x ≡ subst_rel (suc at) u x
unfolding substitution_under_one
put_under_one at u s h zero = grind (arith, nat_tests)
put_under_one at u s h (suc x) = ap (rename suc) (h x) ∙ put_past_binder at u x

put_under : (n : ℕ) (at : ℕ) (u : Tree) (s : ℕ → Tree) (place : ℕ) → place ≡ at + n → ((x : ℕ) → s x ≡ subst_rel at u x) →
    (x : ℕ) → substitution_under n s x ≡ subst_rel place u x
unfolding substitution_under
put_under zero at u s place e h = λ x. h x ∙ ap (λ z. subst_rel z u x) (omega arith)
put_under (suc n) at u s place e h = put_under n (suc at) u (substitution_under_one s) place (omega arith) (put_under_one at u s h)

mutual
  unfolding substitute

  pub subst_is_substitute : (t : Tree) (at : ℕ) (u : Tree) (s : ℕ → Tree) → ((x : ℕ) → s x ≡ subst_rel at u x) → subst_tree at u t ≡ substitute s t
  subst_is_substitute (rel x) at u s h = sym (h x)
  subst_is_substitute (node f ks) at u s h = ap (node f) (subst_is_substitute_children ks at u s h)

  subst_is_substitute_children : (ks : Children) (at : ℕ) (u : Tree) (s : ℕ → Tree) → ((x : ℕ) → s x ≡ subst_rel at u x) → subst_children at u ks ≡ substitute_children s ks
  subst_is_substitute_children no_child at u s h = refl
  subst_is_substitute_children (child b t ks) at u s h =
      ap₂ (child b)
      (subst_is_substitute t (over b at) u (substitution_under (over b 0) s) (put_under (over b 0) at u s (over b at) (over_adds b at) h))
      (subst_is_substitute_children ks at u s h)

pub subst_substitutes_variables : (at : ℕ) (u t : Tree) → subst_tree at u t ≡ substitute (subst_rel at u) t
subst_substitutes_variables at u t = subst_is_substitute t at u (subst_rel at u) (λ x. refl)

lift_by_none : (t : Tree) → lift_tree 0 0 t ≡ t
lift_by_none t = lift_is_rename t 0 0 (λ x. x) (λ x. grind (arith, nat_tests)) ∙ rename_identity t (λ x. x) (λ x. refl)

for_innermost_puts : (u : Tree) (x : ℕ) → for_innermost u x ≡ subst_rel 0 u x
unfolding for_innermost
for_innermost_puts u zero = sym (lift_by_none u)
for_innermost_puts u (suc x) = grind (arith, nat_tests)

pub subst_innermost : (u t : Tree) → subst_tree 0 u t ≡ substitute (for_innermost u) t
subst_innermost u t = subst_is_substitute t 0 u (for_innermost u) (for_innermost_puts u)

pub subst_under_binders : (at : ℕ) (u t : Tree) → subst_tree at u t ≡ substitute (substitution_under at (for_innermost u)) t
subst_under_binders at u t =
    subst_is_substitute t at u (substitution_under at (for_innermost u))
    (put_under at 0 u (for_innermost u) at (omega arith) (for_innermost_puts u))

-- Substitution under a substitution
for_innermost_under : (u : Tree) (s : ℕ → Tree) (x : ℕ) →
    substitute (for_innermost (substitute s u)) (substitution_under_one s x) ≡ substitute s (for_innermost u x)
unfolding for_innermost substitute substitution_under_one
for_innermost_under u s zero = refl
for_innermost_under u s (suc x) =
    substitute_rename (s x) (for_innermost (substitute s u)) suc rel (λ y. refl) ∙ substitute_identity (s x) rel (λ y. refl)

pub substitute_subst : (at : ℕ) (u t : Tree) (s : ℕ → Tree) →
    substitute (substitution_under at s) (subst_tree at u t) ≡ subst_tree at (substitute s u) (substitute (substitution_under (suc at) s) t)
unfolding substitution_under
substitute_subst at u t s =
    let both : ℕ → Tree = λ x. substitute s (for_innermost u x) in
    ap (substitute (substitution_under at s)) (subst_under_binders at u t)
    ∙ substitute_substitute t (substitution_under at s) (substitution_under at (for_innermost u)) (substitution_under at both)
    (substitute_substitute_under at s (for_innermost u) both (λ x. refl))
    ∙ sym (substitute_substitute t (substitution_under at (for_innermost (substitute s u))) (substitution_under at (substitution_under_one s)) (substitution_under at both)
    (substitute_substitute_under at (for_innermost (substitute s u)) (substitution_under_one s) both (for_innermost_under u s)))
    ∙ sym (subst_under_binders at (substitute s u) (substitute (substitution_under at (substitution_under_one s)) t))

pub substitute_subst_innermost : (u t : Tree) (s : ℕ → Tree) →
    substitute s (subst_tree 0 u t) ≡ subst_tree 0 (substitute s u) (substitute (substitution_under_one s) t)
unfolding substitution_under
substitute_subst_innermost u t s = substitute_subst 0 u t s

pub substitute_lift_by_one : (t : Tree) (s : ℕ → Tree) → substitute (substitution_under_one s) (rename suc t) ≡ rename suc (substitute s t)
unfolding substitution_under_one
substitute_lift_by_one t s =
    substitute_rename t (substitution_under_one s) suc (λ x. rename suc (s x)) (λ x. refl)
    ∙ sym (rename_substitute t suc s (λ x. rename suc (s x)) (λ x. refl))
