-- How two lifts, a lift and a substitution, and two substitutions at places are exchanged. Each law is an equation at
-- every variable, which the composition of renamings and substitutions carries to all terms. The rules lift and
-- substitute at places, so the laws of steps and of typing need these.
use Rattle.std.proofs.Common.{◌≡◌, ℕ, ◌+◌, ◌-◌, ◌<◌, ◌≤◌, ◌⊎◌, inl, inr, refl, sym, ap, ◌∙◌, arith}
use Rattle.std.proofs.lemmas.Bool.Decides.{nat_tests}
use Rattle.std.proofs.lemmas.Bool.{cases_lt}
use Rattle.cic_terms.specs.Tree.{Tree, rel}
use Rattle.cic_terms.specs.Lift.{lift_tree, subst_rel, subst_tree}
use Rattle.cic_metatheory.specs.Substitution.{rename, substitute, lifted_variable}
use Rattle.cic_metatheory.proofs.substitutions.Composition.{rename_rename, rename_identity, rename_as_substitute, substitute_rename, rename_substitute, substitute_substitute}
use Rattle.cic_metatheory.proofs.substitutions.LiftAndSubst.{lift_renames_variables, subst_substitutes_variables}
use Rattle.cic_terms.proofs.LiftSubst.{subst_below, subst_here, subst_above}

-- Lifts
pub lift_none : (from : ℕ) (t : Tree) → lift_tree from 0 t ≡ t
lift_none from t = lift_renames_variables from 0 t ∙ rename_identity t (lifted_variable from 0) (λ x. grind (arith, nat_tests))

lifted_twice : (from by place more x : ℕ) → from ≤ place → place ≤ from + by →
    lifted_variable place more (lifted_variable from by x) ≡ lifted_variable from (by + more) x
lifted_twice from by place more x low high = grind (arith, nat_tests)

pub lift_within_lift : (from by place more : ℕ) (t : Tree) → from ≤ place → place ≤ from + by →
    lift_tree place more (lift_tree from by t) ≡ lift_tree from (by + more) t
lift_within_lift from by place more t low high =
    ap (lift_tree place more) (lift_renames_variables from by t)
    ∙ lift_renames_variables place more (rename (lifted_variable from by) t)
    ∙ rename_rename t (lifted_variable place more) (lifted_variable from by) (lifted_variable from (by + more))
    (λ x. lifted_twice from by place more x low high)
    ∙ sym (lift_renames_variables from (by + more) t)

-- A substitution at a place that a lift left free
free_place : (at : ℕ) (u : Tree) (from by x : ℕ) → from ≤ at → at ≤ from + by →
    subst_rel at u (lifted_variable from (by + 1) x) ≡ rel (lifted_variable from by x)
free_place at u from by x low high = go (cases_lt x from)
  where
    go : (x < from) ⊎ (from ≤ x) → subst_rel at u (lifted_variable from (by + 1) x) ≡ rel (lifted_variable from by x)
    go (inl below) =
        let e : lifted_variable from (by + 1) x ≡ x = grind (arith, nat_tests) in
        let e' : lifted_variable from by x ≡ x = grind (arith, nat_tests) in
        ap (subst_rel at u) e ∙ subst_below at u x (omega arith) ∙ ap rel (sym e')
    go (inr above) =
        let e : lifted_variable from (by + 1) x ≡ x + (by + 1) = grind (arith, nat_tests) in
        let e' : lifted_variable from by x ≡ x + by = grind (arith, nat_tests) in
        ap (subst_rel at u) e ∙ subst_above at u (x + (by + 1)) (omega arith) ∙ ap rel (omega arith ∙ sym e')

pub subst_within_lift : (at : ℕ) (u : Tree) (from by : ℕ) (t : Tree) → from ≤ at → at ≤ from + by →
    subst_tree at u (lift_tree from (by + 1) t) ≡ lift_tree from by t
subst_within_lift at u from by t low high =
    ap (subst_tree at u) (lift_renames_variables from (by + 1) t)
    ∙ subst_substitutes_variables at u (rename (lifted_variable from (by + 1)) t)
    ∙ substitute_rename t (subst_rel at u) (lifted_variable from (by + 1)) (λ x. rel (lifted_variable from by x))
    (λ x. free_place at u from by x low high)
    ∙ sym (rename_as_substitute t (lifted_variable from by))
    ∙ sym (lift_renames_variables from by t)

-- A lift at or below the place of a substitution
put_then_lifted : (from by at : ℕ) (u : Tree) (x : ℕ) → from ≤ at →
    lift_tree from by (subst_rel at u x) ≡ subst_rel (at + by) u (lifted_variable from by x)
put_then_lifted from by at u x low = go (cases_lt x from) (cases_lt x at) (cases_lt at x)
  where
    go : (x < from) ⊎ (from ≤ x) → (x < at) ⊎ (at ≤ x) → (at < x) ⊎ (x ≤ at) →
        lift_tree from by (subst_rel at u x) ≡ subst_rel (at + by) u (lifted_variable from by x)
    go (inl below) _ _ =
        let e : lifted_variable from by x ≡ x = grind (arith, nat_tests) in
        ap (lift_tree from by) (subst_below at u x (omega arith)) ∙ ap rel e
        ∙ sym (ap (subst_rel (at + by) u) e ∙ subst_below (at + by) u x (omega arith))
    go (inr above) (inl small) _ =
        let e : lifted_variable from by x ≡ x + by = grind (arith, nat_tests) in
        ap (lift_tree from by) (subst_below at u x small) ∙ ap rel e
        ∙ sym (ap (subst_rel (at + by) u) e ∙ subst_below (at + by) u (x + by) (omega arith))
    go (inr above) (inr _) (inl big) =
        let e : lifted_variable from by x ≡ x + by = grind (arith, nat_tests) in
        let e' : lifted_variable from by (x - 1) ≡ x + by - 1 = grind (arith, nat_tests) in
        ap (lift_tree from by) (subst_above at u x big) ∙ ap rel e'
        ∙ sym (ap (subst_rel (at + by) u) e ∙ subst_above (at + by) u (x + by) (omega arith))
    go (inr above) (inr high) (inr low) =
        let e : lifted_variable from by x ≡ x + by = grind (arith, nat_tests) in
        ap (lift_tree from by) (subst_here at u x (omega arith))
        ∙ lift_within_lift 0 at from by u (omega arith) (omega arith)
        ∙ sym (ap (subst_rel (at + by) u) e ∙ subst_here (at + by) u (x + by) (omega arith))

pub lift_below_subst : (from by at : ℕ) (u t : Tree) → from ≤ at →
    lift_tree from by (subst_tree at u t) ≡ subst_tree (at + by) u (lift_tree from by t)
lift_below_subst from by at u t low =
    let both : ℕ → Tree = λ x. subst_rel (at + by) u (lifted_variable from by x) in
    ap (lift_tree from by) (subst_substitutes_variables at u t)
    ∙ lift_renames_variables from by (substitute (subst_rel at u) t)
    ∙ rename_substitute t (lifted_variable from by) (subst_rel at u) both
    (λ x. sym (lift_renames_variables from by (subst_rel at u x)) ∙ put_then_lifted from by at u x low)
    ∙ sym (substitute_rename t (subst_rel (at + by) u) (lifted_variable from by) both (λ x. refl))
    ∙ sym (subst_substitutes_variables (at + by) u (rename (lifted_variable from by) t))
    ∙ sym (ap (subst_tree (at + by) u) (lift_renames_variables from by t))

-- Two substitutions
put_twice : (at place far : ℕ) (u v : Tree) (x : ℕ) → far ≡ at + place →
    subst_tree far v (subst_rel at u x) ≡ subst_tree at (subst_tree place v u) (subst_rel (far + 1) v x)
put_twice at place far u v x e = go (cases_lt x at) (cases_lt at x) (cases_lt x (far + 1)) (cases_lt (far + 1) x)
  where
    w : Tree
    w = subst_tree place v u

    go : (x < at) ⊎ (at ≤ x) → (at < x) ⊎ (x ≤ at) → (x < far + 1) ⊎ (far + 1 ≤ x) → (far + 1 < x) ⊎ (x ≤ far + 1) →
        subst_tree far v (subst_rel at u x) ≡ subst_tree at (subst_tree place v u) (subst_rel (far + 1) v x)
    go (inl below) _ _ _ =
        ap (subst_tree far v) (subst_below at u x below) ∙ subst_below far v x (omega arith)
        ∙ sym (ap (subst_tree at w) (subst_below (far + 1) v x (omega arith)) ∙ subst_below at w x below)
    go (inr high) (inr low) _ _ =
        ap (subst_tree far v) (subst_here at u x (omega arith))
        ∙ ap (λ z. subst_tree z v (lift_tree 0 at u)) (omega arith)
        ∙ sym (lift_below_subst 0 at place v u (omega arith))
        ∙ sym (ap (subst_tree at w) (subst_below (far + 1) v x (omega arith)) ∙ subst_here at w x (omega arith))
    go (inr _) (inl above) (inl small) _ =
        ap (subst_tree far v) (subst_above at u x above) ∙ subst_below far v (x - 1) (omega arith)
        ∙ sym (ap (subst_tree at w) (subst_below (far + 1) v x small) ∙ subst_above at w x above)
    go (inr _) (inl above) (inr high) (inr low) =
        ap (subst_tree far v) (subst_above at u x above) ∙ subst_here far v (x - 1) (omega arith)
        ∙ sym (ap (subst_tree at w) (subst_here (far + 1) v x (omega arith)) ∙ subst_within_lift at w 0 far v (omega arith) (omega arith))
    go (inr _) (inl above) (inr _) (inl big) =
        ap (subst_tree far v) (subst_above at u x above) ∙ subst_above far v (x - 1) (omega arith)
        ∙ sym (ap (subst_tree at w) (subst_above (far + 1) v x big) ∙ subst_above at w (x - 1) (omega arith))

pub subst_above_subst : (at place : ℕ) (u v t : Tree) →
    subst_tree (at + place) v (subst_tree at u t) ≡ subst_tree at (subst_tree place v u) (subst_tree (at + place + 1) v t)
subst_above_subst at place u v t =
    let far : ℕ = at + place in
    let w : Tree = subst_tree place v u in
    let both : ℕ → Tree = λ x. subst_tree at (subst_tree place v u) (subst_rel (at + place + 1) v x) in
    ap (subst_tree far v) (subst_substitutes_variables at u t)
    ∙ subst_substitutes_variables far v (substitute (subst_rel at u) t)
    ∙ substitute_substitute t (subst_rel far v) (subst_rel at u) both
    (λ x. sym (subst_substitutes_variables far v (subst_rel at u x)) ∙ put_twice at place far u v x refl)
    ∙ sym (substitute_substitute t (subst_rel at w) (subst_rel (far + 1) v) both
    (λ x. sym (subst_substitutes_variables at w (subst_rel (far + 1) v x))))
    ∙ sym (subst_substitutes_variables at w (substitute (subst_rel (far + 1) v) t))
    ∙ sym (ap (subst_tree at w) (subst_substitutes_variables (far + 1) v t))
