-- One walk that puts several terms in does what putting in one after the other does.
use Rattle.std.proofs.Common.{◌≡◌, ℕ, zero, suc, ◌+◌, ◌-◌, ◌<◌, ◌≤◌, ◌⊎◌, inl, inr, List, [], ◌∷◌, length, get_or, refl, sym, ap, ap₂, ◌∙◌, arith}
use Rattle.std.proofs.lemmas.Bool.Decides.{nat_tests}
use Rattle.std.proofs.lemmas.Bool.{cases_lt}
use Rattle.cic_terms.specs.Tree.{Tree, rel, node, Children, no_child, child, over}
use Rattle.cic_terms.specs.Lift.{lift_tree}
use Rattle.cic_terms.specs.calls.Walk.{map_tree, map_children}
use Rattle.cic_terms.proofs.Laws.{over_adds}
use Rattle.cic_terms.proofs.LiftSubst.{lift_above}
use Rattle.cic_rules.specs.Telescopes.{substitute_all}
use Rattle.cic_metatheory.specs.Substitution.{rename, substitution_under_one, substitution_under, substitute, substitute_children, for_innermost}
use Rattle.cic_metatheory.proofs.substitutions.LiftAndSubst.{lift_adds}
use Rattle.cic_metatheory.proofs.substitutions.Telescopes.{under_twice, past_binders}
use Rattle.cic_metatheory.proofs.typings.InstancesTogether.{for_several, put_in_together, several_after_lift}
use Rattle.cic_spines.specs.calls.Several.{several}

-- A variable of the binders that a substitution stands under stays.
stays_under : (n x : ℕ) (s : ℕ → Tree) → x < n → substitution_under n s x ≡ rel x
unfolding substitution_under substitution_under_one rename
stays_under zero x s h = absurd (omega arith)
stays_under (suc n) x s h = go (stays_under n x (substitution_under_one s)) (cases_lt x n)
  where
    go : (x < n → substitution_under n (substitution_under_one s) x ≡ rel x) → (x < n) ⊎ (n ≤ x) → substitution_under n (substitution_under_one s) x ≡ rel x
    go further (inl below) = further below
    go further (inr above) =
        let e : x ≡ 0 + n = omega arith in
        ap (substitution_under n (substitution_under_one s)) e ∙ past_binders n (substitution_under_one s) 0 ∙ ap rel (sym e)

-- Each variable of the binders becomes its term, and what stands outside is lowered.
several_inside : (us : List Tree) (i x : ℕ) (d : Tree) → x + i + 1 ≡ length us → for_several us x ≡ get_or us i d
unfolding for_several for_innermost substitute
several_inside [] i x d e = absurd (omega arith)
several_inside (u ∷ us) zero x d e =
    let n : ℕ = length us in
    let here : x ≡ 0 + n = omega arith in
    ap (substitute (for_several us))
    (ap (substitution_under n (for_innermost u)) here ∙ past_binders n (for_innermost u) 0 ∙ sym (lift_adds n u))
    ∙ several_after_lift us u
several_inside (u ∷ us) (suc i) x d e =
    ap (substitute (for_several us)) (stays_under (length us) x (for_innermost u) (omega arith))
    ∙ several_inside us i x d (omega arith)

several_outside : (us : List Tree) (x y : ℕ) → x ≡ y + length us → for_several us x ≡ rel y
unfolding substitute
several_outside us x y e =
    ap (for_several us) e ∙ ap (substitute (for_several us)) (sym (lift_above 0 (length us) y (omega arith))) ∙ several_after_lift us (rel y)

-- Under binders
several_under : (us : List Tree) (at n : ℕ) → at ≤ n → substitution_under at (for_several us) n ≡ several us at n
several_under us at n h = go (cases_lt (n - at) (length us))
  where
    e : n ≡ (n - at) + at
    e = omega arith

    first : substitution_under at (for_several us) n ≡ lift_tree 0 at (for_several us (n - at))
    first =
        ap (substitution_under at (for_several us)) e ∙ past_binders at (for_several us) (n - at)
        ∙ sym (lift_adds at (for_several us (n - at)))

    inside : n - at < length us → several us at n ≡ lift_tree 0 at (get_or us (length us - 1 - (n - at)) (rel 0))
    inside lt = grind (arith, nat_tests)

    outside : length us ≤ n - at → several us at n ≡ rel (n - length us)
    outside le = grind (arith, nat_tests)

    go : (n - at < length us) ⊎ (length us ≤ n - at) → substitution_under at (for_several us) n ≡ several us at n
    go (inl lt) =
        first
        ∙ ap (lift_tree 0 at) (several_inside us (length us - 1 - (n - at)) (n - at) (rel 0) (omega arith))
        ∙ sym (inside lt)
    go (inr le) =
        first
        ∙ ap (lift_tree 0 at) (several_outside us (n - at) (n - at - length us) (omega arith))
        ∙ lift_above 0 at (n - at - length us) (omega arith)
        ∙ ap rel (omega arith)
        ∙ sym (outside le)

several_rel : (us : List Tree) (at n : ℕ) → map_tree (several us) at (rel n) ≡ substitution_under at (for_several us) n
several_rel us at n = go (cases_lt n at)
  where
    below : n < at → map_tree (several us) at (rel n) ≡ rel n
    below lt = grind (arith, nat_tests)

    above : at ≤ n → map_tree (several us) at (rel n) ≡ several us at n
    above le = grind (arith, nat_tests)

    go : (n < at) ⊎ (at ≤ n) → map_tree (several us) at (rel n) ≡ substitution_under at (for_several us) n
    go (inl lt) = below lt ∙ sym (stays_under at n (for_several us) lt)
    go (inr le) = above le ∙ sym (several_under us at n le)

mutual
  unfolding substitute

  walked_under : (us : List Tree) (at : ℕ) (t : Tree) → map_tree (several us) at t ≡ substitute (substitution_under at (for_several us)) t
  walked_under us at (rel n) = several_rel us at n
  walked_under us at (node f ks) = ap (node f) (walked_children us at ks)

  walked_children : (us : List Tree) (at : ℕ) (ks : Children) → map_children (several us) at ks ≡ substitute_children (substitution_under at (for_several us)) ks
  walked_children us at no_child = refl
  walked_children us at (child b t ks) =
      let e : over b at ≡ at + over b 0 = over_adds b at in
      ap₂ (child b)
      (walked_under us (over b at) t
      ∙ ap (λ k. substitute (substitution_under k (for_several us)) t) e
      ∙ ap (λ s. substitute s t) (sym (under_twice at (over b 0) (for_several us))))
      (walked_children us at ks)

pub put_in_at_once : (us : List Tree) (t : Tree) → map_tree (several us) 0 t ≡ substitute_all us t
unfolding substitution_under
put_in_at_once us t = walked_under us 0 t ∙ sym (put_in_together us t)
