-- Where conversion and subtyping without eta are done, they are done with it, in as many steps and with the same
-- constraints: they came to no abstraction beside another term, since these differ.
use Rattle.std.proofs.Common.{◌≡◌, ℕ, zero, suc, Bool, true, false, if◌then◌else◌, refl, sym, subst, ◌∷◌}
use Rattle.std.specs.Prelude.{is_none}
use Rattle.std.proofs.lemmas.Bool.{and_parts}
use Rattle.cic_terms.specs.Tree.{Former, SortF, LamF, Tree, rel, node, Children, no_child, child, sort, prod}
use Rattle.cic_counted.specs.Sameness.{same_former, same_tree}
use Rattle.cic_rules.specs.Environment.{Environment, Context, unknown}
use Rattle.cic_counted.specs.Outcome.{Budget, Counted, done, Cause, deep, refuse}
use Rattle.cic_counted.specs.Evaluation.{whnf_at, same_places, compare, body_of, compare_heads, conv_at, below_or_equal, cumul_at}
use Rattle.cic_counted.proofs.RunsConversion.{alike, by_alike_bodies}
use Rattle.cic_soundness.specs.WithoutEta
use Rattle.cic_soundness.proofs.counting.Compositional.{holds_then, holds_if}
use Rattle.cic_soundness.proofs.counting.Evaluation.{holds_sorts_at_most, holds_compare}
use Rattle.cic_soundness.proofs.expansion.Calls.{Gives, gives_compositional, gives_itself}

-- Terms that compare by their formers are both abstractions, or neither is.
passed : (test : Bool) (m : Counted (Unit {0})) (c : Cause) (u : Unit {0}) (b b' : Budget) → (if test then m else refuse c) b ≡ done u b' → test ≡ true
passed true m c u b b' e = refl
passed false m c u b b' e = cc

module _ (conv : Context → Tree → Tree → Counted (Unit {0})) (G : Context) where
  nodes_alike : (f g : Former) (ks ls : Children) (u : Unit {0}) (b b' : Budget) → compare conv G (node f ks) (node g ls) b ≡ done u b' → is_none (body_of (node f ks)) ≡ is_none (body_of (node g ls))
  nodes_alike LamF g ks ls u b b' e =
      let p = and_parts (same_former LamF g) (same_places ks ls) (passed _ _ _ u b b' e) in alike LamF g ks ls p.0 p.1
  nodes_alike (SortF s) LamF no_child ls u b b' e = cc
  nodes_alike (SortF s) LamF (child x t ks) ls u b b' e = cc
  nodes_alike f LamF ks ls u b b' e = cc
  nodes_alike f g ks ls u b b' e = refl

  compared_alike : (v w : Tree) (u : Unit {0}) (b b' : Budget) → compare conv G v w b ≡ done u b' → is_none (body_of v) ≡ is_none (body_of w)
  compared_alike (rel x) (rel y) u b b' e = refl
  compared_alike (node f ks) (node g ls) u b b' e = nodes_alike f g ks ls u b b' e
  compared_alike (rel x) (node g ls) u b b' e = cc
  compared_alike (sort s) (rel y) u b b' e = cc
  compared_alike (node f ks) (rel y) u b b' e = cc

module _ (conv conv' : Context → Tree → Tree → Counted (Unit {0})) (p : (G : Context) (t u : Tree) → Gives (Unit {0}) (conv G t u) (conv' G t u)) where
  heads_give : (G : Context) (v w : Tree) → Gives (Unit {0}) (compare conv G v w) (compare_heads conv' G v w)
  heads_give G v w = record {
    same = λ u b b' e.
        subst (λ m. m b ≡ done u b') (sym (by_alike_bodies conv' G v w (body_of v) (body_of w) (compared_alike conv G v w u b b' e)))
        ((holds_compare gives_compositional conv conv' p G v w).same u b b' e);
  }

  below_gives : (cumul cumul' : Context → Tree → Tree → Counted (Unit {0})) → ((G : Context) (t u : Tree) → Gives (Unit {0}) (cumul G t u) (cumul' G t u)) → (G : Context) (v w : Tree) →
      Gives (Unit {0}) (WithoutEta.below_or_equal conv cumul G v w) (below_or_equal conv' cumul' G v w)
  below_gives cumul cumul' q G (prod a b) (prod c d) = holds_then gives_compositional (p G a c) (q (unknown ∷ G) b d)
  below_gives cumul cumul' q G (sort s) (sort s') = holds_sorts_at_most gives_compositional G s s'
  below_gives cumul cumul' q G v w = heads_give G v w

pub conv_gives : (k : ℕ) (E : Environment) (G : Context) (a b : Tree) → Gives (Unit {0}) (WithoutEta.conv_at k E G a b) (conv_at k E G a b)
unfolding conv_at WithoutEta.conv_at
conv_gives zero E G a b = gives_compositional.stop deep
conv_gives (suc k) E G a b =
    holds_then gives_compositional gives_compositional.tick (holds_if gives_compositional (same_tree a b) (gives_compositional.give tt)
    (gives_compositional.bind (gives_itself (whnf_at k E G a)) (λ v. gives_compositional.bind (gives_itself (whnf_at k E G b)) (λ w.
    heads_give (WithoutEta.conv_at k E) (conv_at k E) (conv_gives k E) G v w))))

pub cumul_gives : (k : ℕ) (E : Environment) (G : Context) (a b : Tree) → Gives (Unit {0}) (WithoutEta.cumul_at k E G a b) (cumul_at k E G a b)
unfolding cumul_at WithoutEta.cumul_at
cumul_gives zero E G a b = gives_compositional.stop deep
cumul_gives (suc k) E G a b =
    holds_then gives_compositional gives_compositional.tick (holds_if gives_compositional (same_tree a b) (gives_compositional.give tt)
    (gives_compositional.bind (gives_itself (whnf_at k E G a)) (λ v. gives_compositional.bind (gives_itself (whnf_at k E G b)) (λ w.
    below_gives (WithoutEta.conv_at k E) (conv_at k E) (conv_gives k E) (WithoutEta.cumul_at k E) (cumul_at k E) (cumul_gives k E) G v w))))
