-- Applications to several terms.
use Rattle.std.proofs.Common.{◌≡◌, ◌+◌, ◌-◌, ◌<◌, ◌++◌, ℕ, suc, List, [], ◌∷◌, refl, sym, ap, ◌∙◌, arith}
use Rattle.cic_terms.specs.Tree.{Tree, app, rel}
use Rattle.cic_rules.specs.Telescopes.{apply, variables}

-- An application to terms and then to others.
pub applied_to_both : (f : Tree) (us vs : List Tree) → apply (apply f us) vs ≡ apply f (us ++ vs)
applied_to_both f [] vs = refl
applied_to_both f (u ∷ us) vs = applied_to_both (app f u) us vs

-- The next of the variables.
pub next_variable : (f : Tree) (count i : ℕ) → i < count →
    apply (app f (rel (count - 1 - i))) (variables (count - (i + 1))) ≡ apply f (variables (count - i))
next_variable f count i h =
    let e : count - i ≡ suc (count - (i + 1)) = omega arith in
    let k : count - 1 - i ≡ count - (i + 1) = omega arith in
    ap (λ n. apply (app f (rel n)) (variables (count - (i + 1)))) k ∙ sym (ap (λ n. apply f (variables n)) e)
