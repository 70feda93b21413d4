-- What is read off products and off applications, and what arguments put in for the first products of a type
-- leave of it. A match reads the parameters and indices off the type of its value; so each of its contexts and goals is
-- found by these laws.
use Rattle.std.proofs.Common.{◌≡◌, List, [], ◌∷◌, ◌++◌, refl, ap}
use Rattle.cic_terms.specs.Tree.{Tree, app}
use Rattle.cic_rules.specs.Telescopes.{apply, products, domains_of, conclusion_of, Instantiated}

-- Products and applications as they are read
pub domains_of_products : (as_ : List Tree) (t : Tree) → domains_of (products as_ t) ≡ as_ ++ domains_of t
domains_of_products [] t = refl
domains_of_products (a ∷ as_) t = ap (λ z. a ∷ z) (domains_of_products as_ t)

pub conclusion_of_products : (as_ : List Tree) (t : Tree) → conclusion_of (products as_ t) ≡ conclusion_of t
conclusion_of_products [] t = refl
conclusion_of_products (a ∷ as_) t = conclusion_of_products as_ t

pub no_domains_of_apply : (us : List Tree) (f : Tree) → domains_of f ≡ [] → domains_of (apply f us) ≡ []
no_domains_of_apply [] f h = h
no_domains_of_apply (u ∷ us) f h = no_domains_of_apply us (app f u) refl

pub conclusion_of_apply : (us : List Tree) (f : Tree) → conclusion_of f ≡ f → conclusion_of (apply f us) ≡ apply f us
conclusion_of_apply [] f h = h
conclusion_of_apply (u ∷ us) f h = conclusion_of_apply us (app f u) refl

-- What arguments leave of a type is determined.
pub instantiated_between : (a a' z z' : Tree) {us : List Tree} → a ≡ a' → z ≡ z' → Instantiated a us z → Instantiated a' us z'
instantiated_between a a' z z' e f h = rw (← e, ← f) h
