-- Applications in a row: one argument more, and the head.
use Rattle.std.proofs.Common.{◌≡◌, List, [], ◌∷◌, ◌++◌, refl}
use Rattle.cic_terms.specs.Tree.{Tree, app}
use Rattle.cic_rules.specs.Telescopes.{apply, head_of}

pub apply_append : (f : Tree) (us : List Tree) (v : Tree) → apply f (us ++ v ∷ []) ≡ app (apply f us) v
apply_append f [] v = refl
apply_append f (u ∷ us) v = apply_append (app f u) us v

pub head_of_apply : (us : List Tree) (f : Tree) → head_of (apply f us) ≡ head_of f
head_of_apply [] f = refl
head_of_apply (u ∷ us) f = head_of_apply us (app f u)
