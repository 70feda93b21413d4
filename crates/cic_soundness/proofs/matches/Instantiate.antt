-- What arguments put in for the first products of a type leave of it, as the check computes it. A match puts the
-- parameters into the arity and into the types of the constructors; so its contexts and goals are found by this.
use Rattle.std.proofs.Common.{◌≡◌, List, refl, sym, ap, ◌∙◌}
use Rattle.cic_terms.specs.Tree.{Tree}
use Rattle.cic_rules.specs.Telescopes.{Instantiated, no_argument, one_argument}
use Rattle.cic_counted.specs.Readings.{instantiate}

pub instantiate_gives : {t z : Tree} {us : List Tree} → Instantiated t us z → instantiate us t ≡ z
instantiate_gives no_argument = refl
instantiate_gives (one_argument {us = us} e p) = ap (instantiate us) (sym e) ∙ instantiate_gives p
