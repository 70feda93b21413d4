-- The functions of a Fix, and what one of them unfolds to.
use Rattle.std.specs.Prelude.{ℕ, Option, option_map, option_and_then, List, map}
use Rattle.cic_terms.specs.declared.term.FixBody.{FixBody}
use Rattle.cic_terms.specs.declared.term.FixBodies.{FixBodies, out-FixBodies}
use Rattle.cic_terms.specs.Tree.{Shape, Tree, Children}
use Rattle.cic_terms.specs.Denotes.{tree}
use Rattle.cic_rules.specs.Environment.{element}
use Rattle.cic_rules.specs.Telescopes.{Function, unfolded}
use Rattle.cic_counted.specs.Readings.{functions_of}

-- What function `which` of a Fix unfolds to, where there is such a function.
abbrev pub unfolding_of : (which : ℕ) → List Shape → Children → Option Tree
unfolding_of which shapes parts =
    option_and_then (λ fs. option_map (unfolded fs) (element fs which)) (functions_of shapes parts)

-- The function that a part of the program stands for.
abbrev pub function_of : FixBody → Function
function_of b = record {
  recursive_place = b.k;
  domains = map tree b.domains.items.items;
  codomain = tree b.codomain;
  body = tree b.body;
}

-- The functions that the parts of a Fix of the program are made of.
abbrev pub functions : FixBodies → List Function
functions all = map function_of (out-FixBodies all).items.items
