-- Words by which proofs speak of the full body of a function, where the Fixes are put in by one walk.
use Rattle.std.specs.Prelude.{ℕ, zero, suc, ◌+◌, List, [], ◌∷◌, map}
use Rattle.cic_terms.specs.declared.term.FixBody.{FixBody}
use Rattle.cic_terms.specs.Tree.{Shape, Tree, Children, fix}
use Rattle.cic_terms.specs.calls.Walk.{map_tree}
use Rattle.cic_terms.specs.Denotes.{tree, domain_count}
use Rattle.cic_rules.specs.Telescopes.{abstractions}
use Rattle.cic_spines.specs.calls.Several.{several}

-- The Fixes of `count` functions, from function `which` on.
abbrev pub each_fix : (count which : ℕ) → List Shape → Children → List Tree
each_fix zero which shapes parts = []
each_fix (suc count) which shapes parts = fix which shapes parts ∷ each_fix count (which + 1) shapes parts

-- The body of a function with terms put in for the functions, under its domains.
abbrev pub body_with : List Tree → FixBody → Tree
body_with fixes b = map_tree (several fixes) (domain_count b) (tree b.body)

-- The full body of a function with terms put in for the functions, which its domains do not mention.
abbrev pub full_body_with : List Tree → FixBody → Tree
full_body_with fixes b = abstractions (map tree b.domains.items.items) (body_with fixes b)
