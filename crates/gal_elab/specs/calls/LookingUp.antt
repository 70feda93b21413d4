-- What the calls that look names up answer.
use Rattle.std.specs.Prelude.{ℕ, ◌≡◌, nat_eq, List, Result, IsOkAnd, IsErrOf}
use Rattle.memory.specs.Telling.{Tells}
use Rattle.std.specs.HashMap.{HashMap, get}
use Rattle.std.specs.Cmp.Lexicographic.{pointwise}
use Rattle.cic_terms.specs.Tree.{Tree, prod}
use Rattle.cic_terms.specs.Denotes.{tree}
use Rattle.cic_terms.specs.declared.term.Term.{Term}
use Rattle.gal_elab.specs.Answers.{reason}
use Rattle.gal_elab.specs.calls.Resolving.{Levels, Resolved, found, unknown}
use Rattle.gal_elab.specs.declared.elaborating.ElabFault.{ElabFault}
use Rattle.gal_elab.specs.declared.elaborating.ElabFault.TheVariants.{Unknown}

-- The answer is what comes of the written term, or there was no memory.
abbrev pub Resolves : Result Term ElabFault → Resolved → Type 0
Resolves result resolved = Tells reason result (λ t. resolved ≡ found (tree t)) (λ name. resolved ≡ unknown name)

-- The answer is the product of the domain and a codomain, or the fault of the codomain, or there was no memory.
abbrev pub MakesProduct : (domain : Tree) → Result Term ElabFault → Result Term ElabFault → Type 0
MakesProduct domain codomain result =
    Tells reason result (λ t. IsOkAnd codomain (λ u. tree t ≡ prod domain (tree u))) (λ name. IsErrOf codomain (Unknown name))

-- The levels that a map holds.
abbrev pub levels_in : {S : Type 0} → HashMap (List ℕ) ℕ S → Levels
levels_in map = λ name. get (pointwise nat_eq) map name
