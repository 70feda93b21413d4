-- Parts of matches and of Fixes of the program, as they are compared.
use Rattle.std.specs.Prelude.{ℕ, Bool, false, ◌&&◌, nat_eq}
use Rattle.cic_terms.specs.declared.term.Term.{Term, Case'}
use Rattle.cic_terms.specs.Denotes.{branches}
use Rattle.cic_terms.specs.Tree.{Tree}
use Rattle.cic_names.specs.Sameness.{same_id}
use Rattle.cic_rules.specs.Environment.{Context}
use Rattle.cic_rules.specs.Telescopes.{Function}
use Rattle.cic_counted.specs.Evaluation.{fitting_body, same_places}
use Rattle.cic_counted.specs.Outcome.{Counted, ◌>>=◌}

-- Two matches on the same type, whose branches bind the same numbers of arguments.
abbrev pub matches_alike : Term → Term → Bool
matches_alike (Case' n id _ p _ c _ bs) (Case' m other _ q _ d _ cs) =
    same_id id other && (nat_eq n m && same_places (branches bs) (branches cs))
matches_alike t u = false

-- The full bodies of two functions.
abbrev pub convert_body : (Context → Tree → Tree → Counted (Unit {0})) → Context → (all : ℕ) → Function → Function → Counted (Unit {0})
convert_body conv G all f g = do
  t ← fitting_body all f
  u ← fitting_body all g
  conv G t u
