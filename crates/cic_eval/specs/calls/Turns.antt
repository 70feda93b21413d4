-- What a turn of the program's loop stands for, and what its parts answer.
use Rattle.std.specs.Prelude.{◌≡◌, ℕ, ◌<◌, Bool, true, false, Option, Some, None, Result, length}
use Rattle.std.specs.declared.rc.Rc.{Rc}
use Rattle.std.specs.declared.alloc.Global.{Global}
use Rattle.memory.specs.Telling.{Tells}
use Rattle.cic_terms.specs.declared.term.Term.{Term, Case'}
use Rattle.cic_terms.specs.Denotes.{tree, branches}
use Rattle.cic_terms.specs.Tree.{Tree, rel, case}
use Rattle.cic_rules.specs.Telescopes.{head_of}
use Rattle.cic_counted.specs.Evaluation as E
use Rattle.cic_rules.specs.Environment.{Environment}
use Rattle.cic_counted.specs.Evaluation.{unfolds, matched}
use Rattle.cic_counted.specs.Outcome.{is_small, deep}
use Rattle.cic_counted.specs.Readings.{arguments_of}
use Rattle.cic_spines.specs.Lists.{shared_tree}
use Rattle.cic_work.specs.Verdicts.{why}
use Rattle.cic_work.specs.declared.stop.Stop.{Stop}
use Rattle.cic_eval.specs.declared.turns.Turn.{Turn}
use Rattle.cic_eval.specs.declared.turns.Turn.TheVariants.{Answer, Again}

abbrev pub turned : Turn → E.Turn
turned (Answer t) = E.answer (shared_tree t)
turned (Again t) = E.again (shared_tree t)

-- A turn that goes on took a step.
abbrev pub Falls : Turn → (old new : ℕ) → Type 0
Falls (Answer t) old new = Unit {0}
Falls (Again t) old new = new < old

-- A term that is made is within the limits, and none is made exactly where it is not.
abbrev pub IsJudged : Tree → Result (Rc Term Global) Stop → Type 0
IsJudged want result =
    Tells why result (λ made. (shared_tree made ≡ want) × (is_small want ≡ true)) (λ stopped. (stopped ≡ deep) × (is_small want ≡ false))

-- What the head of a term unfolds to under the term's arguments, where there is one more.
abbrev pub unfolds_to : Tree → Option Tree
unfolds_to f = unfolds (length (arguments_of f)) (head_of f)

abbrev pub is_there : Option Tree → Bool
is_there None = false
is_there (Some t) = true

-- The tree that is there.
abbrev pub the_tree : Option Tree → Tree
the_tree None = rel 0
the_tree (Some t) = t

-- A match of the program with another value, and the branch that this value selects.
abbrev pub with_value : Term → Tree → Tree
with_value (Case' n id _ p _ c _ bs) v = case id n (tree p) v (branches bs)
with_value t v = tree t

abbrev pub selection : Environment → Term → Tree → Option Tree
selection E (Case' n id _ p _ c _ bs) v = matched E id (branches bs) (arguments_of v) (head_of v)
selection E t v = None
