-- What reading a term at a place of a library answers.
use Rattle.std.specs.Prelude.{◌≡◌, [], Ok, Err, Result, MatchResult}
use Rattle.std.specs.declared.alloc.Global.{Global}
use Rattle.std.specs.declared.rc.Rc.{Rc}
use Rattle.memory.specs.Telling.{OrNoMemory}
use Rattle.cic_terms.specs.Tree.{Tree}
use Rattle.cic_terms.specs.Denotes.{tree}
use Rattle.cic_terms.specs.Sizes.{Fits}
use Rattle.cic_terms.specs.declared.term.Term.{Term}
use Rattle.cic_rules.specs.Environment.{Environment}
use Rattle.gal_grammar.specs.Terms.{Raw}
use Rattle.gal_scoping.specs.Readings.{Reading}
use Rattle.gal_scoping.specs.Levels.{Owner}
use Rattle.gal_scoping.specs.Terms.{term}
use Rattle.name_scope.specs.Held.{scope_of, taken_of}
use Rattle.name_scope.specs.declared.scope.Scope.{Scope as HeldScope}
use Rattle.elab_parts.specs.Faults.{fault}
use Rattle.elab_terms.specs.declared.reading.ElabFault.{ElabFault}
use Rattle.elab_terms.specs.declared.reading.ElabFault.TheVariants.{Scoping, Deep}

-- The term that is written, with no binders around it, and with the next levels of its owner.
abbrev pub term_in : HeldScope → Environment → Owner → Raw → Reading Tree
term_in scope E owner raw =
    term (record { scope = scope_of scope; environment = E; fresh = [] }) owner [] (taken_of scope owner) raw

-- What is read is a term past the limits of a term.
pub record IsPast (reading : Reading Tree) : Type 0 where
  pub read_term : Tree
  pub is : reading ≡ Ok read_term
  pub passes : ¬ Fits 4000 read_term

abbrev pub IsRefused : Reading Tree → ElabFault → Type 0
IsRefused reading (Scoping reason) = OrNoMemory (fault reason) (λ e. reading ≡ Err e)
IsRefused reading Deep = IsPast reading

-- The answer is the term, within the limits; or why there is none.
abbrev pub IsTerm : Reading Tree → Tree → Type 0
IsTerm reading t = (reading ≡ Ok t) × Fits 4000 t

abbrev pub Elaborates : Reading Tree → Result (Rc Term Global) ElabFault → Type 0
Elaborates reading result = MatchResult result (λ t. IsTerm reading (tree t.value)) (λ reason. IsRefused reading reason)
