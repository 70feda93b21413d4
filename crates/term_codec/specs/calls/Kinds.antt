-- Which kind of term a term is.
use Rattle.cic_terms.specs.declared.term.Term.{Term, Let', Case', Fix'}

-- A `let`.
abbrev pub IsLet : Term → Type 0
IsLet (Let' _ t _ a _ u) = Unit {0}
IsLet t = ⊥

-- A `match`.
abbrev pub IsCase : Term → Type 0
IsCase (Case' n id _ p _ c _ bs) = Unit {0}
IsCase t = ⊥

-- A `fix`.
abbrev pub IsFix : Term → Type 0
IsFix (Fix' w _ bs) = Unit {0}
IsFix t = ⊥
