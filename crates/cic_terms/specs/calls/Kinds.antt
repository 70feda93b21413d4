-- Which kind of term a term is.
use Rattle.cic_terms.specs.declared.term.Term.{Term, Prod', Lam', App', Let', Case', Fix'}
use Rattle.cic_terms.specs.Tree.{Binders, none, one}

-- A term of two parts: a product, an abstraction or an application.
abbrev pub IsPair : Term → Type 0
IsPair (Prod' _ a _ b) = Unit {0}
IsPair (Lam' _ a _ b) = Unit {0}
IsPair (App' _ f _ x) = Unit {0}
IsPair t = ⊥

-- The binders that the second part of such a term stands under.
abbrev pub second_binders : Term → Binders
second_binders (App' _ f _ x) = none
second_binders t = one

-- A `let`.
abbrev pub IsLet : Term → Type 0
IsLet (Let' _ t _ a _ u) = Unit {0}
IsLet t = ⊥

-- A `match`.
abbrev pub IsCase : Term → Type 0
IsCase (Case' n id _ p _ c _ bs) = Unit {0}
IsCase t = ⊥

-- A `fix`.
abbrev pub IsFix : Term → Type 0
IsFix (Fix' w _ bs) = Unit {0}
IsFix t = ⊥
