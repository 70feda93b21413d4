-- Which kind of term a term is.
use Rattle.cic_terms.specs.declared.term.Term.{Term, Prod', Lam', App'}

abbrev pub IsProduct : Term → Type 0
IsProduct (Prod' _ a _ b) = Unit {0}
IsProduct t = ⊥

abbrev pub IsAbstraction : Term → Type 0
IsAbstraction (Lam' _ a _ b) = Unit {0}
IsAbstraction t = ⊥

abbrev pub IsApplication : Term → Type 0
IsApplication (App' _ f _ x) = Unit {0}
IsApplication t = ⊥
