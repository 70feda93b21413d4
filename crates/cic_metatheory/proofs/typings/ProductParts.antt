-- The parts of a product that has a type have sorts. A product may be typed as an argument of an inductive type, by a
-- derivation that has no smaller one of the product itself; so the induction is on derivations of terms in which the
-- product stands as the term, or as an argument, or as an argument of an argument. Validity and inference take
-- products apart by it.
use Rattle.std.proofs.Common.{List, [], ◌∷◌, ◌++◌}
use Rattle.cic_terms.specs.Tree.{Tree, prod, app, ind}
use Rattle.cic_rules.specs.Numbering.{Numbering}
use Rattle.cic_rules.specs.Environment.{Environment, Context, assumed}
use Rattle.cic_rules.specs.Telescopes.{apply}
use Rattle.cic_rules.specs.Typing as T
use Rattle.cic_rules.specs.Typing.{Typed, HasSort}

data Inside (a b : Tree) : Tree → Type 0 where
  itself : Inside a b (prod a b)
  in_function : {f u : Tree} → Inside a b f → Inside a b (app f u)
  in_argument : {f u : Tree} → Inside a b u → Inside a b (app f u)

inside_head : (a b f : Tree) (us : List Tree) → Inside a b f → Inside a b (apply f us)
inside_head a b f [] h = h
inside_head a b f (u ∷ us) h = inside_head a b (app f u) us (in_function h)

inside_one_argument : (a b f u : Tree) (us vs : List Tree) → Inside a b u → Inside a b (apply f (us ++ u ∷ vs))
inside_one_argument a b f u [] vs h = inside_head a b (app f u) vs (in_argument h)
inside_one_argument a b f u (w ∷ us) vs h = inside_one_argument a b (app f w) u us vs h

parts_have_sorts : (E : Environment) (N : Numbering) (a b : Tree) {G : Context} {t c : Tree} → Typed E N G t c → Inside a b t → HasSort E N G a × HasSort E N (assumed a ∷ G) b
parts_have_sorts E N a b (T.Typed.product {s = s} {s' = s'} p q z) itself = (record { its_sort = s; typed = p }, record { its_sort = s'; typed = q })
parts_have_sorts E N a b (T.Typed.application p q e) (in_function h) = parts_have_sorts E N a b p h
parts_have_sorts E N a b (T.Typed.application p q e) (in_argument h) = parts_have_sorts E N a b q h
parts_have_sorts E N a b (T.Typed.instance {u = u} id A before after w c z d e p x y) h =
    parts_have_sorts E N a b p (rw e (inside_one_argument a b (ind id) u before after h))
parts_have_sorts E N a b (T.Typed.conversion p q l) h = parts_have_sorts E N a b p h
parts_have_sorts E N a b (T.Typed.sorts p) h = elim h [ ]
parts_have_sorts E N a b (T.Typed.variable p q) h = elim h [ ]
parts_have_sorts E N a b (T.Typed.constant p q) h = elim h [ ]
parts_have_sorts E N a b (T.Typed.inductive_type p q) h = elim h [ ]
parts_have_sorts E N a b (T.Typed.constructor p q) h = elim h [ ]
parts_have_sorts E N a b (T.Typed.abstraction p q) h = elim h [ ]
parts_have_sorts E N a b (T.Typed.local_definition o p q e) h = elim h [ ]
parts_have_sorts E N a b (T.Typed.matching _ _ _ _ _ _ _ _ _ _ _ _ _ _ _ _ _) h = elim h [ ]
parts_have_sorts E N a b (T.Typed.fixpoint _ _ _ _ _ _ _ _) h = elim h [ ]

pub domain_has_sort : (E : Environment) (N : Numbering) (G : Context) (a b t : Tree) → Typed E N G (prod a b) t → HasSort E N G a
domain_has_sort E N G a b t h = (parts_have_sorts E N a b h itself).0

pub codomain_has_sort : (E : Environment) (N : Numbering) (G : Context) (a b t : Tree) → Typed E N G (prod a b) t → HasSort E N (assumed a ∷ G) b
codomain_has_sort E N G a b t h = (parts_have_sorts E N a b h itself).1
