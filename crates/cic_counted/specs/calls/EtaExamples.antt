-- Worked examples: conversion by eta for functions, and subtyping of functions and products.
use Rattle.std.specs.Prelude.{ℕ, [], ◌∷◌, codes}
use Rattle.cic_terms.specs.Tree.{Tree, rel, prod, lam, app, const}
use Rattle.cic_rules.specs.Environment.{Environment, Context, Declaration, axiom_of, transparent}
use Rattle.cic_rules.specs.Telescopes.{apply}
use Rattle.cic_counted.specs.Outcome.{Outcome, done, stops, refused, mismatch}
use Rattle.cic_counted.specs.Evaluation.{conv_from, cumul_from}
use Rattle.cic_counted.specs.calls.Examples.{id_of, environment, P, axiom_P, applied_f, axiom_f}

-- Axioms f g : P -> P, h : P -> P -> P, a : P. Definition e : P -> P := fun x : P => f x.
abbrev pub f : Tree
f = const (id_of (codes "f"))

abbrev pub g : Tree
g = const (id_of (codes "g"))

abbrev pub h : Tree
h = const (id_of (codes "h"))

abbrev pub a : Tree
a = const (id_of (codes "a"))

abbrev pub e : Tree
e = const (id_of (codes "e"))

abbrev pub on_P : Environment
on_P =
    environment
    (axiom_P
    ∷ axiom_f
    ∷ axiom_of (id_of (codes "g")) (prod P P)
    ∷ axiom_of (id_of (codes "h")) (prod P (prod P P))
    ∷ axiom_of (id_of (codes "a")) P
    ∷ transparent (id_of (codes "e")) (prod P P) applied_f
    ∷ [])

-- fun x : P => u, in which x is Rel 0.
abbrev pub fun_x : Tree → Tree
fun_x u = lam P u

-- fun x y : P => h x y, fun x : P => h x, and fun x : P => h a x.
abbrev pub applied_h : Tree
applied_h = fun_x (fun_x (apply h (rel 1 ∷ rel 0 ∷ [])))

abbrev pub partly_applied_h : Tree
partly_applied_h = fun_x (app h (rel 0))

abbrev pub applied_h_a : Tree
applied_h_a = fun_x (apply h (a ∷ rel 0 ∷ []))

-- What conversion, and subtyping, of two terms answers within so many steps.
abbrev pub converted : Context → (t u : Tree) → (rest : ℕ) → Outcome (Unit {0})
converted G t u rest = conv_from 1 on_P G t u (record { rest = rest; found = [] })

abbrev pub at_most : Context → (t u : Tree) → (rest : ℕ) → Outcome (Unit {0})
at_most G t u rest = cumul_from 1 on_P G t u (record { rest = rest; found = [] })

-- Done, with nothing left; and refused, since a term of a context of this length is found where another is wanted.
abbrev pub done_with_all : Outcome (Unit {0})
done_with_all = done tt (record { rest = 0; found = [] })

abbrev pub found_where : (depth : ℕ) → (found wanted : Tree) → Outcome (Unit {0})
found_where depth found wanted = stops (refused (mismatch depth found wanted))

-- Axiom p : Q f. Definition s : Q (fun x : P => f x) := p.
abbrev pub axiom_p : Declaration
axiom_p = axiom_of (id_of (codes "p")) (app (const (id_of (codes "Q"))) f)

abbrev pub definition_s : Declaration
definition_s = transparent (id_of (codes "s")) (app (const (id_of (codes "Q"))) applied_f) (const (id_of (codes "p")))
