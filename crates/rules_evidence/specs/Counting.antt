-- A worked environment over the natural numbers, and declarations that may follow it.
use Rattle.std.specs.Prelude.{Some, [], ◌∷◌, codes}
use Rattle.cic_terms.specs.Tree.{prop, sort, prod, app, const}
use Rattle.cic_rules.specs.Environment.{Environment, Declaration, axiom_of, transparent, opaque, inductive}
use Rattle.cic_counted.specs.calls.Examples.{id_of, environment, nat, O, S, nat_block, universe}

-- Axiom n : nat.
abbrev pub axiom_n : Declaration
axiom_n = axiom_of (id_of (codes "n")) nat

-- Definition m : nat := S n.
abbrev pub definition_m : Declaration
definition_m = transparent (id_of (codes "m")) nat (S (const (id_of (codes "n"))))

-- Definition one : nat := S O.
abbrev pub definition_one : Declaration
definition_one = transparent (id_of (codes "one")) nat (S O)

-- Theorem t : nat. Proof m.
abbrev pub theorem_t : Declaration
theorem_t = opaque (id_of (codes "t")) nat (Some (const (id_of (codes "m"))))

-- Axiom Q : nat -> Prop.
abbrev pub axiom_Q : Declaration
axiom_Q = axiom_of (id_of (codes "Q")) (prod nat (sort prop))

-- Universes u v. Definition large : Type@{v} := Type@{u}.
abbrev pub definition_large : Declaration
definition_large = transparent (id_of (codes "large")) (universe (codes "v")) (universe (codes "u"))

-- The natural numbers, and these six.
abbrev pub counting : Environment
counting = environment (inductive nat_block ∷ axiom_n ∷ definition_m ∷ definition_one ∷ theorem_t ∷ axiom_Q ∷ definition_large ∷ [])

-- Axiom q : Q t, and Definition z : nat := m, after them.
abbrev pub axiom_q : Declaration
axiom_q = axiom_of (id_of (codes "q")) (app (const (id_of (codes "Q"))) (const (id_of (codes "t"))))

abbrev pub definition_z : Declaration
definition_z = transparent (id_of (codes "z")) nat (const (id_of (codes "m")))
