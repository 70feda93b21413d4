-- Worked examples: declarations of a library A, and the functions of Fixes.
use Rattle.std.specs.Prelude.{ℕ, Bool, true, false, Some, List, [], ◌∷◌, codes}
use Rattle.cic_terms.specs.Tree.{prop, set, typ, many, Tree, rel, no_child, child, sort, prod, lam, app, const, ind, ctor, case}
use Rattle.cic_names.specs.declared.name.GlobalId.{GlobalId}
use Rattle.cic_names.specs.declared.level.Part.TheVariants.{Declared, Visible}
use Rattle.cic_names.specs.declared.level.Level.{Level}
use Rattle.cic_names.specs.declared.level.Level.TheVariants.{Named}
use Rattle.cic_names.specs.declared.constraint.Constraint.{Constraint}
use Rattle.cic_rules.specs.Environment.{Environment, Declaration, axiom_of, transparent, opaque, inductive, Block, TypeDeclaration, ConstructorDeclaration, declared, assumed}
use Rattle.cic_rules.specs.Telescopes.{apply, Function, fixpoint}
use Rattle.cic_counted.specs.Outcome.{Outcome, done, refused, Cause}
use Rattle.cic_counted.specs.Evaluation.{whnf_from, conv_from}
use Rattle.cic_counted.specs.Checking.{Answer, accepts, rejects}

-- An id of library A.
abbrev pub id_of : List ℕ → GlobalId
id_of name = record { lib = codes "A"; name = name }

-- Accepted in so many steps, with no constraint; and accepted at all.
abbrev pub accepted_in : ℕ → Answer
accepted_in steps = accepts (record { visible = []; proofs = []; steps = steps })

abbrev pub is_accepted : Answer → Bool
is_accepted (accepts found) = true
is_accepted (rejects s) = false

abbrev pub refuses : Cause → Answer
refuses cause = rejects (refused cause)

-- The environment of these declarations.
abbrev pub environment : List Declaration → Environment
environment [] = []
environment (d ∷ ds) = declared d ∷ environment ds

-- Axiom P : Prop.
abbrev pub P : Tree
P = const (id_of (codes "P"))

abbrev pub axiom_P : Declaration
axiom_P = axiom_of (id_of (codes "P")) (sort prop)

-- Definition Q : Prop := P.
abbrev pub definition_Q : Declaration
definition_Q = transparent (id_of (codes "Q")) (sort prop) P

-- Definition R : Prop := P -> P.
abbrev pub definition_R : Declaration
definition_R = transparent (id_of (codes "R")) (sort prop) (prod P P)

-- Definition Id : Prop -> Prop := fun x : Prop => x.
abbrev pub definition_Id : Declaration
definition_Id = transparent (id_of (codes "Id")) (prod (sort prop) (sort prop)) (lam (sort prop) (rel 0))

-- Definition t : P -> Id P := fun h : P => h.
abbrev pub definition_t : Declaration
definition_t = transparent (id_of (codes "t")) (prod P (app (const (id_of (codes "Id"))) P)) (lam P (rel 0))

-- A type of a block, and a constructor.
abbrev pub type_of : List ℕ → Tree → List ConstructorDeclaration → TypeDeclaration
type_of name arity constructors = record { id = id_of name; arity = arity; constructors = constructors }

abbrev pub constructor : List ℕ → Tree → ConstructorDeclaration
constructor name type = record { id = id_of name; type = type }

-- Inductive nat : Set := O : nat | S : nat -> nat.
abbrev pub nat : Tree
nat = ind (id_of (codes "nat"))

abbrev pub O : Tree
O = ctor (id_of (codes "O"))

abbrev pub S : Tree → Tree
S n = app (ctor (id_of (codes "S"))) n

abbrev pub nat_block : Block
nat_block = record {
  parameters = 0;
  types = type_of (codes "nat") (sort set)
      (constructor (codes "O") nat ∷ constructor (codes "S") (prod nat nat) ∷ []) ∷ [];
}

-- match n as x return motive with O => zero | S p => successor end
abbrev pub match_nat : (motive value zero successor : Tree) → Tree
match_nat motive value zero successor =
    case (id_of (codes "nat")) 0 motive value (child (many 0) zero (child (many 1) successor no_child))

-- Inductive eq (A : Type) (x : A) : A -> Prop := eq_refl : eq A x x.
abbrev pub eq_level : Level
eq_level = Named (record { lib = codes "A"; owner = codes "eq"; part = Visible 0 })

abbrev pub eq_type : Tree
eq_type = sort (typ (record { level = eq_level; plus = false } ∷ []))

abbrev pub eq : (A x y : Tree) → Tree
eq A x y = apply (ind (id_of (codes "eq"))) (A ∷ x ∷ y ∷ [])

abbrev pub eq_refl : (A x : Tree) → Tree
eq_refl A x = apply (ctor (id_of (codes "eq_refl"))) (A ∷ x ∷ [])

abbrev pub eq_block : Block
eq_block = record {
  parameters = 2;
  types = type_of (codes "eq") (prod eq_type (prod (rel 0) (prod (rel 1) (sort prop))))
      (constructor (codes "eq_refl") (prod eq_type (prod (rel 0) (eq (rel 1) (rel 0) (rel 0)))) ∷ []) ∷ [];
}

-- plus (n m : nat) {struct n} : nat := match n return nat with O => m | S p => S (plus p m) end
abbrev pub plus_function : Function
plus_function = record {
  recursive_place = 0;
  domains = nat ∷ nat ∷ [];
  codomain = nat;
  body = match_nat nat (rel 1) (rel 0) (S (apply (rel 3) (rel 0 ∷ rel 1 ∷ [])));
}

abbrev pub definition_plus : Declaration
definition_plus = transparent (id_of (codes "plus")) (prod nat (prod nat nat)) (fixpoint 0 (plus_function ∷ []))

abbrev pub plus : (n m : Tree) → Tree
plus n m = apply (const (id_of (codes "plus"))) (n ∷ m ∷ [])

-- Definition two : eq nat (plus (S O) (S O)) (S (S O)) := eq_refl nat (S (S O)).
abbrev pub definition_two : Declaration
definition_two = transparent (id_of (codes "two")) (eq nat (plus (S O) (S O)) (S (S O))) (eq_refl nat (S (S O)))

-- Theorem plus_n_O : forall n : nat, eq nat (plus n O) n, by the fixpoint
-- f (n : nat) {struct n} : eq nat (plus n O) n :=
--   match n as k return eq nat (plus k O) k with
--   | O => eq_refl nat O
--   | S p => match f p in eq _ _ y return eq nat (S (plus p O)) (S y) with
--            | eq_refl _ _ => eq_refl nat (S (plus p O)) end end
abbrev pub plus_n_O_function : Function
plus_n_O_function = record {
  recursive_place = 0;
  domains = nat ∷ [];
  codomain = eq nat (plus (rel 0) O) (rel 0);
  body = match_nat (eq nat (plus (rel 0) O) (rel 0)) (rel 0)
      (eq_refl nat O)
      (case (id_of (codes "eq")) 1
      (eq nat (S (plus (rel 2) O)) (S (rel 1)))
      (app (rel 2) (rel 0))
      (child (many 0) (eq_refl nat (S (plus (rel 0) O))) no_child));
}

abbrev pub theorem_plus_n_O : Declaration
theorem_plus_n_O =
    opaque (id_of (codes "plus_n_O")) (prod nat (eq nat (plus (rel 0) O) (rel 0))) (Some (fixpoint 0 (plus_n_O_function ∷ [])))

-- The declarations nat, eq and plus.
abbrev pub arithmetic : Environment
arithmetic = environment (inductive nat_block ∷ inductive eq_block ∷ definition_plus ∷ [])

-- Fixpoint f (n : nat) {struct n} : nat := f n.
abbrev pub f_function : Function
f_function = record { recursive_place = 0; domains = nat ∷ []; codomain = nat; body = app (rel 1) (rel 0) }

abbrev pub definition_f : Declaration
definition_f = transparent (id_of (codes "f")) (prod nat nat) (fixpoint 0 (f_function ∷ []))

-- Fixpoint g (m n : nat) : nat := match n return nat with O => m | S p => g m p end.
abbrev pub g_function : (k : ℕ) → Function
g_function k = record {
  recursive_place = k;
  domains = nat ∷ nat ∷ [];
  codomain = nat;
  body = match_nat nat (rel 0) (rel 1) (apply (rel 3) (rel 2 ∷ rel 0 ∷ []));
}

abbrev pub definition_g : (k : ℕ) → Declaration
definition_g k = transparent (id_of (codes "g")) (prod nat (prod nat nat)) (fixpoint 0 (g_function k ∷ []))

-- Inductive bool : Set := true | false.
abbrev pub bool : Tree
bool = ind (id_of (codes "bool"))

abbrev pub bool_block : Block
bool_block = record {
  parameters = 0;
  types = type_of (codes "bool") (sort set)
      (constructor (codes "true") bool ∷ constructor (codes "false") bool ∷ []) ∷ [];
}

-- Fixpoint even (n : nat) : bool := match n return bool with O => true | S p => odd p end
-- with odd (n : nat) : bool := match n return bool with O => false | S p => even p end.
abbrev pub even_function : Function
even_function = record {
  recursive_place = 0;
  domains = nat ∷ [];
  codomain = bool;
  body = match_nat bool (rel 0) (ctor (id_of (codes "true"))) (app (rel 2) (rel 0));
}

abbrev pub odd_function : Function
odd_function = record {
  recursive_place = 0;
  domains = nat ∷ [];
  codomain = bool;
  body = match_nat bool (rel 0) (ctor (id_of (codes "false"))) (app (rel 3) (rel 0));
}

abbrev pub definition_even : Declaration
definition_even = transparent (id_of (codes "even")) (prod nat bool) (fixpoint 0 (even_function ∷ odd_function ∷ []))

-- Inductive tree : Set := node : forest -> tree
-- with forest : Set := nil : forest | cons : tree -> forest -> forest.
abbrev pub forest_block : Block
forest_block =
    let tree = ind (id_of (codes "tree")) in
    let forest = ind (id_of (codes "forest")) in
    record {
      parameters = 0;
      types = type_of (codes "tree") (sort set) (constructor (codes "node") (prod forest tree) ∷ [])
          ∷ type_of (codes "forest") (sort set)
          (constructor (codes "nil") forest ∷ constructor (codes "cons") (prod tree (prod forest forest)) ∷ [])
          ∷ [];
    }

-- Inductive bad : Set := c : (bad -> bad) -> bad.
abbrev pub bad_block : Block
bad_block =
    let bad = ind (id_of (codes "bad")) in
    record {
      parameters = 0;
      types = type_of (codes "bad") (sort set) (constructor (codes "c") (prod (prod bad bad) bad) ∷ []) ∷ [];
    }

-- Inductive box : Set := b : Set -> box.
abbrev pub box_block : Block
box_block =
    record {
      parameters = 0;
      types = type_of (codes "box") (sort set)
          (constructor (codes "b") (prod (sort set) (ind (id_of (codes "box")))) ∷ []) ∷ [];
    }

-- Inductive two : Prop := l | r.
abbrev pub two_block : Block
two_block =
    let two = ind (id_of (codes "two")) in
    record {
      parameters = 0;
      types = type_of (codes "two") (sort prop) (constructor (codes "l") two ∷ constructor (codes "r") two ∷ []) ∷ [];
    }

-- Definition d (h : two) : nat := match h return nat with l => O | r => S O end.
abbrev pub definition_d : Declaration
definition_d =
    transparent (id_of (codes "d")) (prod (ind (id_of (codes "two"))) nat)
    (lam (ind (id_of (codes "two")))
    (case (id_of (codes "two")) 0 nat (rel 0) (child (many 0) O (child (many 0) (S O) no_child))))

-- Definition e (x y : nat) (h : eq nat x y) : nat := match h return nat with eq_refl _ _ => O end.
abbrev pub definition_e : Declaration
definition_e =
    transparent (id_of (codes "e")) (prod nat (prod nat (prod (eq nat (rel 1) (rel 0)) nat)))
    (lam nat (lam nat (lam (eq nat (rel 1) (rel 0))
    (case (id_of (codes "eq")) 1 nat (rel 0) (child (many 0) O no_child)))))

-- Inductive True : Prop := I : True.   Inductive False : Prop := .   Theorem bad : False. Proof I.
abbrev pub true_block : Block
true_block = record {
  parameters = 0;
  types = type_of (codes "True") (sort prop) (constructor (codes "I") (ind (id_of (codes "True"))) ∷ []) ∷ [];
}

abbrev pub false_block : Block
false_block = record { parameters = 0; types = type_of (codes "False") (sort prop) [] ∷ [] }

abbrev pub theorem_bad : Declaration
theorem_bad = opaque (id_of (codes "bad")) (ind (id_of (codes "False"))) (Some (ctor (id_of (codes "I"))))

-- Definition N : Set := nat.
abbrev pub N : Tree
N = const (id_of (codes "N"))

abbrev pub definition_N : Declaration
definition_N = transparent (id_of (codes "N")) (sort set) nat

-- fix zero (n : nat) {struct n} : N := match n return N with O => O | S p => zero p end
abbrev pub zero_function : Function
zero_function = record {
  recursive_place = 0;
  domains = nat ∷ [];
  codomain = N;
  body = match_nat N (rel 0) O (app (rel 2) (rel 0));
}

abbrev pub with_N : Environment
with_N = environment (inductive nat_block ∷ inductive eq_block ∷ definition_N ∷ [])

-- Universes u v. Axiom F : Type@{v} -> Prop. Theorem a : Prop. Proof F Type@{u}.
abbrev pub level : List ℕ → Level
level name = Named (record { lib = codes "A"; owner = name; part = Declared })

abbrev pub universe : List ℕ → Tree
universe name = sort (typ (record { level = level name; plus = false } ∷ []))

abbrev pub axiom_F : Declaration
axiom_F = axiom_of (id_of (codes "F")) (prod (universe (codes "v")) (sort prop))

abbrev pub theorem_a : Declaration
theorem_a = opaque (id_of (codes "a")) (sort prop) (Some (app (const (id_of (codes "F"))) (universe (codes "u"))))

-- Definition x : Type@{u} := Type@{u}.
abbrev pub definition_x : Declaration
definition_x = transparent (id_of (codes "x")) (universe (codes "u")) (universe (codes "u"))

-- u < v, and u < u.
abbrev pub below : List ℕ → List ℕ → Constraint
below left right = record { left = level left; strict = true; right = level right }

-- The constraints of an accepted declaration.
abbrev pub visible_of : Answer → List Constraint
visible_of (accepts found) = found.visible
visible_of (rejects s) = []

abbrev pub proofs_of : Answer → List Constraint
proofs_of (accepts found) = found.proofs
proofs_of (rejects s) = []

-- Axiom f : P -> P. Axiom Q : (P -> P) -> Prop. Axiom q : Q (fun x : P => f x). Definition r : Q f := q.
abbrev pub applied_f : Tree
applied_f = lam P (app (const (id_of (codes "f"))) (rel 0))

abbrev pub axiom_f : Declaration
axiom_f = axiom_of (id_of (codes "f")) (prod P P)

abbrev pub axiom_Q : Declaration
axiom_Q = axiom_of (id_of (codes "Q")) (prod (prod P P) (sort prop))

abbrev pub axiom_q : Declaration
axiom_q = axiom_of (id_of (codes "q")) (app (const (id_of (codes "Q"))) applied_f)

abbrev pub definition_r : Declaration
definition_r = transparent (id_of (codes "r")) (app (const (id_of (codes "Q"))) (const (id_of (codes "f")))) (const (id_of (codes "q")))

-- Definition b0 : bool := true. Definition b1 : bool := match b0 return bool with true => b0 | false => false end.
-- Definition b2 and b3 the same, of b1 and b2.
abbrev pub match_bool : Tree → Tree
match_bool value =
    case (id_of (codes "bool")) 0 bool value
    (child (many 0) value (child (many 0) (ctor (id_of (codes "false"))) no_child))

abbrev pub definition_b : List ℕ → Tree → Declaration
definition_b name body = transparent (id_of name) bool body

abbrev pub booleans : Environment
booleans =
    environment
    (inductive bool_block
    ∷ definition_b (codes "b0") (ctor (id_of (codes "true")))
    ∷ definition_b (codes "b1") (match_bool (const (id_of (codes "b0"))))
    ∷ definition_b (codes "b2") (match_bool (const (id_of (codes "b1"))))
    ∷ definition_b (codes "b3") (match_bool (const (id_of (codes "b2"))))
    ∷ [])

-- The weak head normal form of a constant within so many steps.
abbrev pub evaluated : List ℕ → (rest : ℕ) → Outcome Tree
evaluated name rest = whnf_from 1 booleans [] (const (id_of name)) (record { rest = rest; found = [] })

-- Done, with nothing left.
abbrev pub spent_all : Tree → Outcome Tree
spent_all t = done t (record { rest = 0; found = [] })

-- The weak head normal form of a term in which n : nat is Rel 0, with arithmetic, within so many steps; and whether
-- it is convertible with n.
abbrev pub evaluated_at_n : Tree → (rest : ℕ) → Outcome Tree
evaluated_at_n t rest = whnf_from 1 arithmetic (assumed nat ∷ []) t (record { rest = rest; found = [] })

abbrev pub converted_with_n : Tree → (rest : ℕ) → Outcome (Unit {0})
converted_with_n t rest = conv_from 1 arithmetic (assumed nat ∷ []) t (rel 0) (record { rest = rest; found = [] })
