-- Worked examples: types that stand among the parameters of other blocks, and fixpoints over them.
use Rattle.std.specs.Prelude.{ℕ, zero, suc, ◌+◌, List, [], ◌∷◌, ◌++◌, codes}
use Rattle.cic_terms.specs.Tree.{set, many, Tree, rel, no_child, child, sort, prod, app, ind, ctor, case}
use Rattle.cic_rules.specs.Environment.{Environment, Declaration, transparent, inductive, Block}
use Rattle.cic_rules.specs.Telescopes.{apply, Function, fixpoint}
use Rattle.cic_counted.specs.calls.Examples.{id_of, environment, type_of, constructor, nat, O, S, nat_block, match_nat, eq, eq_refl, eq_block, definition_plus, plus}

-- Inductive list (A : Set) : Set := nil : list A | cons : A -> list A -> list A.
abbrev pub list : Tree → Tree
list a = app (ind (id_of (codes "list"))) a

abbrev pub list_block : Block
list_block = record {
  parameters = 1;
  types = type_of (codes "list") (prod (sort set) (sort set))
      (constructor (codes "nil") (prod (sort set) (list (rel 0)))
      ∷ constructor (codes "cons") (prod (sort set) (prod (rel 0) (prod (list (rel 1)) (list (rel 2))))) ∷ []) ∷ [];
}

-- match l return motive with nil _ => empty | cons _ u r => more end
abbrev pub match_list : (motive value empty more : Tree) → Tree
match_list motive value empty more =
    case (id_of (codes "list")) 0 motive value (child (many 0) empty (child (many 2) more no_child))

-- Inductive tree : Set := node : list tree -> tree.
abbrev pub tree : Tree
tree = ind (id_of (codes "tree"))

abbrev pub tree_block : Block
tree_block = record {
  parameters = 0;
  types = type_of (codes "tree") (sort set) (constructor (codes "node") (prod (list tree) tree) ∷ []) ∷ [];
}

-- match t return motive with node l => branch end
abbrev pub match_tree : (motive value branch : Tree) → Tree
match_tree motive value branch = case (id_of (codes "tree")) 0 motive value (child (many 1) branch no_child)

-- nat, eq, plus, list and tree.
abbrev pub trees : Environment
trees = environment (inductive nat_block ∷ inductive eq_block ∷ definition_plus ∷ inductive list_block ∷ inductive tree_block ∷ [])

-- Fixpoint size (t : tree) {struct t} : nat := match t return nat with node l =>
--   S ((fix sum (l : list tree) {struct l} : nat := match l return nat with
--     nil _ => O | cons _ u r => plus (size u) (sum r) end) l) end.
abbrev pub sum_function : Function
sum_function = record {
  recursive_place = 0;
  domains = list tree ∷ [];
  codomain = nat;
  body = match_list nat (rel 0) O (plus (app (rel 6) (rel 1)) (app (rel 3) (rel 0)));
}

abbrev pub size_function : Function
size_function = record {
  recursive_place = 0;
  domains = tree ∷ [];
  codomain = nat;
  body = match_tree nat (rel 0) (S (app (fixpoint 0 (sum_function ∷ [])) (rel 0)));
}

abbrev pub definition_size : Declaration
definition_size = transparent (id_of (codes "size")) (prod tree nat) (fixpoint 0 (size_function ∷ []))

-- Fixpoint g (t : tree) : nat := match t return nat with node l => g (node l) end.
abbrev pub again_function : Function
again_function = record {
  recursive_place = 0;
  domains = tree ∷ [];
  codomain = nat;
  body = match_tree nat (rel 0) (app (rel 2) (app (ctor (id_of (codes "node"))) (rel 0)));
}

abbrev pub definition_again : Declaration
definition_again = transparent (id_of (codes "g")) (prod tree nat) (fixpoint 0 (again_function ∷ []))

-- Inductive bad : Set := b : list (bad -> nat) -> bad.
abbrev pub nested_bad_block : Block
nested_bad_block =
    let bad = ind (id_of (codes "bad")) in
    record {
      parameters = 0;
      types = type_of (codes "bad") (sort set) (constructor (codes "b") (prod (list (prod bad nat)) bad) ∷ []) ∷ [];
    }

-- Inductive nest (A : Set) : Set := z : nest A | s : A -> nest (list A) -> nest A.
abbrev pub nest : Tree → Tree
nest a = app (ind (id_of (codes "nest"))) a

abbrev pub nest_block : Block
nest_block = record {
  parameters = 1;
  types = type_of (codes "nest") (prod (sort set) (sort set))
      (constructor (codes "z") (prod (sort set) (nest (rel 0)))
      ∷ constructor (codes "s") (prod (sort set) (prod (rel 0) (prod (nest (list (rel 1))) (nest (rel 2))))) ∷ []) ∷ [];
}

-- Inductive bush : Set := k : nest bush -> bush.
abbrev pub bush_block : Block
bush_block =
    let bush = ind (id_of (codes "bush")) in
    record {
      parameters = 0;
      types = type_of (codes "bush") (sort set) (constructor (codes "k") (prod (nest bush) bush) ∷ []) ∷ [];
    }

-- Inductive labelled (A : Set) : Set := label : A -> list (labelled A) -> labelled A.
abbrev pub labelled_block : Block
labelled_block =
    let labelled : Tree → Tree = λ a. app (ind (id_of (codes "labelled"))) a in
    record {
      parameters = 1;
      types = type_of (codes "labelled") (prod (sort set) (sort set))
          (constructor (codes "label") (prod (sort set) (prod (rel 0) (prod (list (labelled (rel 1))) (labelled (rel 2))))) ∷ []) ∷ [];
    }

-- Inductive link0 (A : Set) : Set := c0 : A -> link0 A.
-- Inductive link(n + 1) (A : Set) : Set := c(n + 1) : link(n) A -> link(n + 1) A.
abbrev pub link : (n : ℕ) → Tree → Tree
link n a = app (ind (id_of (codes "link" ++ n ∷ []))) a

abbrev pub linked_to : (n : ℕ) → Tree → Tree
linked_to zero a = a
linked_to (suc n) a = link n a

abbrev pub link_block : (n : ℕ) → Block
link_block n = record {
  parameters = 1;
  types = type_of (codes "link" ++ n ∷ []) (prod (sort set) (sort set))
      (constructor (codes "c" ++ n ∷ []) (prod (sort set) (prod (linked_to n (rel 0)) (link n (rel 1)))) ∷ []) ∷ [];
}

-- link0, link1 and so on, so many of them.
abbrev pub links : ℕ → List Declaration
links zero = []
links (suc n) = links n ++ inductive (link_block n) ∷ []

-- Inductive chain : Set := chained : link(n) chain -> chain. It has n + 1 instances.
abbrev pub chain_block : (n : ℕ) → Block
chain_block n =
    let chain = ind (id_of (codes "chain")) in
    record {
      parameters = 0;
      types = type_of (codes "chain") (sort set) (constructor (codes "chained") (prod (link n chain) chain) ∷ []) ∷ [];
    }

-- Inductive grid : Set := rows : list (list grid) -> grid.
abbrev pub grid : Tree
grid = ind (id_of (codes "grid"))

abbrev pub grid_block : Block
grid_block = record {
  parameters = 0;
  types = type_of (codes "grid") (sort set) (constructor (codes "rows") (prod (list (list grid)) grid) ∷ []) ∷ [];
}

-- Fixpoint cells (t : grid) : nat := match t return nat with rows l =>
--   (fix all (l : list (list grid)) : nat := match l return nat with nil _ => O | cons _ r ls =>
--     plus ((fix row (r : list grid) : nat := match r return nat with
--       nil _ => O | cons _ u us => plus (cells u) (row us) end) r) (all ls) end) l end.
abbrev pub row_function : Function
row_function = record {
  recursive_place = 0;
  domains = list grid ∷ [];
  codomain = nat;
  body = match_list nat (rel 0) O (plus (app (rel 10) (rel 1)) (app (rel 3) (rel 0)));
}

abbrev pub all_function : Function
all_function = record {
  recursive_place = 0;
  domains = list (list grid) ∷ [];
  codomain = nat;
  body = match_list nat (rel 0) O (plus (app (fixpoint 0 (row_function ∷ [])) (rel 1)) (app (rel 3) (rel 0)));
}

abbrev pub cells_function : Function
cells_function = record {
  recursive_place = 0;
  domains = grid ∷ [];
  codomain = nat;
  body = case (id_of (codes "grid")) 0 nat (rel 0) (child (many 1) (app (fixpoint 0 (all_function ∷ [])) (rel 0)) no_child);
}

abbrev pub definition_cells : Declaration
definition_cells = transparent (id_of (codes "cells")) (prod grid nat) (fixpoint 0 (cells_function ∷ []))

-- Inductive pair (A B : Set) : Set := both : A -> B -> pair A B.
abbrev pub pair : (a b : Tree) → Tree
pair a b = apply (ind (id_of (codes "pair"))) (a ∷ b ∷ [])

abbrev pub pair_block : Block
pair_block = record {
  parameters = 2;
  types = type_of (codes "pair") (prod (sort set) (prod (sort set) (sort set)))
      (constructor (codes "both") (prod (sort set) (prod (sort set) (prod (rel 1) (prod (rel 1) (pair (rel 3) (rel 2)))))) ∷ []) ∷ [];
}

-- match p return motive with both _ _ a b => branch end
abbrev pub match_pair : (motive value branch : Tree) → Tree
match_pair motive value branch = case (id_of (codes "pair")) 0 motive value (child (many 2) branch no_child)

-- Inductive binary : Set := leaf : binary | fork : pair binary binary -> binary.
abbrev pub binary : Tree
binary = ind (id_of (codes "binary"))

abbrev pub binary_block : Block
binary_block = record {
  parameters = 0;
  types = type_of (codes "binary") (sort set)
      (constructor (codes "leaf") binary ∷ constructor (codes "fork") (prod (pair binary binary) binary) ∷ []) ∷ [];
}

-- Fixpoint leaves (t : binary) : nat := match t return nat with leaf => S O | fork p =>
--   match p return nat with both _ _ a b => plus (leaves a) (leaves b) end end.
abbrev pub leaves_function : Function
leaves_function = record {
  recursive_place = 0;
  domains = binary ∷ [];
  codomain = nat;
  body = case (id_of (codes "binary")) 0 nat (rel 0)
      (child (many 0) (S O)
      (child (many 1) (match_pair nat (rel 0) (plus (app (rel 4) (rel 1)) (app (rel 4) (rel 0)))) no_child));
}

abbrev pub definition_leaves : Declaration
definition_leaves = transparent (id_of (codes "leaves")) (prod binary nat) (fixpoint 0 (leaves_function ∷ []))

-- Inductive seq (A : Set) : Set := of : (nat -> A) -> seq A.
abbrev pub seq : Tree → Tree
seq a = app (ind (id_of (codes "seq"))) a

abbrev pub seq_block : Block
seq_block = record {
  parameters = 1;
  types = type_of (codes "seq") (prod (sort set) (sort set))
      (constructor (codes "of") (prod (sort set) (prod (prod nat (rel 1)) (seq (rel 1)))) ∷ []) ∷ [];
}

-- match s return motive with of _ g => branch end
abbrev pub match_seq : (motive value branch : Tree) → Tree
match_seq motive value branch = case (id_of (codes "seq")) 0 motive value (child (many 1) branch no_child)

-- Inductive wide : Set := branch : seq (list wide) -> wide.
abbrev pub wide : Tree
wide = ind (id_of (codes "wide"))

abbrev pub wide_block : Block
wide_block = record {
  parameters = 0;
  types = type_of (codes "wide") (sort set) (constructor (codes "branch") (prod (seq (list wide)) wide) ∷ []) ∷ [];
}

-- Fixpoint path (t : wide) : nat := match t return nat with branch s => match s return nat with of _ g =>
--   match g O return nat with nil _ => O | cons _ u r => S (path u) end end end.
abbrev pub path_function : Function
path_function = record {
  recursive_place = 0;
  domains = wide ∷ [];
  codomain = nat;
  body = case (id_of (codes "wide")) 0 nat (rel 0)
      (child (many 1) (match_seq nat (rel 0) (match_list nat (app (rel 0) O) O (S (app (rel 5) (rel 1))))) no_child);
}

abbrev pub definition_path : Declaration
definition_path = transparent (id_of (codes "path")) (prod wide nat) (fixpoint 0 (path_function ∷ []))

-- Inductive at (F : Set -> Set) (A : Set) : Set := put : F A -> at F A.
-- Inductive held : Set -> Set := none : held nat | hold : at held nat -> held nat.
abbrev pub at : (f a : Tree) → Tree
at f a = apply (ind (id_of (codes "at"))) (f ∷ a ∷ [])

abbrev pub at_block : Block
at_block =
    let domain = prod (sort set) (sort set) in
    record {
      parameters = 2;
      types = type_of (codes "at") (prod domain (prod (sort set) (sort set)))
          (constructor (codes "put") (prod domain (prod (sort set) (prod (app (rel 1) (rel 0)) (at (rel 2) (rel 1))))) ∷ []) ∷ [];
    }

abbrev pub held : Tree
held = ind (id_of (codes "held"))

abbrev pub held_block : Block
held_block = record {
  parameters = 0;
  types = type_of (codes "held") (prod (sort set) (sort set))
      (constructor (codes "none") (app held nat) ∷ constructor (codes "hold") (prod (at held nat) (app held nat)) ∷ []) ∷ [];
}

-- Fixpoint open (x : held nat) : nat := match x in held _ return nat with none => O | hold y =>
--   match y return nat with put _ _ z => open z end end.
-- The argument z has type F A, which is a parameter with a shape, applied; so it has none.
abbrev pub open_function : Function
open_function = record {
  recursive_place = 0;
  domains = app held nat ∷ [];
  codomain = nat;
  body = case (id_of (codes "held")) 1 nat (rel 0)
      (child (many 0) O
      (child (many 1) (case (id_of (codes "at")) 0 nat (rel 0) (child (many 1) (app (rel 3) (rel 0)) no_child)) no_child));
}

abbrev pub definition_open : Declaration
definition_open = transparent (id_of (codes "open")) (prod (app held nat) nat) (fixpoint 0 (open_function ∷ []))

-- nat, eq, plus, list, pair, seq and at, and then grid, binary, wide and held.
abbrev pub containers : Environment
containers =
    environment
    (inductive nat_block
    ∷ inductive eq_block
    ∷ definition_plus
    ∷ inductive list_block
    ∷ inductive pair_block
    ∷ inductive seq_block
    ∷ inductive at_block
    ∷ [])

abbrev pub contained : Environment
contained =
    containers
    ++ environment (inductive grid_block ∷ inductive binary_block ∷ inductive wide_block ∷ inductive held_block ∷ [])

-- Fixpoint name (n : nat) : nat := match n return nat with O => O | S p => inside end, where p is Rel 0, n is Rel 1
-- and the function is Rel 2.
abbrev pub on_successor : Tree → Function
on_successor inside = record { recursive_place = 0; domains = nat ∷ []; codomain = nat; body = match_nat nat (rel 0) O inside }

abbrev pub defined_on_successor : Tree → Declaration
defined_on_successor inside = transparent (id_of (codes "name")) (prod nat nat) (fixpoint 0 (on_successor inside ∷ []))

-- Calls of it on p, which may be, and on n, which may not, under so many more binders.
abbrev pub good_call : (under : ℕ) → Tree
good_call under = app (rel (under + 2)) (rel under)

abbrev pub bad_call : (under : ℕ) → Tree
bad_call under = app (rel (under + 2)) (rel (under + 1))

-- (fix g (m : nat) {struct m} : nat := inside) argument
abbrev pub applied_fix : (inside argument : Tree) → Tree
applied_fix inside argument =
    app (fixpoint 0 (record { recursive_place = 0; domains = nat ∷ []; codomain = nat; body = inside } ∷ [])) argument

-- (fix a (m : nat) {struct m} : nat := first
--  with b (m : nat) {struct m} : eq nat codomain codomain := eq_refl nat second for a) O
abbrev pub two_fixes : (first codomain second : Tree) → Tree
two_fixes first codomain second =
    app (fixpoint 0
    (record { recursive_place = 0; domains = nat ∷ []; codomain = nat; body = first }
    ∷ record { recursive_place = 0; domains = nat ∷ []; codomain = eq nat codomain codomain; body = eq_refl nat second }
    ∷ [])) O
