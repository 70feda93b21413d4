-- The parts of the typing of a match, as the program goes through them.
use Rattle.std.specs.Prelude.{ℕ, ◌+◌, ◌&&◌, nat_eq, List, [], ◌∷◌, ◌++◌, length, take, drop}
use Rattle.cic_terms.specs.Denotes.{branch_list}
use Rattle.cic_terms.specs.Tree.{Tree, ind}
use Rattle.cic_names.specs.declared.name.GlobalId.{GlobalId}
use Rattle.cic_rules.specs.Environment.{Context, ConstructorDeclaration, TypeDeclaration, assumed}
use Rattle.cic_rules.specs.Telescopes.{apply, domains_of, extend, head_of, lift_all, substitute_all, variables}
use Rattle.cic_counted.specs.Inference.{Calls, are_branches, branch_goal, check_branches, eliminates, expose, infer_match}
use Rattle.cic_counted.specs.Outcome.{Counted, bad_branch_count, fitting, fitting_all, not_inductive, require, ◌>>=◌, ◌>>◌}
use Rattle.cic_counted.specs.Readings.{arguments_of, instantiate}
use Rattle.cic_counted.specs.Sameness.{same_tree}
use Rattle.cic_env.specs.Declarations.{type_declaration}
use Rattle.cic_spines.specs.Lists.{shared_tree}
use Rattle.cic_typing.specs.declared.matches.Match.{Match}

-- A branch has its type under its constructor's arguments.
abbrev pub check_branch : Calls → Context → (a : ℕ) → (parameters : List Tree) → (motive : Tree) → ConstructorDeclaration → Tree → Counted (Unit {0})
check_branch calls G a parameters p c t = do
  as_ ← fitting_all (domains_of (instantiate parameters c.type))
  goal ← fitting (branch_goal a parameters p c)
  calls.check (extend G as_) t goal

-- The motive has a sort into which the type eliminates.
abbrev pub check_motive : Calls → Context → GlobalId → (r a : ℕ) → (parameters : List Tree) → (motive : Tree) → TypeDeclaration → Counted (Unit {0})
check_motive calls G id r a us p t = do
  indices ← fitting_all (domains_of (instantiate us t.arity))
  parameters ← fitting_all (lift_all a us)
  s ← calls.sort_of (assumed (apply (ind id) (parameters ++ variables a)) ∷ extend G indices) p
  eliminates calls id r t s

-- What is left when the parameters and the indices' values are known.
abbrev pub match_with : Calls → Context → Match → (parameters values : List Tree) → Counted Tree
match_with calls G m us vs = do
  check_motive calls G m.ind.now m.parameters m.indices us (shared_tree m.motive.now) (type_declaration m.ty.now)
  check_branches calls G m.indices us (shared_tree m.motive.now) (type_declaration m.ty.now).constructors (branch_list m.branches.now)
  fitting (substitute_all (vs ++ shared_tree m.scrutinee.now ∷ []) (shared_tree m.motive.now))

-- What is left when the value has the type of the match.
abbrev pub match_under : Calls → Context → Match → Tree → Counted Tree
match_under calls G m C = match_with calls G m (take m.parameters (arguments_of C)) (drop m.parameters (arguments_of C))

-- What is left when the value's type is exposed.
abbrev pub match_at : Calls → Context → Match → Tree → Counted Tree
match_at calls G m C = do
  require (same_tree (head_of C) (ind m.ind.now) && nat_eq (length (arguments_of C)) (m.parameters + m.indices)) (not_inductive (length G) C)
  require (nat_eq m.arity m.indices && are_branches m.parameters (type_declaration m.ty.now).constructors (branch_list m.branches.now)) (bad_branch_count m.ind.now)
  match_under calls G m C

-- The typing of a match of the program, step by step, and as it is defined.
abbrev pub match_steps : (Tree → Counted Tree) → Calls → Context → Match → Counted Tree
match_steps whnf calls G m = do
  T ← calls.infer G (shared_tree m.scrutinee.now)
  C ← expose whnf calls G T
  match_at calls G m C

abbrev pub typed_match : (Tree → Counted Tree) → Calls → Context → Match → Counted Tree
typed_match whnf calls G m =
    infer_match whnf calls G m.ind.now m.arity (shared_tree m.motive.now) (shared_tree m.scrutinee.now) (branch_list m.branches.now) m.parameters m.indices (type_declaration m.ty.now)
