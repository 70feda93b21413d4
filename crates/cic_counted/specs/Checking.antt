-- The check of one declaration (Coq Reference Manual, "Typing rules" and "Inductive definitions": the
-- conditions under which an environment may be extended; how they are counted is this project's own).
use Rattle.std.specs.Prelude.{ℕ, ◌-◌, if◌then◌else◌, Option, Some, None, option_map, option_and_then, List, [], ◌∷◌, ◌++◌, take, drop}
use Rattle.cic_terms.specs.Tree.{TreeSort, Tree, sort}
use Rattle.cic_names.specs.declared.name.GlobalId.{GlobalId}
use Rattle.cic_names.specs.declared.constraint.Constraint.{Constraint}
use Rattle.cic_rules.specs.Environment.{Environment, Context, Declaration, axiom_of, transparent, opaque, inductive, Block, TypeDeclaration, ConstructorDeclaration, bare, assumed, element}
use Rattle.cic_rules.specs.Telescopes.{domains_of, conclusion_of, extend}
use Rattle.cic_counted.specs.BlockTests.{ShapeFault, bad_arity_at, bad_constructor_at, shape_fault, PositivityFault}
use Rattle.cic_counted.specs.NestedTest.{nested_fault}
use Rattle.cic_counted.specs.Outcome.{Counted, Outcome, done, stops, Stopped, Cause, bad_arity, bad_constructor, not_positive, ◌>>=◌, ◌>>◌, give, or_refuse, refuse_for}
use Rattle.cic_counted.specs.Evaluation.{sorts_at_most}
use Rattle.cic_counted.specs.Inference.{Calls, calls_from, is_prop}

-- What an accepted declaration needs: the constraints that everyone sees, those of an opaque body,
-- and the steps that its check took.
pub record Found : Type 0 where
  pub visible : List Constraint
  pub proofs : List Constraint
  pub steps : ℕ

-- The answer of a check.
pub data Answer : Type 0 where
  accepts : Found → Answer
  rejects : Stopped → Answer

-- The constraints found, in their two sets.
pub record Split : Type 0 where
  pub visible : List Constraint
  pub proofs : List Constraint

-- The constraints found so far, which then start anew.
abbrev pub take_found : Counted (List Constraint)
take_found = λ b. done b.found (record { rest = b.rest; found = [] })

-- All constraints found so far are visible.
abbrev pub all_visible : Counted Split
all_visible = do
  visible ← take_found
  give (record { visible = visible; proofs = [] })

-- Why a block is refused for its shape, and for its positivity.
abbrev pub constructor_id : Block → (index place : ℕ) → Option GlobalId
constructor_id block index place =
    option_and_then (λ t. option_map (λ c. c.id) (element t.constructors place)) (element block.types index)

abbrev pub shape_cause : Block → ShapeFault → Option Cause
shape_cause block (bad_arity_at index) = option_map (λ t. bad_arity t.id) (element block.types index)
shape_cause block (bad_constructor_at index place) = option_map bad_constructor (constructor_id block index place)

abbrev pub positivity_cause : Block → PositivityFault → Option Cause
positivity_cause block fault =
    option_map (λ id. not_positive id fault.argument) (constructor_id block fault.index fault.place)

-- Each arity has a sort.
abbrev pub check_arities : Calls → List TypeDeclaration → Counted (Unit {0})
check_arities calls [] = give tt
check_arities calls (t ∷ ts) = do
  calls.sort_of [] t.arity
  check_arities calls ts

-- The sort of an argument is at most that of the type, unless the type is a proposition.
abbrev pub argument_at_most : Context → (argument type : TreeSort) → Counted (Unit {0})
argument_at_most G s s' = if is_prop s' then give tt else sorts_at_most G s s'

abbrev pub check_arguments : Calls → Context → (type : TreeSort) → (arguments : List Tree) → (conclusion : Tree) → Counted (Unit {0})
check_arguments calls G s [] conclusion = do
  calls.sort_of G conclusion
  give tt
check_arguments calls G s (a ∷ as_) conclusion = do
  s' ← calls.sort_of G a
  argument_at_most G s' s
  check_arguments calls (assumed a ∷ G) s as_ conclusion

-- The sort that an arity ends in. An arity of the right shape ends in one.
abbrev pub ending_sort : Tree → Option TreeSort
ending_sort (sort s) = Some s
ending_sort t = None

abbrev pub check_constructor : Calls → (r : ℕ) → Option TreeSort → ConstructorDeclaration → Counted (Unit {0})
check_constructor calls r s c = do
  s' ← or_refuse s (bad_constructor c.id)
  check_arguments calls (extend [] (take r (domains_of c.type))) s' (drop r (domains_of c.type)) (conclusion_of c.type)

abbrev pub check_constructors : Calls → (r : ℕ) → Option TreeSort → List ConstructorDeclaration → Counted (Unit {0})
check_constructors calls r s [] = give tt
check_constructors calls r s (c ∷ cs) = do
  check_constructor calls r s c
  check_constructors calls r s cs

abbrev pub check_types : Calls → (r : ℕ) → List TypeDeclaration → Counted (Unit {0})
check_types calls r [] = give tt
check_types calls r (t ∷ ts) = do
  check_constructors calls r (ending_sort (conclusion_of t.arity)) t.constructors
  check_types calls r ts

-- A block: its shape, its arities, its positivity, and its constructors over its types taken bare. `calls` are
-- the counted functions of typing over an environment.
abbrev pub check_block_by : (calls : Environment → Calls) → Environment → Block → Counted (Unit {0})
check_block_by calls E block = do
  refuse_for (option_and_then (shape_cause block) (shape_fault block))
  check_arities (calls E) block.types
  refuse_for (option_and_then (positivity_cause block) (nested_fault E block))
  check_types (calls (E ++ bare block ∷ [])) block.parameters block.types

-- A declaration over the earlier ones: a type has a sort, and a body has its type. The constraints of
-- an opaque body are kept apart from the others.
abbrev pub judge_by : (calls : Environment → Calls) → Environment → Declaration → Counted Split
judge_by calls E (axiom_of id type) = do
  (calls E).sort_of [] type
  all_visible
judge_by calls E (transparent id type body) = do
  (calls E).sort_of [] type
  (calls E).check [] body type
  all_visible
judge_by calls E (opaque id type None) = do
  (calls E).sort_of [] type
  all_visible
judge_by calls E (opaque id type (Some body)) = do
  (calls E).sort_of [] type
  visible ← take_found
  (calls E).check [] body type
  proofs ← take_found
  give (record { visible = visible; proofs = proofs })
judge_by calls E (inductive block) = do
  check_block_by calls E block
  all_visible

abbrev pub check_block : Environment → Block → Counted (Unit {0})
check_block = check_block_by (calls_from 1)

abbrev pub judge : Environment → Declaration → Counted Split
judge = judge_by (calls_from 1)

abbrev pub answer_of : (budget : ℕ) → Outcome Split → Answer
answer_of budget (done split b) =
    accepts (record { visible = split.visible; proofs = split.proofs; steps = budget - b.rest })
answer_of budget (stops s) = rejects s

-- The check of a declaration over an environment within a budget of steps.
unfoldable pub check_declaration : Environment → Declaration → (budget : ℕ) → Answer
check_declaration E d budget = answer_of budget (judge E d (record { rest = budget; found = [] }))
