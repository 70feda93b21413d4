-- The tests of a block of inductive types: its shape and its positivity, each with the first place at fault.
use Rattle.std.specs.Prelude.{ℕ, ◌+◌, ◌-◌, Bool, true, false, not, ◌&&◌, ◌||◌, nat_eq, nat_le, if◌then◌else◌, Option, Some, None, is_none, option_map, List, [], ◌∷◌, length, take, drop}
use Rattle.std.specs.List.{list_any}
use Rattle.cic_terms.specs.Tree.{TreeSort, prop, set, typ, own, Former, ConstF, IndF, CtorF, CaseF, Tree, rel, node, Children, no_child, child, sort, prod, ind}
use Rattle.cic_names.specs.declared.name.GlobalId.{GlobalId}
use Rattle.std.specs.Cmp.Lexicographic.{pointwise}
use Rattle.cic_counted.specs.Sameness.{same_tree}
use Rattle.cic_rules.specs.Environment.{Block, TypeDeclaration, ConstructorDeclaration, bare_ids, or_else}
use Rattle.cic_rules.specs.Telescopes.{is_among, head_of, domains_of, conclusion_of, variables, lift_all}
use Rattle.cic_rules.specs.Numbering.{plain_level}
use Rattle.cic_counted.specs.Readings.{arguments_of}
use Rattle.cic_counted.specs.Outcome.{next_number}

-- Whether a sort is Prop, Set or Typ of one plain level.
abbrev pub is_plain_sort : TreeSort → Bool
is_plain_sort prop = true
is_plain_sort set = true
is_plain_sort (typ e) = not (is_none (plain_level e))
is_plain_sort (own i) = false

abbrev pub is_plain_sort_term : Tree → Bool
is_plain_sort_term (sort s) = is_plain_sort s
is_plain_sort_term t = false

abbrev pub same_trees : List Tree → List Tree → Bool
same_trees = pointwise same_tree

-- The parameters' domains of a block with r parameters, as its first type has them.
abbrev pub parameter_domains : (r : ℕ) → List TypeDeclaration → List Tree
parameter_domains r [] = []
parameter_domains r (t ∷ ts) = take r (domains_of t.arity)

-- The number of indices of a type.
abbrev pub index_count : (r : ℕ) → TypeDeclaration → ℕ
index_count r t = length (domains_of t.arity) - r

-- Whether an arity is at least r products, the first r with these domains, and then a plain sort.
abbrev pub is_arity : (r : ℕ) → (domains : List Tree) → Tree → Bool
is_arity r domains arity =
    nat_le r (length (domains_of arity))
    && same_trees (take r (domains_of arity)) domains
    && is_plain_sort_term (conclusion_of arity)

-- The r parameters as variables, in order, under `count` more binders.
abbrev pub parameter_variables : (r count : ℕ) → List Tree
parameter_variables r count = lift_all count (variables r)

-- Whether the type of a constructor of type `id` is at least r products with these domains, and then
-- the type applied to the parameters and to `indices` further terms.
abbrev pub is_constructor_type : (r : ℕ) → (domains : List Tree) → GlobalId → (indices : ℕ) → Tree → Bool
is_constructor_type r domains id indices type =
    nat_le r (length (domains_of type))
    && same_trees (take r (domains_of type)) domains
    && same_tree (head_of (conclusion_of type)) (ind id)
    && nat_eq (length (arguments_of (conclusion_of type))) (r + indices)
    && same_trees (take r (arguments_of (conclusion_of type))) (parameter_variables r (length (domains_of type) - r))

-- What is wrong with the shape of a block: type `index`, or constructor `place` of it.
pub data ShapeFault : Type 0 where
  bad_arity_at : (index : ℕ) → ShapeFault
  bad_constructor_at : (index place : ℕ) → ShapeFault

abbrev pub arity_fault : (r : ℕ) → (domains : List Tree) → (index : ℕ) → List TypeDeclaration → Option ShapeFault
arity_fault r domains index [] = None
arity_fault r domains index (t ∷ ts) =
    if is_arity r domains t.arity then arity_fault r domains (index + 1) ts else Some (bad_arity_at index)

abbrev pub constructor_fault : (r : ℕ) → (domains : List Tree) → TypeDeclaration → (index place : ℕ) → List ConstructorDeclaration → Option ShapeFault
constructor_fault r domains t index place [] = None
constructor_fault r domains t index place (c ∷ cs) =
    if is_constructor_type r domains t.id (index_count r t) c.type
    then constructor_fault r domains t index (place + 1) cs
    else Some (bad_constructor_at index place)

abbrev pub constructors_fault : (r : ℕ) → (domains : List Tree) → (index : ℕ) → List TypeDeclaration → Option ShapeFault
constructors_fault r domains index [] = None
constructors_fault r domains index (t ∷ ts) =
    or_else (constructor_fault r domains t index 0 t.constructors) (constructors_fault r domains (index + 1) ts)

-- The first place where a block has not the shape: arities before constructors, each in order.
abbrev pub shape_fault : Block → Option ShapeFault
shape_fault block =
    or_else
    (arity_fault block.parameters (parameter_domains block.parameters block.types) 0 block.types)
    (constructors_fault block.parameters (parameter_domains block.parameters block.types) 0 block.types)

abbrev pub is_shaped : Block → Bool
is_shaped block = is_none (shape_fault block)

abbrev pub former_has : List GlobalId → Former → Bool
former_has ids (ConstF id) = is_among id ids
former_has ids (IndF id) = is_among id ids
former_has ids (CtorF id) = is_among id ids
former_has ids (CaseF id) = is_among id ids
former_has ids f = false

-- Whether one of these ids occurs in a term. The id of a match counts.
abbrev mutual
  pub occurs : List GlobalId → Tree → Bool
  occurs ids (rel x) = false
  occurs ids (node f ks) = former_has ids f || occurs_in_children ids ks

  pub occurs_in_children : List GlobalId → Children → Bool
  occurs_in_children ids no_child = false
  occurs_in_children ids (child b t ks) = occurs ids t || occurs_in_children ids ks

abbrev pub occurs_in_any : List GlobalId → List Tree → Bool
occurs_in_any ids = list_any (occurs ids)

-- Whether a term is one of these types.
abbrev pub is_type_among : List GlobalId → Tree → Bool
is_type_among ids (ind id) = is_among id ids
is_type_among ids t = false

-- Whether a term is one of these types applied to terms in which none of them occurs.
abbrev pub is_applied_among : List GlobalId → Tree → Bool
is_applied_among ids t = is_type_among ids (head_of t) && not (occurs_in_any ids (arguments_of t))

-- Whether these types are strictly positive in a term as written.
abbrev pub is_strictly_positive : List GlobalId → Tree → Bool
is_strictly_positive ids (prod a b) =
    not (occurs ids (prod a b)) || (not (occurs ids a) && is_strictly_positive ids b)
is_strictly_positive ids t = not (occurs ids t) || is_applied_among ids t

-- A constructor that is not strictly positive, with the first argument at fault, counted from 1, or 0
-- for the conclusion.
pub record PositivityFault : Type 0 where
  pub index : ℕ
  pub place : ℕ
  pub argument : ℕ

abbrev pub argument_fault : (Tree → Bool) → (argument : ℕ) → List Tree → Option ℕ
argument_fault test argument [] = None
argument_fault test argument (a ∷ as_) =
    if test a then argument_fault test (next_number argument) as_ else Some argument

abbrev pub conclusion_fault : List GlobalId → (r : ℕ) → Tree → Option ℕ
conclusion_fault ids r conclusion = if occurs_in_any ids (drop r (arguments_of conclusion)) then Some 0 else None

abbrev pub constructor_positivity_fault : (Tree → Bool) → List GlobalId → (r index place : ℕ) → List ConstructorDeclaration → Option PositivityFault
constructor_positivity_fault test ids r index place [] = None
constructor_positivity_fault test ids r index place (c ∷ cs) =
    or_else
    (option_map (λ argument. record { index = index; place = place; argument = argument })
    (or_else (argument_fault test 1 (drop r (domains_of c.type))) (conclusion_fault ids r (conclusion_of c.type))))
    (constructor_positivity_fault test ids r index (place + 1) cs)

abbrev pub type_positivity_fault : (Tree → Bool) → List GlobalId → (r index : ℕ) → List TypeDeclaration → Option PositivityFault
type_positivity_fault test ids r index [] = None
type_positivity_fault test ids r index (t ∷ ts) =
    or_else (constructor_positivity_fault test ids r index 0 t.constructors) (type_positivity_fault test ids r (index + 1) ts)

-- The first constructor of a block that is not strictly positive, without nested types.
abbrev pub positivity_fault : Block → Option PositivityFault
positivity_fault block =
    type_positivity_fault (is_strictly_positive (bare_ids block.types)) (bare_ids block.types) block.parameters 0 block.types
