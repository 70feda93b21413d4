-- The term that a value of the program stands for.
use Rattle.std.specs.Prelude.{List, [], ◌∷◌, map}
use Rattle.std.specs.Option.{option_map}
use Rattle.gal_grammar.specs.Terms as S
use Rattle.gal_raw.specs.declared.names.Identifier.{Identifier}
use Rattle.gal_raw.specs.declared.names.QualifiedName.{QualifiedName}
use Rattle.gal_raw.specs.declared.names.QualifiedName.TheVariants.{Short, Long}
use Rattle.gal_raw.specs.declared.names.Binder.{Binder}
use Rattle.gal_raw.specs.declared.names.Binder.TheVariants.{Bound, Blank}
use Rattle.gal_raw.specs.declared.names.Within.{Within}
use Rattle.gal_raw.specs.declared.terms.Raw.{Raw, Prop, Set, «Type», TypeAt, Reference, Application' as Applied', Arrow', Product', Abstraction', Let', Fix', Match'}
use Rattle.gal_raw.specs.declared.terms.FixOf.{FixOf, FixOf'}
use Rattle.gal_raw.specs.declared.terms.LetIn.{LetIn, LetIn'}
use Rattle.gal_raw.specs.declared.terms.MatchOf.{MatchOf, MatchOf'}
use Rattle.gal_raw.specs.declared.terms.Application.{Application, Row_of-Raw, end_of-Raw, more_of-Raw}
use Rattle.gal_raw.specs.declared.terms.Groups.{Groups, Groups', Row_of-Group, end_of-Group, more_of-Group}
use Rattle.gal_raw.specs.declared.terms.Functions.{Functions, Functions', Row_of-Function, end_of-Function, more_of-Function}
use Rattle.gal_raw.specs.declared.terms.Function.{Function, Function'}
use Rattle.gal_raw.specs.declared.terms.Branches.{Branches, Branches', Row_of-Branch, end_of-Branch, more_of-Branch}

abbrev pub identifier : Identifier → S.Named
identifier x = S.named x.place x.text.now

abbrev pub qualified : QualifiedName → S.Qual
qualified (Short x) = S.short x.place x.text.now
qualified (Long x) = S.long x.place x.text.now

abbrev pub binder : Binder → S.Binder
binder (Bound x) = S.bound (identifier x)
binder Blank = S.blank

abbrev pub within : Within → S.Within
within i = S.within (qualified i.inductive) (map binder i.names.items)

abbrev mutual
  pub tree : Raw → S.Raw
  tree Prop = S.prop
  tree Set = S.set
  tree «Type» = S.type_any
  tree (TypeAt x) = S.type_at (qualified x)
  tree (Reference x) = S.ref (qualified x)
  tree (Applied' _ f _ row) = applied_row (tree f) row
  tree (Arrow' _ a b) = S.arrow (tree a) (tree b)
  tree (Product' g _ b) = S.prod (groups g) (tree b)
  tree (Abstraction' g _ b) = S.func (groups g) (tree b)
  tree (Let' _ x) = let_in x
  tree (Fix' _ x) = fix_of x
  tree (Match' _ x) = match_of x

  pub fix_of : FixOf → S.Raw
  fix_of (FixOf' fs x) = S.fix_of (functions fs) (option_map identifier x)

  pub let_in : LetIn → S.Raw
  let_in (LetIn' x g a t u) = S.let_in (identifier x) (groups g) (tree a) (tree t) (tree u)

  pub match_of : MatchOf → S.Raw
  match_of (MatchOf' t x i m bs) = S.match_of (tree t) (option_map binder x) (option_map within i) (tree m) (branches bs)

  pub applied_row : {n : _} → S.Raw → Row_of-Raw n → S.Raw
  applied_row f end_of-Raw = f
  applied_row f (more_of-Raw t rest) = applied_row (S.app f (tree t)) rest

  pub groups : Groups → S.Groups
  groups (Groups' _ row) = group_row S.no_groups row

  pub group_row : {n : _} → S.Groups → Row_of-Group n → S.Groups
  group_row g end_of-Group = g
  group_row g (more_of-Group bs t rest) = group_row (S.group g (map binder bs.items) (tree t)) rest

  pub functions : Functions → S.Functions
  functions (Functions' _ row) = function_row S.no_functions row

  pub function_row : {n : _} → S.Functions → Row_of-Function n → S.Functions
  function_row f end_of-Function = f
  function_row f (more_of-Function x rest) = function_row (function f x) rest

  pub function : S.Functions → Function → S.Functions
  function f (Function' n g o a t) = S.function f (identifier n) (groups g) (option_map identifier o) (tree a) (tree t)

  pub branches : Branches → S.Branches
  branches (Branches' _ row) = branch_row S.no_branches row

  pub branch_row : {n : _} → S.Branches → Row_of-Branch n → S.Branches
  branch_row b end_of-Branch = b
  branch_row b (more_of-Branch c xs t rest) = branch_row (S.branch b (qualified c) (map binder xs.items) (tree t)) rest

-- each argument applied behind the other
abbrev pub applied : S.Raw → List Raw → S.Raw
applied f [] = f
applied f (t ∷ ts) = applied (S.app f (tree t)) ts

abbrev pub application : Application → S.Raw
application x = applied (tree x.head.value) x.arguments.items
