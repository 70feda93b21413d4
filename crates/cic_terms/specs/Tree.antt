-- Terms as finite trees: a former over parts, each under a number of binders.
use Rattle.std.specs.Prelude.{ℕ, ◌+◌, List}
use Rattle.cic_names.specs.declared.level.Atom.{Atom}
use Rattle.cic_names.specs.declared.name.GlobalId.{GlobalId}

-- `own` is a universe that a derivation brings; no term of the program has it
pub data TreeSort : Type 0 where
  prop set : TreeSort
  typ : List Atom → TreeSort
  own : ℕ → TreeSort

-- a function of a Fix has its recursive domain and its number of domains
pub record Shape : Type 0 where
  pub k : ℕ
  pub domains : ℕ

pub data Former : Type 0 where
  SortF : TreeSort → Former
  ProdF LamF AppF LetF : Former
  ConstF IndF CtorF CaseF : GlobalId → Former
  FixF : (which : ℕ) → List Shape → Former

-- a number of binders. A pattern may name `none`, `one` and `more n`, but no numeral.
pub data Binders : Type 0 where
  none one : Binders
  many : ℕ → Binders
  more : ℕ → Binders

abbrev pub over : Binders → ℕ → ℕ
over none k = k
over one k = k + 1
over (many n) k = k + n
over (more n) k = k + (n + 1)

mutual
  pub data Tree : Type 0 where
    rel : ℕ → Tree
    node : Former → Children → Tree

  -- the parts of a term, each with the number of binders that it stands under
  pub data Children : Type 0 where
    no_child : Children
    child : Binders → Tree → Children → Children

pattern abbrev pub sort : TreeSort → Tree
sort s = node (SortF s) no_child

pattern abbrev pub prod : Tree → Tree → Tree
prod a b = node ProdF (child none a (child one b no_child))

pattern abbrev pub lam : Tree → Tree → Tree
lam a b = node LamF (child none a (child one b no_child))

pattern abbrev pub let_in : Tree → Tree → Tree → Tree
let_in t a u = node LetF (child none t (child none a (child one u no_child)))

pattern abbrev pub app : Tree → Tree → Tree
app f u = node AppF (child none f (child none u no_child))

pattern abbrev pub const : GlobalId → Tree
const c = node (ConstF c) no_child

pattern abbrev pub ind : GlobalId → Tree
ind c = node (IndF c) no_child

pattern abbrev pub ctor : GlobalId → Tree
ctor c = node (CtorF c) no_child

-- the motive stands under the indices and the value, each branch under its arguments
pattern abbrev pub case : GlobalId → ℕ → Tree → Tree → Children → Tree
case id arity motive value branches = node (CaseF id) (child (more arity) motive (child none value branches))

pattern abbrev pub fix : ℕ → List Shape → Children → Tree
fix which shapes parts = node (FixF which shapes) parts

abbrev pub join : Children → Children → Children
join no_child others = others
join (child b t ks) others = child b t (join ks others)
