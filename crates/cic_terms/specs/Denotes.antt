-- The tree that a term of the program stands for.
use Rattle.std.specs.Prelude.{ℕ, suc, ◌+◌, List, [], ◌∷◌, length}
use Rattle.cic_terms.specs.Tree.{TreeSort, prop, set, typ, Shape, Tree, rel, Children, no_child, child, sort, prod, lam, let_in, app, const, ind, ctor, case, fix, join, many}
use Rattle.cic_names.specs.declared.level.Sort.{Sort}
use Rattle.cic_names.specs.declared.level.Sort.TheVariants.{Prop, Set, Typ}
use Rattle.cic_terms.specs.declared.term.Term.{Term, Rel, Sort as SortTerm, Prod', Lam', Let', App', Const, Ind, Ctor, Case', Fix'}
use Rattle.cic_terms.specs.declared.term.Branches.{Branches, Branches', Row_of-Branch, end_of-Branch, more_of-Branch}
use Rattle.cic_terms.specs.declared.term.FixBodies.{FixBodies, FixBodies', Row_of-FixBody, end_of-FixBody, more_of-FixBody, Row_of-Term, end_of-Term, more_of-Term}
use Rattle.cic_terms.specs.declared.term.Branch.{Branch}
use Rattle.cic_terms.specs.declared.term.Terms.{Terms}
use Rattle.cic_terms.specs.declared.term.FixBody.{FixBody}

abbrev pub tree_sort : Sort → TreeSort
tree_sort Prop = prop
tree_sort Set = set
tree_sort (Typ e) = typ e

-- how many
abbrev pub count_terms : {n : _} → Row_of-Term n → ℕ
count_terms end_of-Term = 0
count_terms (more_of-Term t rest) = suc (count_terms rest)

abbrev pub count_bodies : {n : _} → Row_of-FixBody n → ℕ
count_bodies end_of-FixBody = 0
count_bodies (more_of-FixBody k _ ds c b rest) = suc (count_bodies rest)

abbrev pub shape_row : {n : _} → Row_of-FixBody n → List Shape
shape_row end_of-FixBody = []
shape_row (more_of-FixBody k _ ds c b rest) = record { k = k; domains = count_terms ds } ∷ shape_row rest

abbrev pub shapes : FixBodies → List Shape
shapes (FixBodies' _ row) = shape_row row

abbrev mutual
  pub tree : Term → Tree
  tree (Rel n) = rel n
  tree (SortTerm s) = sort (tree_sort s)
  tree (Prod' _ a _ b) = prod (tree a) (tree b)
  tree (Lam' _ a _ b) = lam (tree a) (tree b)
  tree (Let' _ t _ a _ b) = let_in (tree t) (tree a) (tree b)
  tree (App' _ f _ x) = app (tree f) (tree x)
  tree (Const id) = const id
  tree (Ind id) = ind id
  tree (Ctor id) = ctor id
  tree (Case' n id _ p _ c _ bs) = case id n (tree p) (tree c) (branches bs)
  tree (Fix' w _ bs) = fix w (shapes bs) (bodies bs)

  -- the branches, each under its arguments
  pub branches : Branches → Children
  branches (Branches' _ row) = branch_row row

  -- the parts of all functions
  pub bodies : FixBodies → Children
  bodies (FixBodies' _ row) = body_row (count_bodies row) row

  pub branch_row : {n : _} → Row_of-Branch n → Children
  branch_row end_of-Branch = no_child
  branch_row (more_of-Branch n t rest) = child (many n) (tree t) (branch_row rest)

  -- the domains, each under the earlier ones
  pub term_row : {n : _} → ℕ → Row_of-Term n → Children
  term_row above end_of-Term = no_child
  term_row above (more_of-Term t rest) = child (many above) (tree t) (term_row (above + 1) rest)

  -- the codomain stands under the domains, and the body under all functions and the domains
  pub body_row : {n : _} → ℕ → Row_of-FixBody n → Children
  body_row all end_of-FixBody = no_child
  body_row all (more_of-FixBody k _ ds c b rest) =
      join (term_row 0 ds) (child (many (count_terms ds)) (tree c) (child (many (all + count_terms ds)) (tree b) (body_row all rest)))

-- the same of lists
abbrev pub branch_list : List Branch → Children
branch_list [] = no_child
branch_list (b ∷ bs) = child (many b.binders) (tree b.body) (branch_list bs)

abbrev pub term_list : ℕ → List Term → Children
term_list above [] = no_child
term_list above (t ∷ ts) = child (many above) (tree t) (term_list (above + 1) ts)

abbrev pub terms : Terms → Children
terms ts = term_list 0 ts.items.items

abbrev pub domain_count : FixBody → ℕ
domain_count b = length b.domains.items.items

-- the parts of a function, where there are `all` of them
abbrev pub body_parts : ℕ → FixBody → Children
body_parts all b = join (terms b.domains) (child (many (domain_count b)) (tree b.codomain) (child (many (all + domain_count b)) (tree b.body) no_child))

abbrev pub body_list : ℕ → List FixBody → Children
body_list all [] = no_child
body_list all (b ∷ bs) = join (body_parts all b) (body_list all bs)

abbrev pub shape : FixBody → Shape
shape b = record { k = b.k; domains = domain_count b }

abbrev pub shape_list : List FixBody → List Shape
shape_list [] = []
shape_list (b ∷ bs) = shape b ∷ shape_list bs
