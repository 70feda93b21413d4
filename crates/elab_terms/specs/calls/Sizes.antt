-- How large what is written is: the walk over it ends since each part is smaller.
use Rattle.std.specs.Prelude.{ℕ, ◌+◌, ◌<◌}
use Rattle.gal_grammar.specs.Terms as S
use Rattle.gal_grammar.specs.Terms.{prop, set, type_any, type_at, ref, app, arrow, prod, func, let_in, fix_of, match_of, Groups, no_groups, group, Functions, no_functions, function, Branches, no_branches, branch}
use Rattle.gal_raw.specs.Denotes.{tree, applied_row}
use Rattle.gal_raw.specs.declared.terms.Raw.{Raw, Application' as Applied'}

abbrev mutual
  pub size : S.Raw → ℕ
  size prop = 1
  size set = 1
  size type_any = 1
  size (type_at x) = 1
  size (ref x) = 1
  size (app f u) = size f + size u + 1
  size (arrow a b) = size a + size b + 1
  size (prod gs b) = size_groups gs + size b + 1
  size (func gs b) = size_groups gs + size b + 1
  size (let_in x gs a t u) = size_groups gs + size a + size t + size u + 1
  size (fix_of fs x) = size_functions fs + 1
  size (match_of v x i m bs) = size v + size m + size_branches bs + 2

  pub size_groups : Groups → ℕ
  size_groups no_groups = 0
  size_groups (group gs xs a) = size_groups gs + size a + 1

  pub size_functions : Functions → ℕ
  size_functions no_functions = 0
  size_functions (function fs f gs s a t) = size_functions fs + size_groups gs + size a + size t + 1

  pub size_branches : Branches → ℕ
  size_branches no_branches = 0
  size_branches (branch bs c xs t) = size_branches bs + size t + 1

-- No term applied to no arguments.
abbrev pub IsBare : Raw → Type 0
IsBare (Applied' _ f _ row) = size (tree f) < size (applied_row (tree f) row)
IsBare raw = Unit {0}
