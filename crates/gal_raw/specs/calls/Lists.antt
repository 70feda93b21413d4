-- What the items of a list in a term stand for, in order.
use Rattle.std.specs.Prelude.{List, [], ◌∷◌, map}
use Rattle.gal_grammar.specs.Terms as S
use Rattle.gal_raw.specs.Denotes.{tree, qualified, binder, function}
use Rattle.gal_raw.specs.declared.terms.Group.{Group}
use Rattle.gal_raw.specs.declared.terms.Function.{Function}
use Rattle.gal_raw.specs.declared.terms.Branch.{Branch}

abbrev pub group_list : S.Groups → List Group → S.Groups
group_list g [] = g
group_list g (x ∷ xs) = group_list (S.group g (map binder x.binders.items) (tree x.ty)) xs

abbrev pub function_list : S.Functions → List Function → S.Functions
function_list f [] = f
function_list f (x ∷ xs) = function_list (function f x) xs

abbrev pub branch_list : S.Branches → List Branch → S.Branches
branch_list b [] = b
branch_list b (x ∷ xs) = branch_list (S.branch b (qualified x.constructor) (map binder x.names.items) (tree x.body)) xs
