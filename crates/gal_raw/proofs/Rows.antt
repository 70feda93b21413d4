-- The parts of a `Vec` are those of the list of its items, and one more stands behind the others.
use Rattle.std.proofs.Common.{◌≡◌, List, [], ◌∷◌, ◌++◌, refl, sym, ap, ◌∙◌, map}
use Rattle.std.proofs.lemmas.List.{map-append}
use Rattle.std.specs.Option.{option_map}
use Rattle.gal_grammar.specs.Terms as S
use Rattle.gal_raw.specs.Denotes.{tree, identifier, binder, qualified, application, applied, applied_row, groups, group_row, functions, function, function_row, branches, branch_row}
use Rattle.gal_raw.specs.calls.Lists.{group_list, function_list, branch_list}
use Rattle.gal_raw.specs.declared.terms.Raw.{Raw, Application as Applied}
use Rattle.gal_raw.specs.declared.terms.Group.{Group}
use Rattle.gal_raw.specs.declared.terms.Function.{Function, Function-F, roll-Function}
use Rattle.gal_raw.specs.declared.terms.Branch.{Branch}
use Rattle.gal_raw.specs.declared.terms.Application.{Application, Row_of-Raw, end_of-Raw, more_of-Raw, items-the_row-Raw, items_hidden-the_row-Raw-0}
use Rattle.gal_raw.specs.declared.terms.Raw.TheBlock.{hidden-the_row-Raw-0}
use Rattle.gal_raw.specs.declared.terms.Groups.{Groups, Groups-F, Groups', out-Groups, roll-Groups, out-roll-Groups, outs-Groups', Row_of-Group, end_of-Group, more_of-Group, items-the_row-Group, items_shown-the_row-Group-3}
use Rattle.gal_raw.specs.declared.terms.Functions.{Functions, Functions-F, Functions', out-Functions, roll-Functions, out-roll-Functions, outs-Functions', Row_of-Function, end_of-Function, more_of-Function, items-the_row-Function, items_shown-the_row-Function-2}
use Rattle.gal_raw.specs.declared.terms.Branches.{Branches, Branches-F, Branches', out-Branches, roll-Branches, out-roll-Branches, outs-Branches', Row_of-Branch, end_of-Branch, more_of-Branch, items-the_row-Branch, items_shown-the_row-Branch-1}
use denote.Hole.Carrier.{roll}

applied_row-list : (n : _) (f : S.Raw) (row : Row_of-Raw n) → applied_row f row ≡ applied f (items-the_row-Raw n row)
applied_row-list n f end_of-Raw = refl
applied_row-list n f (more_of-Raw t rest) = applied_row-list _ (S.app f (tree t)) rest

pub application_roll : (x : Application) → tree (Applied x) ≡ application x
application_roll x =
    applied_row-list _ (tree x.head.value) (hidden-the_row-Raw-0 x.arguments) ∙ ap (applied (tree x.head.value)) (items_hidden-the_row-Raw-0 x.arguments)

pub applied_more : (f : S.Raw) (xs : List Raw) (x : Raw) → applied f (xs ++ (x ∷ [])) ≡ S.app (applied f xs) (tree x)
applied_more f [] x = refl
applied_more f (y ∷ xs) x = applied_more (S.app f (tree y)) xs x

group_row-list : (n : _) (g : S.Groups) (row : Row_of-Group n) → group_row g row ≡ group_list g (items-the_row-Group n row)
group_row-list n g end_of-Group = refl
group_row-list n g (more_of-Group bs t rest) = group_row-list _ (S.group g (map binder bs.items) (tree t)) rest

pub groups_out : (gs : Groups) → groups gs ≡ group_list S.no_groups (out-Groups gs).items.items
groups_out (Groups' x row) =
    group_row-list _ S.no_groups row ∙ ap (group_list S.no_groups) (sym (items_shown-the_row-Group-3 x row))
    ∙ ap (λ r. group_list S.no_groups r.items.items) (sym (outs-Groups' x row))

pub groups_roll : (r : Groups-F _ _ _ _ _ _ _ _ _ _ _ _) → groups (roll-Groups r) ≡ group_list S.no_groups r.items.items
groups_roll r = groups_out (roll-Groups r) ∙ ap (λ r. group_list S.no_groups r.items.items) (out-roll-Groups r)

pub group_more : (g : S.Groups) (xs : List Group) (x : Group) → group_list g (xs ++ (x ∷ [])) ≡ S.group (group_list g xs) (map binder x.binders.items) (tree x.ty)
group_more g [] x = refl
group_more g (y ∷ xs) x = group_more (S.group g (map binder y.binders.items) (tree y.ty)) xs x

function_row-list : (n : _) (g : S.Functions) (row : Row_of-Function n) → function_row g row ≡ function_list g (items-the_row-Function n row)
function_row-list n g end_of-Function = refl
function_row-list n g (more_of-Function x rest) = function_row-list _ (function g x) rest

pub functions_out : (gs : Functions) → functions gs ≡ function_list S.no_functions (out-Functions gs).items.items
functions_out (Functions' x row) =
    function_row-list _ S.no_functions row ∙ ap (function_list S.no_functions) (sym (items_shown-the_row-Function-2 x row))
    ∙ ap (λ r. function_list S.no_functions r.items.items) (sym (outs-Functions' x row))

pub functions_roll : (r : Functions-F _ _ _ _ _ _ _ _ _ _ _ _) → functions (roll-Functions r) ≡ function_list S.no_functions r.items.items
functions_roll r = functions_out (roll-Functions r) ∙ ap (λ r. function_list S.no_functions r.items.items) (out-roll-Functions r)

pub function_more : (g : S.Functions) (xs : List Function) (x : Function) → function_list g (xs ++ (x ∷ [])) ≡ function (function_list g xs) x
function_more g [] x = refl
function_more g (y ∷ xs) x = function_more (function g y) xs x

pub function_roll : (g : S.Functions) (r : Function-F _ _ _ _ _ _ _ _ _ _ _ _) → function g (roll-Function r) ≡ S.function g (identifier r.name) (groups r.groups) (option_map identifier r.structural) (tree r.ty) (tree r.body)
unfolding roll-Function roll
function_roll g r = refl

branch_row-list : (n : _) (g : S.Branches) (row : Row_of-Branch n) → branch_row g row ≡ branch_list g (items-the_row-Branch n row)
branch_row-list n g end_of-Branch = refl
branch_row-list n g (more_of-Branch c bs t rest) = branch_row-list _ (S.branch g (qualified c) (map binder bs.items) (tree t)) rest

pub branches_out : (gs : Branches) → branches gs ≡ branch_list S.no_branches (out-Branches gs).items.items
branches_out (Branches' x row) =
    branch_row-list _ S.no_branches row ∙ ap (branch_list S.no_branches) (sym (items_shown-the_row-Branch-1 x row))
    ∙ ap (λ r. branch_list S.no_branches r.items.items) (sym (outs-Branches' x row))

pub branches_roll : (r : Branches-F _ _ _ _ _ _ _ _ _ _ _ _) → branches (roll-Branches r) ≡ branch_list S.no_branches r.items.items
branches_roll r = branches_out (roll-Branches r) ∙ ap (λ r. branch_list S.no_branches r.items.items) (out-roll-Branches r)

pub branch_more : (g : S.Branches) (xs : List Branch) (x : Branch) → branch_list g (xs ++ (x ∷ [])) ≡ S.branch (branch_list g xs) (qualified x.constructor) (map binder x.names.items) (tree x.body)
branch_more g [] x = refl
branch_more g (y ∷ xs) x = branch_more (S.branch g (qualified y.constructor) (map binder y.names.items) (tree y.body)) xs x

pub map_more : {A B : Type 0} (f : A → B) (xs : List A) (x : A) → map f (xs ++ (x ∷ [])) ≡ map f xs ++ (f x ∷ [])
map_more f xs x = map-append f xs (x ∷ [])
