-- How a term is printed (Coq Reference Manual, "Term grammar"; the names of binders and the `_` of a match
-- are this project's own). Every term has one text over an environment.
use Rattle.std.specs.Prelude.{ℕ, zero, suc, ◌+◌, ◌-◌, ◌==◌, List, [], ◌∷◌, ◌++◌, length, take, drop, Bool, true, false, ◌||◌, if◌then◌else◌, nat_le, codes, decimal}
use Rattle.cic_terms.specs.Tree.{Former, SortF, ProdF, LamF, AppF, LetF, ConstF, IndF, CtorF, CaseF, FixF, Shape, Tree, rel, node, Children, no_child, child, over}
use Rattle.cic_names.specs.declared.name.GlobalId.{GlobalId}
use Rattle.cic_names.specs.Texts.{id_text}
use Rattle.cic_rules.specs.Environment.{Environment}
use Rattle.gal_print.specs.Sorts.{sort_text}
use Rattle.gal_print.specs.Heads.{Heads, heads}

-- Variable x is used in a term.
abbrev mutual
  pub is_used : (x : ℕ) → Tree → Bool
  is_used x (rel y) = y == x
  is_used x (node f ks) = parts_use x ks

  pub parts_use : (x : ℕ) → Children → Bool
  parts_use x no_child = false
  parts_use x (child b t ks) = is_used (over b x) t || parts_use x ks

-- A binder is named by its number.
abbrev pub name_text : ℕ → List ℕ
name_text n = codes "x" ++ decimal n

-- A variable, where the binders around it have these numbers, the innermost first. One of no binder is
-- printed by what its number is past them.
abbrev pub variable_text : (names : List ℕ) → (x : ℕ) → List ℕ
variable_text [] x = codes "?" ++ decimal x
variable_text (n ∷ names) zero = name_text n
variable_text (n ∷ names) (suc x) = variable_text names x

-- So many binders inside of others, numbered from `first` on.
abbrev pub under : (first count : ℕ) → (names : List ℕ) → List ℕ
under first zero names = names
under first (suc n) names = (first + n) ∷ under first n names

-- The names of so many binders, each behind a blank.
abbrev pub names_text : (first count : ℕ) → List ℕ
names_text first zero = []
names_text first (suc n) = names_text first n ++ (codes " " ++ name_text (first + n))

-- A `_` for each parameter.
abbrev pub parameters_text : ℕ → List ℕ
parameters_text zero = []
parameters_text (suc n) = codes " _" ++ parameters_text n

-- Where a part stands: by itself; as a function, left of an arrow, or before a `with`; or as an argument.
pub data Place : Type 0 where
  alone function_place argument_place : Place

abbrev pub is_atom : Tree → Bool
is_atom (rel x) = true
is_atom (node (SortF s) ks) = true
is_atom (node (ConstF id) ks) = true
is_atom (node (IndF id) ks) = true
is_atom (node (CtorF id) ks) = true
is_atom (node (CaseF id) ks) = true
is_atom t = false

abbrev pub is_application : Tree → Bool
is_application (node AppF ks) = true
is_application t = false

-- An atom needs no parentheses, and an application none as a function, left of an arrow or before a `with`.
abbrev pub stands_bare : Place → Tree → Bool
stands_bare alone t = true
stands_bare function_place t = is_atom t || is_application t
stands_bare argument_place t = is_atom t

abbrev pub in_place : Place → Tree → (text : List ℕ) → List ℕ
in_place place t text = if stands_bare place t then text else (codes "(" ++ text ++ codes ")")

-- A part of a term: how many binders it stands under, and its text where the binders around it have these
-- numbers, the innermost first, and the next binder takes that number.
pub record Part : Type 0 where
  pub binders : ℕ
  pub tree : Tree
  pub text : (names : List ℕ) → (next : ℕ) → List ℕ

-- A part under so many binders, which take the next numbers.
abbrev pub text_under : (count : ℕ) → Part → (names : List ℕ) → (next : ℕ) → List ℕ
text_under count part names next = part.text (under next count names) (next + count)

abbrev pub text_in : Place → Part → (names : List ℕ) → (next : ℕ) → List ℕ
text_in place part names next = in_place place part.tree (part.text names next)

-- The next binder with its type.
abbrev pub typed_text : Part → (names : List ℕ) → (next : ℕ) → List ℕ
typed_text type names next = name_text next ++ codes " : " ++ type.text names next

-- A product. One whose variable is not used is printed as an arrow; its binder takes its number all the same.
abbrev pub product_text : (used : Bool) → (domain codomain : Part) → (names : List ℕ) → (next : ℕ) → List ℕ
product_text true a b names next =
    codes "forall " ++ typed_text a names next ++ codes ", " ++ text_under 1 b names next
product_text false a b names next =
    text_in function_place a names next ++ codes " -> " ++ text_under 1 b names next

-- The branches of a match: one whose constructor is not known is for `?`.
abbrev pub head_text : List GlobalId → List ℕ
head_text [] = codes "?"
head_text (id ∷ ids) = id_text id

abbrev pub branches_text : (parameters : ℕ) → (constructors : List GlobalId) → (branches : List Part) → (names : List ℕ) → (next : ℕ) → List ℕ
branches_text parameters constructors [] names next = []
branches_text parameters constructors (b ∷ bs) names next =
    codes " | " ++ head_text constructors ++ parameters_text parameters ++ names_text next b.binders ++ codes " => " ++ text_under b.binders b names next
    ++ branches_text parameters (drop 1 constructors) bs names next

-- A match. Its motive stands under the indices and then the value.
abbrev pub match_text : GlobalId → Heads → (indices : ℕ) → (motive value : Part) → (branches : List Part) → (names : List ℕ) → (next : ℕ) → List ℕ
match_text id known indices motive value branches names next =
    codes "match " ++ value.text names next ++ codes " as " ++ name_text (next + indices)
    ++ codes " in " ++ id_text id ++ parameters_text known.parameters ++ names_text next indices
    ++ codes " return " ++ text_under (indices + 1) motive names next
    ++ codes " with" ++ branches_text known.parameters known.constructors branches names next ++ codes " end"

-- The domains of a function, each under the earlier ones.
abbrev pub domains_text : List Part → (names : List ℕ) → (next : ℕ) → List ℕ
domains_text [] names next = []
domains_text (d ∷ ds) names next =
    codes " (" ++ typed_text d names next ++ codes ")" ++ domains_text ds (next ∷ names) (next + 1)

-- The codomain of a function under its domains, and its body under all functions and then the domains. The
-- numbers of the domains come after those of all functions.
abbrev pub result_text : (all domains : ℕ) → Place → List Part → (names : List ℕ) → (next : ℕ) → List ℕ
result_text all domains place (codomain ∷ body ∷ others) names next =
    text_under domains codomain names (next + all)
    ++ codes " := " ++ in_place place body.tree (text_under domains body (under next all names) (next + all))
result_text all domains place parts names next = []

-- A function of a fix, by its name and its parts. Its domains do not stand under the functions.
abbrev pub function_text : (all : ℕ) → Shape → Place → (number : ℕ) → List Part → (names : List ℕ) → (next : ℕ) → List ℕ
function_text all shape place number parts names next =
    name_text number ++ domains_text (take shape.domains parts) names (next + all)
    ++ codes " {struct " ++ name_text (next + all + shape.k) ++ codes "} : "
    ++ result_text all shape.domains place (drop shape.domains parts) names next

-- The functions from one on, of `all`, which have the numbers from `next` on. The parts of each stand behind
-- those of the one before.
abbrev pub functions_text : (all : ℕ) → List Shape → (number : ℕ) → List Part → (names : List ℕ) → (next : ℕ) → List ℕ
functions_text all [] number parts names next = []
functions_text all (s ∷ []) number parts names next = function_text all s alone number parts names next
functions_text all (s ∷ ss) number parts names next =
    function_text all s function_place number parts names next
    ++ codes " with " ++ functions_text all ss (number + 1) (drop (s.domains + 2) parts) names next

-- Which function a fix of several is.
abbrev pub which_text : (all number : ℕ) → List ℕ
which_text all number = if nat_le 2 all then (codes " for " ++ name_text number) else []

-- A term of a former and its parts. No term of the program has other parts than these.
abbrev pub layout : Environment → Former → List Part → (names : List ℕ) → (next : ℕ) → List ℕ
layout E (SortF s) [] names next = sort_text s
layout E (ConstF id) [] names next = id_text id
layout E (IndF id) [] names next = id_text id
layout E (CtorF id) [] names next = id_text id
layout E ProdF (a ∷ b ∷ []) names next = product_text (is_used 0 b.tree) a b names next
layout E LamF (a ∷ b ∷ []) names next =
    codes "fun " ++ typed_text a names next ++ codes " => " ++ text_under 1 b names next
layout E LetF (t ∷ a ∷ u ∷ []) names next =
    codes "let " ++ typed_text a names next ++ codes " := " ++ t.text names next ++ codes " in " ++ text_under 1 u names next
layout E AppF (f ∷ a ∷ []) names next =
    text_in function_place f names next ++ codes " " ++ text_in argument_place a names next
layout E (CaseF id) (motive ∷ value ∷ branches) names next =
    match_text id (heads E id (length branches)) (motive.binders - 1) motive value branches names next
layout E (FixF which shapes) parts names next =
    let all = length shapes in
    codes "fix " ++ functions_text all shapes next parts names next ++ which_text all (next + which)
layout E f parts names next = []

abbrev mutual
  pub text : Environment → Tree → (names : List ℕ) → (next : ℕ) → List ℕ
  text E (rel x) = λ names next. variable_text names x
  text E (node f ks) = layout E f (parts E ks)

  pub parts : Environment → Children → List Part
  parts E no_child = []
  parts E (child b t ks) = record { binders = over b 0; tree = t; text = text E t } ∷ parts E ks

-- A term in a context of so many entries, which are named first.
abbrev pub term_text : Environment → (depth : ℕ) → Tree → List ℕ
term_text E depth t = text E t (under 0 depth []) depth
