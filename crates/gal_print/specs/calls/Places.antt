-- Texts of what the code prints in one call.
use Rattle.std.specs.Prelude.{ℕ, ◌+◌, List, ◌++◌, map, codes, drop, length, Bool}
use Rattle.cic_terms.specs.Tree.{Tree, Children}
use Rattle.cic_names.specs.declared.name.GlobalId.{GlobalId}
use Rattle.cic_terms.specs.Denotes.{tree, terms, domain_count}
use Rattle.cic_terms.specs.declared.term.FixBody.{FixBody}
use Rattle.cic_rules.specs.Environment.{Environment}
use Rattle.gal_print.specs.Heads as known
use Rattle.gal_print.specs.Printing as where_it_stands
use Rattle.gal_print.specs.Printing.{alone, function_place, argument_place}
use Rattle.gal_print.specs.Printing.{text, parts, under, name_text, names_text, parameters_text, head_text, branches_text, functions_text, in_place, domains_text, parts_use}
use Rattle.gal_print.specs.calls.Names.{at}
use Rattle.gal_print.specs.declared.heads.Heads.{Heads}
use Rattle.gal_print.specs.declared.printing.Place.{Place}
use Rattle.gal_print.specs.declared.printing.Place.TheVariants.{Alone, Function, Argument}

abbrev pub place_of : Place → where_it_stands.Place
place_of Alone = alone
place_of Function = function_place
place_of Argument = argument_place

abbrev pub heads_of : Heads → known.Heads
heads_of h = record { parameters = h.params; constructors = map (λ c. c.id) h.ctors.now }

-- The next binder with its type.
abbrev pub type_text : Environment → Tree → (names : List ℕ) → (next : ℕ) → List ℕ
type_text E t names next = name_text next ++ codes " : " ++ text E t names next

-- What stands before the body of branch i.
abbrev pub branch_head : known.Heads → (i binders next : ℕ) → List ℕ
branch_head h i binders next =
    codes " | " ++ head_text (drop i h.constructors) ++ parameters_text h.parameters ++ names_text next binders ++ codes " => "

-- The codomain and the body of a function of a fix.
abbrev pub result_of : Environment → (all : ℕ) → where_it_stands.Place → FixBody → (names : List ℕ) → (next : ℕ) → List ℕ
result_of E all place one names next =
    text E (tree one.codomain) (under (next + all) (domain_count one) names) (next + all + domain_count one)
    ++ codes " := "
    ++ in_place place (tree one.body) (text E (tree one.body) (under (next + all) (domain_count one) (under next all names)) (next + all + domain_count one))

abbrev pub struct_text : (number : ℕ) → List ℕ
struct_text number = codes " {struct " ++ name_text number ++ codes "} : "

-- A function of a fix.
abbrev pub function_of : Environment → (all : ℕ) → where_it_stands.Place → (number : ℕ) → FixBody → (names : List ℕ) → (next : ℕ) → List ℕ
function_of E all place number one names next =
    name_text number ++ domains_text (parts E (terms one.domains)) names (next + all) ++ struct_text (next + all + one.k) ++ result_of E all place one names next

-- What a match with these branches tells of its type, and the branches.
abbrev pub known_heads : Environment → GlobalId → Children → known.Heads
known_heads E id branches = known.heads E id (length (parts E branches))

abbrev pub all_branches_text : Environment → GlobalId → Children → (names : List ℕ) → (next : ℕ) → List ℕ
all_branches_text E id branches names next =
    branches_text (known_heads E id branches).parameters (known_heads E id branches).constructors (parts E branches) names next

-- The binder of a number is used in parts of a term.
abbrev pub parts_uses : (names : List ℕ) → Children → (number : ℕ) → Bool
parts_uses names ks i = at names i (λ x. parts_use x ks)
