-- Reading terms. `sub` reads a term one level below.
use Rattle.std.specs.Prelude.{ℕ, zero, suc, ◌+◌, List, [], ◌∷◌, ◌++◌, length, false, if◌then◌else◌, ◌==◌, nat_lt}
use Rattle.cic_names.specs.declared.name.GlobalId.{GlobalId}
use Rattle.cic_names.specs.declared.level.Level.TheVariants.{Named}
use Rattle.seg_format.specs.declared.faults.Defect.TheVariants.{Short, Tag, Number, Depth}
use Rattle.cic_terms.specs.Tree.{prop, set, typ, Shape, many, Tree, rel, Children, no_child, child, sort, prod, lam, let_in, app, const, ind, ctor, case, fix, join}
use Rattle.term_format.specs.Storable.{most_number, most_levels}
use Rattle.term_format.specs.Reading.{Reading, value, wrong, and_then, if_right, read_byte, read_number, read_limited, read_id, read_level_name}

-- How terms of the next level are read.
abbrev pub Sub : Type 0
Sub = List ℕ → Reading Tree

abbrev pub read_variable : List ℕ → Reading Tree
read_variable bytes = and_then (read_limited most_number bytes) (λ n rest. value (rel n) rest)

abbrev pub read_type : List ℕ → Reading Tree
read_type bytes = and_then (read_level_name bytes) (λ l rest. value (sort (typ (record { level = Named l; plus = false } ∷ []))) rest)

abbrev pub read_global : (GlobalId → Tree) → List ℕ → Reading Tree
read_global make bytes = and_then (read_id bytes) (λ id rest. value (make id) rest)

abbrev pub read_pair : Sub → (Tree → Tree → Tree) → List ℕ → Reading Tree
read_pair sub make bytes =
    and_then (sub bytes) (λ a rest.
    and_then (sub rest) (λ b rest.
    value (make a b) rest))

abbrev pub read_let : Sub → List ℕ → Reading Tree
read_let sub bytes =
    and_then (sub bytes) (λ body rest.
    and_then (sub rest) (λ ty rest.
    and_then (sub rest) (λ more rest.
    value (let_in body ty more) rest)))

-- So many branches of a match.
abbrev pub read_branches : Sub → (count : ℕ) → List ℕ → Reading Children
read_branches sub zero bytes = value no_child bytes
read_branches sub (suc count) bytes =
    and_then (read_limited most_number bytes) (λ binders rest.
    and_then (sub rest) (λ t rest.
    and_then (read_branches sub count rest) (λ branches rest.
    value (child (many binders) t branches) rest)))

abbrev pub read_case : Sub → List ℕ → Reading Tree
read_case sub bytes =
    and_then (read_id bytes) (λ id rest.
    and_then (read_limited most_number rest) (λ arity rest.
    and_then (sub rest) (λ motive rest.
    and_then (sub rest) (λ scrutinee rest.
    and_then (read_number rest) (λ count rest.
    and_then (read_branches sub count rest) (λ branches rest.
    value (case id arity motive scrutinee branches) rest))))))

-- So many domains of a function, the first of them under `above` binders.
abbrev pub read_domains : Sub → (above count : ℕ) → List ℕ → Reading Children
read_domains sub above zero bytes = value no_child bytes
read_domains sub above (suc count) bytes =
    and_then (sub bytes) (λ t rest.
    and_then (read_domains sub (above + 1) count rest) (λ domains rest.
    value (child (many above) t domains) rest))

-- Functions of a fix, as their shapes and parts.
pub record Functions : Type 0 where
  pub shapes : List Shape
  pub parts : Children

-- The shape of a function: the number of its recursive domain, which is one of its domains, and how many there are.
abbrev pub read_shape : List ℕ → Reading Shape
read_shape bytes =
    and_then (read_number bytes) (λ k rest.
    and_then (read_number rest) (λ count rest.
    if_right (nat_lt k count) Number bytes (value (record { k = k; domains = count }) rest)))

-- A function of a fix that has `all` of them.
abbrev pub read_function : Sub → (all : ℕ) → List ℕ → Reading Functions
read_function sub all bytes =
    and_then (read_shape bytes) (λ s rest.
    and_then (read_domains sub 0 s.domains rest) (λ domains rest.
    and_then (sub rest) (λ codomain rest.
    and_then (sub rest) (λ body rest.
    value (record {
      shapes = s ∷ [];
      parts = join domains (child (many s.domains) codomain (child (many (all + s.domains)) body no_child));
    }) rest))))

-- One function and the others.
abbrev pub with_more : Functions → Functions → Functions
with_more f fs = record { shapes = f.shapes ++ fs.shapes; parts = join f.parts fs.parts }

-- So many functions of a fix that has `all` of them.
abbrev pub read_functions : Sub → (all count : ℕ) → List ℕ → Reading Functions
read_functions sub all zero bytes = value (record { shapes = []; parts = no_child }) bytes
read_functions sub all (suc count) bytes =
    and_then (read_function sub all bytes) (λ f rest.
    and_then (read_functions sub all count rest) (λ fs rest.
    value (with_more f fs) rest))

-- A fix has at least one function, and names one that it has.
abbrev pub read_fix : Sub → List ℕ → Reading Tree
read_fix sub bytes =
    and_then (read_number bytes) (λ which after.
    and_then (read_number after) (λ count rest.
    if_right (nat_lt 0 count) Number after (
    if_right (nat_lt which count) Number bytes (
    and_then (read_functions sub count count rest) (λ fs rest.
    value (fix which fs.shapes fs.parts) rest)))))

-- What follows the byte of a term's kind, by the rows of the table. `bytes` begin with that byte.
unfoldable pub row_of : Sub → (bytes : List ℕ) → (tag : ℕ) → List ℕ → Reading Tree
row_of sub bytes tag rest =
    if tag == 0 then read_variable rest
    else if tag == 1 then value (sort prop) rest
    else if tag == 2 then value (sort set) rest
    else if tag == 3 then read_type rest
    else if tag == 4 then read_pair sub prod rest
    else if tag == 5 then read_pair sub lam rest
    else if tag == 6 then read_let sub rest
    else if tag == 7 then read_pair sub app rest
    else if tag == 8 then read_global const rest
    else if tag == 9 then read_global ind rest
    else if tag == 10 then read_global ctor rest
    else if tag == 11 then read_case sub rest
    else if tag == 12 then read_fix sub rest
    else wrong Tag (length bytes)

-- Where no level is left, a byte that is there is too deep, whatever it is.
abbrev pub too_deep : Sub
too_deep [] = wrong Short 0
too_deep (b ∷ rest) = wrong Depth (length (b ∷ rest))

-- A term of at most `room` levels.
unfoldable pub read_term : (room : ℕ) → Sub
read_term zero bytes = too_deep bytes
read_term (suc room) bytes = and_then (read_byte bytes) (row_of (read_term room) bytes)

-- A term as a library file has it.
abbrev pub read_whole_term : List ℕ → Reading Tree
read_whole_term = read_term most_levels
