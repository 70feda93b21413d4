-- The functions of a fix, as they are written and as they are read.
use Rattle.std.specs.Prelude.{ℕ, ◌++◌, ◌<◌, ◌^◌, List, [], ◌∷◌}
use Rattle.cic_names.specs.Orders.{digits}
use Rattle.cic_terms.specs.Tree.{Shape, many, Children, child, no_child}
use Rattle.cic_terms.specs.Denotes.{tree, terms, bodies, shapes, body_list, body_parts, domain_count, shape, shape_list}
use Rattle.cic_terms.specs.declared.term.FixBodies.{FixBodies}
use Rattle.cic_terms.specs.declared.term.Branch.{Branch}
use Rattle.cic_terms.specs.declared.term.FixBody.{FixBody}
use Rattle.term_format.specs.Spelling.{joined, part_bytes, term_bytes}
use Rattle.term_format.specs.TermReading.{Sub, Functions}
use Rattle.term_format.specs.Storable.{most_number, HasRow, HaveRows}
use Rattle.term_format.specs.Reading.{Reading, value, and_then, read_limited}

-- The bytes of one function, and of functions, one after another.
abbrev pub one_bytes : FixBody → List ℕ
one_bytes b = digits b.k ++ (digits (domain_count b) ++ (joined (part_bytes (terms b.domains)) ++ (term_bytes (tree b.codomain) ++ term_bytes (tree b.body))))

abbrev pub all_bytes : List FixBody → List ℕ
all_bytes [] = []
all_bytes (b ∷ bs) = one_bytes b ++ all_bytes bs

-- What is asked of functions that are written.
pub record Writable (b : FixBody) : Type 0 where
  pub few : domain_count b < 2 ^ 32
  pub domains : HaveRows (terms b.domains)
  pub codomain : HasRow (tree b.codomain)
  pub body : HasRow (tree b.body)

abbrev pub AreWritable : List FixBody → Type 0
AreWritable [] = Unit {0}
AreWritable (b ∷ bs) = Writable b × AreWritable bs

-- The shapes and parts of functions of a fix that has `all` of them.
abbrev pub functions_of : (all : ℕ) → List FixBody → Functions
functions_of all bs = record { shapes = shape_list bs; parts = body_list all bs }

abbrev pub functions_in : FixBodies → Functions
functions_in all = record { shapes = shapes all; parts = bodies all }

-- The shape of a function that has these numbers.
abbrev pub shape_of : ℕ × ℕ → Shape
shape_of s = record { k = s.0; domains = s.1 }

-- A branch as a list of one, and how one is read.
abbrev pub branch_of : Branch → Children
branch_of b = child (many b.binders) (tree b.body) no_child

abbrev pub read_branch : Sub → List ℕ → Reading Children
read_branch sub bytes =
    and_then (read_limited most_number bytes) (λ binders rest.
    and_then (sub rest) (λ t rest.
    value (child (many binders) t no_child) rest))

-- One function.
abbrev pub function_of : (all : ℕ) → FixBody → Functions
function_of all b = record { shapes = shape b ∷ []; parts = body_parts all b }
