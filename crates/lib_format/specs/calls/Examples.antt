-- What the examples speak of: declarations and libraries, and bytes written out by the table.
use Rattle.std.specs.Prelude.{ℕ, List, [], ◌∷◌, ◌++◌, codes}
use Rattle.cic_names.specs.declared.name.GlobalId.{GlobalId}
use Rattle.cic_terms.specs.Tree.{Tree, set, sort, prod, ind}
use Rattle.cic_rules.specs.Environment.{Block}
use Rattle.lib_format.specs.declared.stored.NeedFlag.{NeedFlag}
use Rattle.lib_format.specs.declared.stored.Need.{Need}
use Rattle.lib_format.specs.Contents.{LibraryContents}

-- An id of the library `A`.
abbrev pub of_A : List ℕ → GlobalId
of_A name = record { lib = codes "A"; name = name }

-- `n`, with `o : n` and `s : n -> n`.
abbrev pub the_type : Tree
the_type = ind (of_A (codes "n"))

abbrev pub numbers : Block
numbers = record {
  parameters = 0;
  types = record {
    id = of_A (codes "n");
    arity = sort set;
    constructors = record { id = of_A (codes "o"); type = the_type } ∷ record { id = of_A (codes "s"); type = prod the_type the_type } ∷ [];
  } ∷ [];
}

abbrev pub type_n : List ℕ
type_n = 9 ∷ 1 ∷ 65 ∷ 1 ∷ 110 ∷ []

-- Its bytes, where the second constructor has the name of one byte.
abbrev pub numbers_with : ℕ → List ℕ
numbers_with name =
    (4 ∷ 0 ∷ 0 ∷ 0 ∷ 0 ∷ 0 ∷ 0 ∷ 0 ∷ 1 ∷ 1 ∷ 110 ∷ 2 ∷ 0 ∷ 0 ∷ 0 ∷ 2 ∷ 1 ∷ 111 ∷ [])
    ++ type_n ++ (1 ∷ name ∷ 4 ∷ []) ++ type_n ++ type_n

-- The library `A` that requires these, and has nothing else.
abbrev pub requiring : List Need → LibraryContents
requiring needs = record { name = codes "A"; needs = needs; levels = []; declarations = []; visible = [] }

abbrev pub need_of : NeedFlag → List ℕ → Need
need_of flag lib = record { flag = flag; lib = lib }

-- No item, four times.
abbrev pub zeros : List ℕ
zeros = 0 ∷ 0 ∷ 0 ∷ 0 ∷ []
