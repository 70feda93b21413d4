-- A library A with the prefix P. It requires B and imports B and C, and has declared
--   Inductive N : Set := O : N | S : N -> N.
--   Inductive V (a : Set) : N -> Set := nil : V a O.
--   Universe u.
-- B declares x, y and the level w; C declares x and z.
use Rattle.std.specs.Prelude.{ℕ, Some, List, [], ◌∷◌, codes, false}
use Rattle.cic_names.specs.declared.name.GlobalId.{GlobalId}
use Rattle.cic_terms.specs.Tree as T
use Rattle.cic_terms.specs.Tree.{Tree}
use Rattle.cic_rules.specs.Environment.{Environment, Item, declared, axiom_of, inductive, Block}
use Rattle.gal_grammar.specs.Terms.{named, Qual, short, long, Binder, bound, Raw, ref, Groups, no_groups, group}
use Rattle.gal_scoping.specs.Scopes.{Scope}
use Rattle.gal_scoping.specs.Names.{Place}
use Rattle.gal_scoping.specs.Levels.{Owner}
use Rattle.gal_scoping.specs.Declarations.{Before}

abbrev pub id : (library name : List ℕ) → GlobalId
id library name = record { lib = library; name = name }

abbrev pub N : GlobalId
N = id (codes "A") (codes "N")

abbrev pub O : GlobalId
O = id (codes "A") (codes "O")

abbrev pub S : GlobalId
S = id (codes "A") (codes "S")

abbrev pub V : GlobalId
V = id (codes "A") (codes "V")

abbrev pub nil : GlobalId
nil = id (codes "A") (codes "nil")

abbrev pub numbers : Block
numbers = record {
  parameters = 0;
  types = record {
    id = N;
    arity = T.sort T.set;
    constructors = record { id = O; type = T.ind N } ∷ record { id = S; type = T.prod (T.ind N) (T.ind N) } ∷ [];
  } ∷ [];
}

abbrev pub vectors : Block
vectors = record {
  parameters = 1;
  types = record {
    id = V;
    arity = T.prod (T.sort T.set) (T.prod (T.ind N) (T.sort T.set));
    constructors = record { id = nil; type = T.prod (T.sort T.set) (T.app (T.app (T.ind V) (T.rel 0)) (T.ctor O)) } ∷ [];
  } ∷ [];
}

abbrev pub an_axiom : (library name : List ℕ) → Item
an_axiom library name = declared (axiom_of (id library name) (T.sort T.prop))

abbrev pub environment : Environment
environment =
    an_axiom (codes "B") (codes "x") ∷ an_axiom (codes "B") (codes "y") ∷ an_axiom (codes "C") (codes "x") ∷ an_axiom (codes "C") (codes "z")
    ∷ declared (inductive numbers) ∷ declared (inductive vectors) ∷ []

abbrev pub scope : Scope
scope = record {
  library = codes "A";
  prefix = Some (codes "P");
  allowed = record { library = codes "B"; levels = codes "w" ∷ [] } ∷ [];
  brought = id (codes "B") (codes "x") ∷ id (codes "B") (codes "y") ∷ id (codes "C") (codes "x") ∷ id (codes "C") (codes "z") ∷ id (codes "B") (codes "y") ∷ [];
  brought_levels = id (codes "B") (codes "w") ∷ [];
  own = codes "N" ∷ codes "O" ∷ codes "S" ∷ codes "V" ∷ codes "nil" ∷ [];
  own_levels = codes "u" ∷ [];
}

abbrev pub place : Place
place = record { scope = scope; environment = environment; fresh = [] }

abbrev pub owner : Owner
owner = record { name = codes "d"; opaque = false }

-- Nothing has taken a level yet.
abbrev pub before : Before
before = record { scope = scope; variables = []; environment = environment; taken = λ _. 0 }

-- What is written, at places that do not matter here.
abbrev pub name : List ℕ → Qual
name text = short 0 text

abbrev pub dotted : List ℕ → Qual
dotted text = long 0 text

abbrev pub a_name : List ℕ → Raw
a_name text = ref (name text)

abbrev pub called : List ℕ → Binder
called text = bound (named 0 text)

-- One group of one name.
abbrev pub of_type : List ℕ → Raw → Groups
of_type x a = group no_groups (called x ∷ []) a
