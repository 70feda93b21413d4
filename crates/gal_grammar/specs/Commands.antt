-- Commands as they are written. Coq Reference Manual, "The Gallina specification language" and "Vernacular".
use Rattle.std.specs.Prelude.{ℕ, List, Option}
use Rattle.gal_grammar.specs.Terms.{Named, Qual, Raw, Groups, Functions}

pub data Level : Type 0 where
  level_set : Level
  level_of : Qual → Level

pub data Relation : Type 0 where
  less : Relation
  at_most : Relation
  equal : Relation

pub data Cons : Type 0 where
  cons : Level → Relation → Level → Cons

pub data Ctor : Type 0 where
  ctor : Named → Groups → Option Raw → Ctor

pub data Ind : Type 0 where
  ind : Named → Groups → Raw → List Ctor → Ind

pub data Flag : Type 0 where
  plain : Flag
  import : Flag
  export : Flag

pub data Using : Type 0 where
  not_said : Using
  using_type : Using
  using_all : Using
  using_names : List Named → Using

pub data How : Type 0 where
  qed : How
  defined : How
  given_up : How

pub data Proof : Type 0 where
  proof : Using → Raw → How → Proof
  no_proof : Using → Proof

pub data Command : Type 0 where
  require : Option Named → Flag → List Qual → Command
  universe : List Named → Command
  constraint : List Cons → Command
  axiom_of : Groups → Command
  variable_of : Groups → Command
  definition : Named → Groups → Raw → Raw → Command
  definition_by : Named → Groups → Raw → Proof → Command
  local_of : Named → Groups → Raw → Raw → Command
  fixpoint : Functions → Command
  inductive : List Ind → Command
  theorem : Named → Groups → Raw → Proof → Command
  section : Named → Command
  finish : Named → Command
