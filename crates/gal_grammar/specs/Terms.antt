-- Terms as they are written, with names that are not looked up yet. Coq Reference Manual, "Essential vocabulary", terms.
use Rattle.std.specs.Prelude.{ℕ, List, Option}

-- an identifier: its place in the source and its text
pub data Named : Type 0 where
  named : (place : ℕ) (text : List ℕ) → Named

-- a name: an identifier, or identifiers joined by dots
pub data Qual : Type 0 where
  short : (place : ℕ) (text : List ℕ) → Qual
  long : (place : ℕ) (text : List ℕ) → Qual

-- a binder's name, or `_`
pub data Binder : Type 0 where
  bound : Named → Binder
  blank : Binder

-- behind the word `in` of a match
pub data Within : Type 0 where
  within : Qual → List Binder → Within

mutual
  pub data Raw : Type 0 where
    prop : Raw
    set : Raw
    type_any : Raw
    type_at : Qual → Raw
    ref : Qual → Raw
    app : Raw → Raw → Raw
    arrow : Raw → Raw → Raw
    prod : Groups → Raw → Raw
    func : Groups → Raw → Raw
    -- name, groups, type, body, rest
    let_in : Named → Groups → Raw → Raw → Raw → Raw
    -- the name behind `for`
    fix_of : Functions → Option Named → Raw
    -- value, `as`, `in`, motive, branches
    match_of : Raw → Option Binder → Option Within → Raw → Branches → Raw

  -- each list has its last part on the outside
  pub data Groups : Type 0 where
    no_groups : Groups
    group : Groups → List Binder → Raw → Groups

  -- name, groups, the name behind `struct`, type, body
  pub data Functions : Type 0 where
    no_functions : Functions
    function : Functions → Named → Groups → Option Named → Raw → Raw → Functions

  pub data Branches : Type 0 where
    no_branches : Branches
    branch : Branches → Qual → List Binder → Raw → Branches
