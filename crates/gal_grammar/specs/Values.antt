-- The values that a reading makes.
use Rattle.std.specs.Prelude.{ℕ, List, ◌∷◌, Option}
use Rattle.gal_grammar.specs.Tokens.{Token}
use Rattle.gal_grammar.specs.Tokens as T
use Rattle.gal_grammar.specs.Tests.{Test, ident, qualid, name}
use Rattle.gal_grammar.specs.Terms.{Binder, Branches, Functions, Groups, Named, Qual, Raw, Within, blank, bound, long, named, short}
use Rattle.gal_grammar.specs.Commands.{Command, Cons, Ctor, Flag, Ind, Level, Proof, Relation, Using}

-- what is read so far, the last on top
pub data Val : Type 0 where
  a_name : Named → Val
  a_qual : Qual → Val
  a_binder : Binder → Val
  names : List Named → Val
  quals : List Qual → Val
  binders : List Binder → Val
  maybe_name : Option Named → Val
  maybe_binder : Option Binder → Val
  maybe_within : Option Within → Val
  term : Raw → Val
  maybe_term : Option Raw → Val
  groups : Groups → Val
  functions : Functions → Val
  branches : Branches → Val
  ctors : List Ctor → Val
  inds : List Ind → Val
  a_level : Level → Val
  a_relation : Relation → Val
  conses : List Cons → Val
  flag : Flag → Val
  using : Using → Val
  a_proof : Proof → Val
  commands : List Command → Val

-- the value of a token
abbrev pub puts : Test → Token → List Val → List Val
puts ident (T.ident p x) vs = a_name (named p x) ∷ vs
puts qualid (T.ident p x) vs = a_qual (short p x) ∷ vs
puts qualid (T.path p x) vs = a_qual (long p x) ∷ vs
puts name (T.ident p x) vs = a_binder (bound (named p x)) ∷ vs
puts name (T.mark m) vs = a_binder blank ∷ vs
puts _ _ vs = vs
