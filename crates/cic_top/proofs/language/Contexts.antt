-- Contexts and types of the language.
use Rattle.std.specs.Prelude.{List, [], ◌∷◌, map}
use Rattle.cic_terms.specs.Tree.{Tree, sort}
use Rattle.cic_rules.specs.Environment.{Context, assumed}
use Rattle.cic_top.specs.Language.{TermOfLanguage, IsUniverse}

-- The types of the variables of a context, each a term of the language.
abbrev pub AreOfLanguage : List Tree → Type 0
AreOfLanguage [] = Unit {0}
AreOfLanguage (t ∷ ts) = TermOfLanguage t × AreOfLanguage ts

-- The types of the terms of the language: such terms again, and the universe above Set.
abbrev pub TypeOfLanguage : Tree → Type 0
TypeOfLanguage (sort s) = IsUniverse s
TypeOfLanguage t = TermOfLanguage t

-- A context of variables with such types and no bodies.
abbrev pub assumptions : List Tree → Context
assumptions ts = map assumed ts
