-- The language of axioms: the types of its axioms are built of Prop, variables, constants and products.
use Rattle.std.specs.Prelude.{◌≡◌, ◌⊎◌, ℕ, [], ◌∷◌}
use Rattle.cic_terms.specs.Tree.{TreeSort, prop, Tree, rel, sort, prod, const}
use Rattle.cic_names.specs.declared.level.Level.TheVariants.{Set}
use Rattle.cic_rules.specs.Environment.{Declaration, axiom_of, Item, declared, Environment}
use Rattle.cic_counted.specs.Outcome.{Budget, Cause, unbound, not_sort}
use Rattle.cic_counted.specs.Inference.{next_level}

abbrev pub TermOfLanguage : Tree → Type 0
TermOfLanguage (rel x) = Unit {0}
TermOfLanguage (sort s) = s ≡ prop
TermOfLanguage (const c) = Unit {0}
TermOfLanguage (prod a b) = TermOfLanguage a × TermOfLanguage b
TermOfLanguage _ = ⊥

-- An axiom whose type is a term of the language, and an environment of such axioms alone.
abbrev pub IsOfLanguage : Declaration → Type 0
IsOfLanguage (axiom_of id type) = TermOfLanguage type
IsOfLanguage _ = ⊥

abbrev pub ItemOfLanguage : Item → Type 0
ItemOfLanguage (declared d) = IsOfLanguage d
ItemOfLanguage _ = ⊥

abbrev pub EnvironmentOfLanguage : Environment → Type 0
EnvironmentOfLanguage [] = Unit {0}
EnvironmentOfLanguage (item ∷ E) = ItemOfLanguage item × EnvironmentOfLanguage E

-- The universe above Set.
abbrev pub above_set : TreeSort
above_set = next_level Set

-- The sorts of the types of the language.
abbrev pub IsUniverse : TreeSort → Type 0
IsUniverse s = (s ≡ prop) ⊎ (s ≡ above_set)

-- Why an axiom of the language may be refused: an id or a variable is not there, or a term of the language is no sort.
abbrev pub CauseOfLanguage : Cause → Type 0
CauseOfLanguage (unbound what) = Unit {0}
CauseOfLanguage (not_sort depth form) = TermOfLanguage form
CauseOfLanguage _ = ⊥

-- The budget of which so much is left, where no constraint is found.
abbrev pub left : ℕ → Budget
left rest = record { rest = rest; found = [] }
