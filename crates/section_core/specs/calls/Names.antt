-- What the program's word for the hypotheses that a declaration may use stands for, and the names by which they are found.
use Rattle.std.specs.Prelude.{List, ◌++◌}
use Rattle.cic_names.specs.declared.name.GlobalId.{GlobalId}
use Rattle.cic_rules.specs.Environment.{Declaration}
use Rattle.section_terms.specs.Hypotheses.{Hypothesis}
use Rattle.section_terms.specs.Used.{statement_names, body_names}
use Rattle.section_core.specs.Sections.{Allowed, free, statement, every, listed}
use Rattle.section_core.specs.declared.using.Using.{Using}
use Rattle.section_core.specs.declared.using.Using.TheVariants.{Free, Statement, Every, Listed}

abbrev pub allowed : Using → Allowed
allowed Free = free
allowed Statement = statement
allowed Every = every
allowed (Listed ids) = listed ids.items

abbrev pub id_of : Hypothesis → GlobalId
id_of h = h.id

-- The names whose closed use a declaration is given.
abbrev pub names_for : Declaration → Allowed → List GlobalId
names_for d free = statement_names d ++ body_names d
names_for d statement = statement_names d
names_for d every = statement_names d
names_for d (listed ids) = statement_names d ++ ids
