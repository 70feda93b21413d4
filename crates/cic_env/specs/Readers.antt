-- What the readers of an environment give.
use Rattle.std.specs.Prelude.{ℕ}
use Rattle.cic_terms.specs.Denotes.{tree}
use Rattle.cic_rules.specs.Environment as rules
use Rattle.cic_env.specs.declared.readers.TypeOf.{TypeOf}
use Rattle.cic_env.specs.declared.readers.CtorOf.{CtorOf}

abbrev pub type_of : TypeOf → rules.InductiveType
type_of t = record { arity = tree t.arity.now; parameters = t.params }

abbrev pub ctor_of : CtorOf → rules.Constructor
ctor_of c = record { type = tree c.ty.now; owner = c.owner.now; place = c.place; parameters = c.params }

abbrev pub type_in_block : rules.Block → ℕ → rules.TypeInBlock
type_in_block b index = record { block = b; index = index }
