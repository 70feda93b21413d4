-- The command that a value of the program stands for.
use Rattle.std.specs.Prelude.{List, map}
use Rattle.std.specs.Option.{option_map}
use Rattle.gal_grammar.specs.Commands as C
use Rattle.gal_raw.specs.Denotes.{tree, identifier, qualified, groups, functions}
use Rattle.gal_raw.specs.declared.commands.Level.{Level}
use Rattle.gal_raw.specs.declared.commands.Level.TheVariants as L
use Rattle.gal_raw.specs.declared.commands.Relation.{Relation}
use Rattle.gal_raw.specs.declared.commands.Relation.TheVariants as R
use Rattle.gal_raw.specs.declared.commands.Constraint.{Constraint}
use Rattle.gal_raw.specs.declared.commands.Constructor.{Constructor}
use Rattle.gal_raw.specs.declared.commands.Inductive.{Inductive}
use Rattle.gal_raw.specs.declared.commands.Flag.{Flag}
use Rattle.gal_raw.specs.declared.commands.Flag.TheVariants as F
use Rattle.gal_raw.specs.declared.commands.Using.{Using}
use Rattle.gal_raw.specs.declared.commands.Using.TheVariants as U
use Rattle.gal_raw.specs.declared.commands.Ending.{Ending}
use Rattle.gal_raw.specs.declared.commands.Ending.TheVariants as E
use Rattle.gal_raw.specs.declared.commands.Proof.{Proof}
use Rattle.gal_raw.specs.declared.commands.Proof.TheVariants as P
use Rattle.gal_raw.specs.declared.commands.Command.{Command}
use Rattle.gal_raw.specs.declared.commands.Command.TheVariants as K
use Rattle.gal_raw.specs.declared.commands.Commands.{Commands}

abbrev pub level : Level → C.Level
level L.Set = C.level_set
level (L.Named x) = C.level_of (qualified x)

abbrev pub relation : Relation → C.Relation
relation R.Less = C.less
relation R.AtMost = C.at_most
relation R.Equal = C.equal

abbrev pub constraint : Constraint → C.Cons
constraint c = C.cons (level c.left) (relation c.relation) (level c.right)

abbrev pub constructor : Constructor → C.Ctor
constructor c = C.ctor (identifier c.name) (groups c.groups) (option_map tree c.ty)

abbrev pub inductive : Inductive → C.Ind
inductive i = C.ind (identifier i.name) (groups i.groups) (tree i.ty) (map constructor i.constructors.items)

abbrev pub flag : Flag → C.Flag
flag F.Plain = C.plain
flag F.Import = C.import
flag F.Export = C.export

abbrev pub using : Using → C.Using
using U.NotSaid = C.not_said
using U.«Type» = C.using_type
using U.All = C.using_all
using (U.Names xs) = C.using_names (map identifier xs.items)

abbrev pub ending : Ending → C.How
ending E.Qed = C.qed
ending E.Defined = C.defined
ending E.Admitted = C.given_up

abbrev pub proof : Proof → C.Proof
proof (P.Given u t e) = C.proof (using u) (tree t) (ending e)
proof (P.Missing u) = C.no_proof (using u)

abbrev pub command : Command → C.Command
command (K.Require p f xs) = C.require (option_map identifier p) (flag f) (map qualified xs.items)
command (K.Universe xs) = C.universe (map identifier xs.items)
command (K.Constraint cs) = C.constraint (map constraint cs.items)
command (K.Axiom g) = C.axiom_of (groups g)
command (K.Variable g) = C.variable_of (groups g)
command (K.Definition x g a t) = C.definition (identifier x) (groups g) (tree a) (tree t)
command (K.DefinitionBy x g a p) = C.definition_by (identifier x) (groups g) (tree a) (proof p)
command (K.Local x g a t) = C.local_of (identifier x) (groups g) (tree a) (tree t)
command (K.Fixpoint fs) = C.fixpoint (functions fs)
command (K.Inductive is) = C.inductive (map inductive is.items)
command (K.Theorem x g a p) = C.theorem (identifier x) (groups g) (tree a) (proof p)
command (K.Section x) = C.section (identifier x)
command (K.End x) = C.finish (identifier x)

abbrev pub commands : Commands → List C.Command
commands cs = map command cs.items.items
