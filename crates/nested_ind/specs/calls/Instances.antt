-- What the instances that the program keeps stand for.
use Rattle.std.specs.Prelude.{◌≡◌, true, false, Option, Some, None, List, Vec, map}
use Rattle.std.specs.declared.rc.Rc.{Rc}
use Rattle.std.specs.declared.alloc.Global.{Global}
use Rattle.cic_terms.specs.declared.term.Term.{Term}
use Rattle.cic_terms.specs.Tree.{Tree}
use Rattle.cic_rules.specs.Nested as rules
use Rattle.cic_rules.specs.Nested.{lift_instance, lift_instances}
use Rattle.cic_counted.specs.NestedTest.{are_small, are_small_instances}
use Rattle.cic_spines.specs.Lists.{shared_trees}
use Rattle.cic_positivity.specs.calls.Parts.{ids_of}
use Rattle.nested_ind.specs.declared.instances.Instance.{Instance}

abbrev pub instance : Instance → rules.Instance
instance i = record { types = ids_of i.types.now; parameters = shared_trees i.parameters.items }

abbrev pub instances : List Instance → List rules.Instance
instances = map instance

-- The terms that are wanted, where they are within the limits.
abbrev pub AreSmall : List Tree → Option (Vec (Rc Term Global) Global) → Type 0
AreSmall want None = are_small want ≡ false
AreSmall want (Some made) = (are_small want ≡ true) × (shared_trees made.items ≡ want)

-- An instance lifted, and all of a list.
abbrev pub IsLifted : rules.Instance → Option Instance → Type 0
IsLifted i None = are_small (lift_instance i).parameters ≡ false
IsLifted i (Some made) = (are_small (lift_instance i).parameters ≡ true) × (instance made ≡ lift_instance i)

abbrev pub AreLifted : List rules.Instance → Option (Vec Instance Global) → Type 0
AreLifted L None = are_small_instances (lift_instances L) ≡ false
AreLifted L (Some made) = (are_small_instances (lift_instances L) ≡ true) × (instances made.items ≡ lift_instances L)
