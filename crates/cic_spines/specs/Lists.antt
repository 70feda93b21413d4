-- What shared terms stand for.
use Rattle.std.specs.Prelude.{List, map}
use Rattle.std.specs.declared.rc.Rc.{Rc}
use Rattle.std.specs.declared.alloc.Global.{Global}
use Rattle.cic_terms.specs.declared.term.Term.{Term}
use Rattle.cic_terms.specs.Tree.{Tree}
use Rattle.cic_terms.specs.Denotes.{tree}

abbrev pub shared_tree : Rc Term Global → Tree
shared_tree t = tree t.value

abbrev pub shared_trees : List (Rc Term Global) → List Tree
shared_trees = map shared_tree
