-- What the parts of typing answer.
use Rattle.std.specs.Prelude.{Vec, List}
use Rattle.std.specs.declared.rc.Rc.{Rc}
use Rattle.std.specs.declared.alloc.Global.{Global}
use Rattle.cic_terms.specs.declared.term.Term.{Term}
use Rattle.cic_terms.specs.Tree.{Tree}
use Rattle.cic_counted.specs.Inference as I
use Rattle.cic_spines.specs.Lists.{shared_tree, shared_trees}
use Rattle.typing_parts.specs.declared.readings.Product.{Product}

-- What values stand for.
abbrev pub made_trees : Vec (Rc Term Global) Global → List Tree
made_trees made = shared_trees made.items

abbrev pub product : Product → I.Product
product p = record { domain = shared_tree p.domain; codomain = shared_tree p.codomain }
