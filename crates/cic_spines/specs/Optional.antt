-- What a call answers that makes a term if there is one to make.
use Rattle.std.specs.Prelude.{ℕ, Option, option_map, IfSome, Result, IfOk, IfErr, OnOk, ◌≡◌}
use Rattle.std.specs.declared.rc.Rc.{Rc}
use Rattle.std.specs.declared.alloc.Global.{Global}
use Rattle.cic_terms.specs.declared.term.Term.{Term}
use Rattle.cic_terms.specs.declared.term.TermFault.{TermFault}
use Rattle.cic_terms.specs.declared.term.TermFault.TheVariants.{Deep}
use Rattle.cic_terms.specs.Tree.{Tree}
use Rattle.cic_terms.specs.Sizes.{Fits}
use Rattle.cic_spines.specs.Lists.{shared_tree}

-- Ok gives exactly the tree that there is, if any, and Deep comes exactly where it passes the limits.
pub record MakesIfAny (room : ℕ) (want : Option Tree) (result : Result (Option (Rc Term Global)) TermFault) : Type 0 where
  pub ok : IfOk result (λ r. option_map shared_tree r ≡ want)
  pub fits : OnOk result (IfSome want (Fits room))
  pub deep : IfErr result (λ fault. fault ≡ Deep → ¬ IfSome want (Fits room))
