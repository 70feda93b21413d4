-- What a call answers that makes several terms, each judged by the limits, or one term over several that alone are judged.
use Rattle.std.specs.Prelude.{List, [], ◌∷◌, Vec, Result, IfOk, IfErr, OnOk, ◌≡◌}
use Rattle.std.specs.declared.rc.Rc.{Rc}
use Rattle.std.specs.declared.alloc.Global.{Global}
use Rattle.cic_terms.specs.declared.term.Term.{Term}
use Rattle.cic_terms.specs.declared.term.TermFault.{TermFault}
use Rattle.cic_terms.specs.declared.term.TermFault.TheVariants.{Deep}
use Rattle.cic_terms.specs.Tree.{Tree}
use Rattle.cic_terms.specs.Sizes.{Fits}
use Rattle.cic_spines.specs.Lists.{shared_tree, shared_trees}

-- Each of these is within the limits.
abbrev pub AllFit : List Tree → Type 0
AllFit [] = Unit {0}
AllFit (t ∷ ts) = Fits 4000 t × AllFit ts

-- Ok gives exactly these trees, and Deep comes exactly where one of them passes the limits.
pub record MakesEach (want : List Tree) (result : Result (Vec (Rc Term Global) Global) TermFault) : Type 0 where
  pub ok : IfOk result (λ made. shared_trees made.items ≡ want)
  pub fits : OnOk result (AllFit want)
  pub deep : IfErr result (λ fault. fault ≡ Deep → ¬ AllFit want)

-- Ok gives exactly the tree, and Deep comes exactly where one of those that are judged passes the limits.
pub record MakesOver (judged : List Tree) (want : Tree) (result : Result (Rc Term Global) TermFault) : Type 0 where
  pub ok : IfOk result (λ made. shared_tree made ≡ want)
  pub fits : OnOk result (AllFit judged)
  pub deep : IfErr result (λ fault. fault ≡ Deep → ¬ AllFit judged)
