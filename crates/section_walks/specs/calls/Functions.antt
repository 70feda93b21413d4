-- What a walk answers that puts a function of a `fix` behind others.
use Rattle.std.specs.Prelude.{ℕ, List, [], ◌∷◌, ◌++◌, length, Bool, true, false, Option, Some, None, Result, IfOk, IfErr, OnOk, ◌≡◌}
use Rattle.std.specs.declared.rc.Rc.{Rc}
use Rattle.std.specs.declared.alloc.Global.{Global}
use Rattle.cic_terms.specs.Tree.{Tree, node, ConstF, IndF, CtorF, Children, no_child, join}
use Rattle.cic_terms.specs.Sizes.{ChildrenFit}
use Rattle.cic_terms.specs.Denotes.{tree, branches, branch_list, terms, term_list, shapes, bodies, shape, shape_list, body_list, body_parts}
use Rattle.cic_terms.specs.calls.Answer.{after, terms_after, HasParts}
use Rattle.cic_terms.specs.declared.term.Term.{Term}
use Rattle.cic_terms.specs.declared.term.Terms.{Terms}
use Rattle.cic_terms.specs.declared.term.Branch.{Branch}
use Rattle.cic_terms.specs.declared.term.Branches.{Branches}
use Rattle.cic_terms.specs.declared.term.FixBodies.{FixBodies}
use Rattle.cic_terms.specs.declared.term.FixBody.{FixBody}
use Rattle.cic_terms.specs.declared.term.TermFault.{TermFault}
use Rattle.cic_terms.specs.declared.term.TermFault.TheVariants.{Deep}

-- A constant, a type or a constructor
abbrev pub IsName : Tree → Type 0
IsName (node (ConstF id) no_child) = Unit {0}
IsName (node (IndF id) no_child) = Unit {0}
IsName (node (CtorF id) no_child) = Unit {0}
IsName t = ⊥

-- A function with these parts was put last, and whether a part of it is new.
pub record AddsFunction (one : FixBody) (made made' : List FixBody) (new_domains : Option Terms) (new_codomain new_body : Option (Rc Term Global)) (changed : Bool) : Type 0 where
  pub added : FixBody
  pub has_parts : HasParts one new_domains new_codomain new_body added
  pub is_last : made' ≡ made ++ added ∷ []
  pub domains : changed ≡ false → terms_after one.domains new_domains ≡ terms one.domains
  pub codomain : changed ≡ false → after (tree one.codomain) new_codomain ≡ tree one.codomain
  pub body : changed ≡ false → after (tree one.body) new_body ≡ tree one.body

-- A function of `all`, with the parts that are wanted, was put last. The answer says whether they changed.
pub record MakesFunction (room all : ℕ) (one : FixBody) (want : Children) (made made' : List FixBody) (result : Result Bool TermFault) : Type 0 where
  pub shapes : OnOk result (shape_list made' ≡ shape_list made ++ shape one ∷ [])
  pub parts : OnOk result (body_list all made' ≡ join (body_list all made) want)
  pub same : IfOk result (λ changed. changed ≡ false → want ≡ body_parts all one)
  pub fits : OnOk result (ChildrenFit room want)
  pub deep : IfErr result (λ fault. fault ≡ Deep → ¬ ChildrenFit room want)

-- The parts that were made, where one of them is new, and else nothing
abbrev pub AreBranches : (changed : Bool) → List Branch → Option (Rc Branches Global) → Type 0
AreBranches true made (Some r) = branches r.value ≡ branch_list made
AreBranches false made None = Unit {0}
AreBranches changed made r = ⊥

abbrev pub AreTerms : (changed : Bool) → List Term → Option Terms → Type 0
AreTerms true made (Some r) = terms r ≡ term_list 0 made
AreTerms false made None = Unit {0}
AreTerms changed made r = ⊥

abbrev pub AreFunctions : (changed : Bool) → List FixBody → Option (Rc FixBodies Global) → Type 0
AreFunctions true made (Some r) = (shapes r.value ≡ shape_list made) × (bodies r.value ≡ body_list (length made) made)
AreFunctions false made None = Unit {0}
AreFunctions changed made r = ⊥
