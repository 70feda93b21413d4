-- What a call answers that makes a declaration.
use Rattle.std.specs.Prelude.{◌≡◌, Result, IfOk, IfErr, OnOk}
use Rattle.cic_env.specs.Declarations.{declaration}
use Rattle.cic_env.specs.declared.declaration.Decl.{Decl}
use Rattle.cic_rules.specs.Environment.{Declaration}
use Rattle.cic_terms.specs.declared.term.TermFault.{TermFault}
use Rattle.cic_terms.specs.declared.term.TermFault.TheVariants.{Deep}
use Rattle.section_terms.specs.Discharge.{DeclarationFits}

-- Ok gives exactly what is wanted, and Deep comes exactly where that passes the limits. `read` says what a value of the
-- program stands for, and `Within` what is within the limits.
pub record MakesWithin {A B : Type 0} (read : A → B) (Within : B → Type 0) (want : B) (result : Result A TermFault) : Type 0 where
  pub ok : IfOk result (λ made. read made ≡ want)
  pub fits : OnOk result (Within want)
  pub deep : IfErr result (λ fault. fault ≡ Deep → ¬ Within want)

abbrev pub MakesDeclaration : Declaration → Result Decl TermFault → Type 0
MakesDeclaration = MakesWithin declaration DeclarationFits
